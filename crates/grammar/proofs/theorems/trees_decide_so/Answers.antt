use Rattle.grammar.proofs.Takers.{trees_decide_so}
use Rattle.grammar.proofs.theorems.trees_decide_so.Goals as goal

pub returns : goal.returns
returns c = trees_decide_so
