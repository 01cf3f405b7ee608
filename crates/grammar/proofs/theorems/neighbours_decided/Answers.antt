use Rattle.grammar.proofs.Takers.{neighbours_decided}
use Rattle.grammar.proofs.theorems.neighbours_decided.Goals as goal

pub returns : goal.returns
returns c = neighbours_decided
