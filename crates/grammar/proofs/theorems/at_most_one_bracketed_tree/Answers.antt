use Rattle.grammar.proofs.Uniqueness.{at_most_one_bracketed_tree}
use Rattle.grammar.proofs.theorems.at_most_one_bracketed_tree.Goals as goal

pub returns : goal.returns
returns c = at_most_one_bracketed_tree
