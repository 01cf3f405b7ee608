use Rattle.rack.proofs.Lying.{one_tree_lies}
use Rattle.rack.proofs.theorems.one_tree_lies.Goals as goal

pub returns : goal.returns
returns c = one_tree_lies
