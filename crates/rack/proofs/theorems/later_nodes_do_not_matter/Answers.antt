use Rattle.rack.proofs.Keeping.{later_nodes}
use Rattle.rack.proofs.theorems.later_nodes_do_not_matter.Goals as goal

pub returns : goal.returns
returns c = later_nodes
