use Rattle.rack.proofs.Readable.{read_proper}
use Rattle.rack.proofs.theorems.read_trees_are_proper.Goals as goal

pub returns : goal.returns
returns c = read_proper
