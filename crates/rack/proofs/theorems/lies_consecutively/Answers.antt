use Rattle.rack.proofs.Postorder.{lies_consecutively}
use Rattle.rack.proofs.theorems.lies_consecutively.Goals as goal

pub returns : goal.returns
returns c = lies_consecutively
