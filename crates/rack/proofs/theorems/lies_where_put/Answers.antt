use Rattle.rack.proofs.Keeping.{sound_where_put}
use Rattle.rack.proofs.Postorder.{lies_where_put}
use Rattle.rack.proofs.theorems.lies_where_put.Goals as goal

pub returns : goal.returns
returns c = record { lies = lies_where_put; sound = sound_where_put }
