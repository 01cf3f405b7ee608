use Rattle.rack.specs.Racks.{SoundBelow}
use Rattle.rack.proofs.checking.check_nodes.Given as goal

abbrev pub invariant-loop-place : goal.invariant-loop-place
invariant-loop-place l = SoundBelow l.rack l.place
