use Rattle.std.proofs.Common.{refl}
use Rattle.tokens.specs.Cutters.{ahead}
use Rattle.tokens.proofs.Cuts.{tokens}
use Rattle.tokens.proofs.cutter.Cutter.new.Goals as goal

pub returns : goal.returns
unfolding ahead
returns c = record { ahead = refl; tokens = tokens _ }
