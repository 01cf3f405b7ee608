use Rattle.std.proofs.Common.{refl}
use Rattle.plan.specs.LinesAhead.{ahead}
use Rattle.plan.proofs.Splits.{lines}
use Rattle.plan.proofs.input_lines.InputLines.new.Goals as goal

pub returns : goal.returns
unfolding ahead
returns c = record { ahead = refl; lines = lines c.args.input.now }
