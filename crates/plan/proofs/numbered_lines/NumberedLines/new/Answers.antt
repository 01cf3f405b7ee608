use Rattle.std.proofs.Common.{take, refl, ap}
use Rattle.plan.specs.NumberedAhead.{numbered_ahead}
use Rattle.plan.proofs.numbered_lines.NumberedLines.new.Goals as goal

pub returns : goal.returns
unfolding numbered_ahead
returns c = record { ahead = ap (take 99999) c.new.ensures.ahead; count = refl }
