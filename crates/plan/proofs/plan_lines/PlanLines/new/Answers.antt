use Rattle.std.proofs.Common.{refl}
use Rattle.plan.specs.PlanLinesAhead.{plan_ahead}
use Rattle.plan.proofs.plan_lines.PlanLines.new.Goals as goal

pub returns : goal.returns
unfolding plan_ahead
returns c = record { ahead = refl; count = refl }
