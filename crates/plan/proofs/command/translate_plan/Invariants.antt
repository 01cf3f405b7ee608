use Rattle.std.proofs.Common.{◌≤◌, vec_items, vec_capacity}
use Rattle.plan.specs.AnyNotations.{any_table}
use Rattle.plan.specs.NumberedAhead.{numbered_ahead}
use Rattle.plan.specs.PlanLinesAhead.{plan_ahead, plan_count}
use Rattle.plan.specs.Plans.{up_to_tail}
use Rattle.plan.proofs.Outputs.{Sofar}
use Rattle.plan.proofs.command.translate_plan.Given as goal

abbrev pub invariant-loop-line : goal.invariant-loop-line
invariant-loop-line l =
    (goal.iterator-loop-line).can_next l.line-iterator ×
    (goal.iterator-loop-line).is_finite l.line-iterator ×
    Sofar (any_table l.notation) (up_to_tail (numbered_ahead l.fn.lines)) l.fn.lines.count (vec_items l.initial.out) (vec_capacity l.initial.out) (plan_ahead l.line-iterator) (plan_count l.line-iterator) (vec_items l.out) l.tally.lines l.tally.pairs ×
    (vec_capacity l.initial.out ≤ vec_capacity l.out)
