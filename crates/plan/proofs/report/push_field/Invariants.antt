use Rattle.std.proofs.Common.{◌≡◌, ◌++◌, take, vec_items, vec_capacity}
use Rattle.plan.proofs.report.push_field.Given as goal

abbrev pub invariant-loop-digit : goal.invariant-loop-digit
invariant-loop-digit l = (vec_items l.out ≡ vec_items l.initial.out ++ take l.digit-index l.digit-items) × (vec_capacity l.out ≡ vec_capacity l.initial.out)
