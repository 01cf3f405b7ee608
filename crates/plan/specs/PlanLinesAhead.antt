-- What is still to come of the lines of a plan.
use Rattle.std.specs.Prelude.{◌≡◌, ℕ, ◌+◌, ◌<◌, List, [], ◌∷◌, Some, None, Option}
use Rattle.plan.specs.declared.numbered_lines.NumberedLine.{NumberedLine}
use Rattle.plan.specs.declared.plan_lines.PlanLines.{PlanLines}
use Rattle.plan.specs.NumberedAhead.{numbered_ahead}
use Rattle.plan.specs.Plans.{up_to_tail}

-- the lines of the plan that are to come
unfoldable pub plan_ahead : PlanLines → List (List ℕ)
plan_ahead s = up_to_tail (numbered_ahead s.lines)

-- how many lines of the input came before
abbrev pub plan_count : PlanLines → ℕ
plan_count s = s.lines.count

-- one call of `next`: the first of the lines that were to come, with its number, or none if there was none
abbrev pub NextLine : PlanLines → Option NumberedLine → PlanLines → Type 0
NextLine s None t = plan_ahead s ≡ []
NextLine s (Some l) t =
    (plan_ahead s ≡ l.bytes.now ∷ plan_ahead t) × (plan_count s < 99999) × (l.number ≡ plan_count s + 1) × (plan_count t ≡ plan_count s + 1)
