use Rattle.std.proofs.Common.{◌≡◌, ◌<◌, ◌≤◌, length, get_or, take, drop, refl, ap, ◌∙◌, arith, rules}
use Rattle.std.proofs.lemmas.List.Sums.{prefix_len-le-length}
use Rattle.tokens.specs.Bytes.{is_digit}
use Rattle.plan.proofs.Parts.{tab_first, is_plan_line, only_plan_line, no_plan_line}
use Rattle.plan.proofs.plan_line.PlanLine.parse.Goals as goal
use Rattle.plan.proofs.plan_line.PlanLine.parse.Goals.{in_default-via-then-rest-lt1, in_default-via-in-9+else-contains, in_default-via-else-rest-lt1+in_default-1}

pub split_at-requires : goal.split_at-requires
split_at-requires c = omega (arith, c.leading_digits.ensures, prefix_len-le-length is_digit c.args.line.now)

pub returns-in-9 : goal.returns-in-9
returns-in-9 c =
    let digits = c.split_at.result.0.now in
    let rest = c.split_at.result.1.now in
    let front = c.split_at.ensures.front ∙ ap (λ n. take n c.args.line.now) c.leading_digits.ensures in
    let back = c.split_at.ensures.back ∙ ap (λ n. drop n c.args.line.now) c.leading_digits.ensures in
    let tab : get_or rest 0 0 ≡ 9 = search rules in
    let some : 1 ≤ length digits = search rules in
    let few : length digits ≤ 8 = search rules in
    let e = tab_first rest c.in-9.len_at_least tab in
    record { answer = is_plan_line c.args.line.now digits rest front back _ e some few; only = only_plan_line c.args.line.now digits rest front back _ e }

pub returns-in_default-clause-answer : goal.returns-in_default-clause-answer
returns-in_default-clause-answer c =
    let digits = c.split_at.result.0.now in
    let rest = c.split_at.result.1.now in
    let front = c.split_at.ensures.front ∙ ap (λ n. take n c.args.line.now) c.leading_digits.ensures in
    let back = c.split_at.ensures.back ∙ ap (λ n. drop n c.args.line.now) c.leading_digits.ensures in
    let wrong : 1 ≤ length digits → length digits ≤ 8 → 1 ≤ length rest → get_or rest 0 0 ≡ 9 → ⊥ =
    elim c.in_default.branch [
      | in_default-via-then-rest-lt1 w ↦ (let none : length rest < 1 = search rules in λ _ _ some _. omega arith)
      | in_default-via-in-9+else-contains w ↦ (let many : 1 ≤ length digits → length digits ≤ 8 → ⊥ = search rules in λ some few _ _. many some few)
      | in_default-via-else-rest-lt1+in_default-1 w ↦ (let other : get_or rest 0 0 ≡ 9 → ⊥ = search rules in λ _ _ _ tab. other tab)
    ] in
    (no_plan_line c.args.line.now digits rest front back wrong, refl)
