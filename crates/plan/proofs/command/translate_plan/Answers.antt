use Rattle.std.proofs.Common.{◌≡◌, ℕ, ◌+◌, ◌≤◌, cond, List, ◌++◌, length, is_ok, IfOk, Ok, Err, vec_items, vec_capacity, Result, ap, ◌∙◌, sym, subst, arith}
use Rattle.std.specs.declared.alloc.AllocError.{AllocError}
use Rattle.std.proofs.lemmas.List.{length-append}
use Rattle.plan.specs.AnyNotations.{any_table}
use Rattle.plan.specs.NumberedAhead.{numbered_ahead}
use Rattle.plan.specs.PlanLinesAhead.{plan_ahead, plan_count}
use Rattle.plan.specs.Plans.{ComesOut, up_to_tail, PlanOutput}
use Rattle.plan.proofs.Outputs.{Sofar, sofar_none, sofar_more, sofar_end, few_pairs}
use Rattle.plan.proofs.command.translate_plan.Goals as goal
use Rattle.plan.proofs.command.translate_plan.Goals.{In_ok-outcome}

pub loop-line-init : goal.loop-line-init
loop-line-init c =
    let is = c.into_iter-line-iterator.ensures.into_iter_gives in
    let ahead = ap plan_ahead is ∙ c.new-line-items.ensures.ahead in
    let count = ap plan_count is ∙ c.new-line-items.ensures.count in
    let none = c.default-tally.ensures in
    let t = any_table c.args.notation.now in
    let all = up_to_tail (numbered_ahead c.args.lines) in
    let before = c.args.lines.count in
    let out = vec_items c.args.out.now in
    let cap = vec_capacity c.args.out.now in
    let sofar : Sofar t all before out cap all before out c.default-tally.result.lines c.default-tally.result.pairs = rw (none.0, none.1) (sofar_none t all before out cap) in (
      tt,
      tt,
      subst (λ n. Sofar t all before out cap (plan_ahead c.into_iter-line-iterator.result) n out c.default-tally.result.lines c.default-tally.result.pairs) (sym count) (subst (λ (ls : List (List ℕ)). Sofar t all before out cap ls before out c.default-tally.result.lines c.default-tally.result.pairs) (sym ahead) sofar),
      omega arith,
    )

-- the line comes out with its number, one more than those before it
came : (c : In_ok-outcome) → ComesOut (any_table c.args.notation.now) (plan_count c.loop-line.line-iterator + 1) c.in-Some.line.bytes.now c.in_ok-outcome.outcome c.in_ok-outcome.ensures.answer.0
came c =
    subst (λ n. ComesOut (any_table c.args.notation.now) n c.in-Some.line.bytes.now c.in_ok-outcome.outcome c.in_ok-outcome.ensures.answer.0) c.in-Some.ensures.steps.2 c.in_ok-outcome.ensures.answer.2.is

pub count-requires-clause-pairs : goal.count-requires-clause-pairs
count-requires-clause-pairs c =
    let step = c.in-Some.ensures.steps in
    omega (arith, c.loop-line.invariant.2.few_pairs, step.1, few_pairs (any_table c.args.notation.now) _ _ c.in_ok-outcome.outcome _ (came (goal.at.count-requires-clause-pairs c).In_ok-outcome))

pub loop-line-preserved : goal.loop-line-preserved
loop-line-preserved c =
    let told = c.in_ok-outcome.ensures in
    let bytes = told.answer.0 in
    let step = c.in-Some.ensures.steps in
    let out = c.loop-line.out in
    let short : length bytes ≤ length c.in-Some.line.bytes.now + 65 = omega (arith, told.room.len, ap length told.answer.1, length-append (vec_items out) bytes, out.ok.0, c.translate_line.new.out.ok.0) in (
      tt,
      tt,
      sofar_more (any_table c.args.notation.now) (up_to_tail (numbered_ahead c.args.lines)) c.args.lines.count (vec_items c.args.out.now) (vec_capacity c.args.out.now) (plan_ahead c.loop-line.line-iterator) (plan_count c.loop-line.line-iterator) (vec_items out) c.loop-line.tally.lines c.loop-line.tally.pairs c.loop-line.invariant.2 c.in-Some.line.bytes.now (plan_ahead c.next.new.self) step.0
          c.in_ok-outcome.outcome bytes (came (goal.at.loop-line-preserved c).In_ok-outcome) short _ _ _ _ step.3 told.answer.1 c.count.ensures.lines c.count.ensures.pairs,
      omega (arith, c.loop-line.invariant.3, told.room.capacity),
    )

-- the tail is put, or memory was wanting and nothing is
after_tail : (P : List ℕ → Type 0) (start out final tail : List ℕ) (r : Result (Unit {0}) AllocError) → ((added : List ℕ) × (out ≡ start ++ added)) → ((added : List ℕ) × (out ++ tail ≡ start ++ added) × P added) → final ≡ cond (is_ok r) (out ++ tail) out
    → (added : List ℕ) × (final ≡ start ++ added) × IfOk r (λ _. P added)
after_tail P start out final tail (Ok x) some all e = (all.0, e ∙ all.1, all.2)
after_tail P start out final tail (Err x) some all e = (some.0, e ∙ some.1, tt)

pub returns-clause-answer : goal.returns-clause-answer
returns-clause-answer c =
    let sofar = c.loop-line.invariant.2 in
    let end = c.in-None.ensures.steps in
    after_tail (PlanOutput (any_table c.args.notation.now) c.args.lines.count (up_to_tail (numbered_ahead c.args.lines))) _ _ _ _ _ (_, sofar.bytes) (sofar_end _ _ _ _ _ _ _ _ _ _ sofar end) c.push_tail.ensures.bytes
