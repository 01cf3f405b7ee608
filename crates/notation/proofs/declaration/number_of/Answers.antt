use Rattle.std.proofs.Common.{◌≡◌, ◌+◌, ◌*◌, ◌≤◌, true, length, get_or, take, sym, ap, ◌∙◌, subst, arith}
use Rattle.std.specs.List.{AllByRecursion}
use Rattle.std.proofs.ByRecursion.{All-get_or, All-more}
use Rattle.std.proofs.lemmas.List.{take_more, take_all}
use Rattle.std.proofs.lemmas.Bool.{both_ways, eqb-false}
use Rattle.tokens.specs.Bytes.{is_digit}
use Rattle.notation.specs.Lines.{decimal}
use Rattle.notation.proofs.Lines.{decimal_push, decimal_small, small_front}
use Rattle.notation.proofs.declaration.number_of.Goals as goal

pub returns-then-not-is_ascii_digit : goal.returns-then-not-is_ascii_digit
returns-then-not-is_ascii_digit c n h =
    both_ways _ (sym c.if-not-is_ascii_digit.ensures.value) (All-get_or (λ b. is_digit b ≡ true) c.args.digits.now c.loop-digit.digit-index 0 c.loop-digit-test.true h.each)

-- before a fourth digit the value is small
pub overflow_mul-value : goal.overflow_mul-value
overflow_mul-value c =
    let few : length (take c.loop-digit.digit-index c.args.digits.now) ≤ 3 = small_front _ _ c.loop-digit-test.true c.if-digits-gt-MAX_DIGITS.false in
    omega (arith, c.loop-digit.invariant.0, decimal_small (take c.loop-digit.digit-index c.args.digits.now) c.loop-digit.invariant.1 few)

pub overflow_add-value : goal.overflow_add-value
overflow_add-value c =
    let few : length (take c.loop-digit.digit-index c.args.digits.now) ≤ 3 = small_front _ _ c.loop-digit-test.true c.if-digits-gt-MAX_DIGITS.false in
    omega (arith, c.loop-digit.invariant.0, decimal_small (take c.loop-digit.digit-index c.args.digits.now) c.loop-digit.invariant.1 few, c.from.ensures, c.if-not-is_ascii_digit.ensures.cases)

pub loop-digit-preserved : goal.loop-digit-preserved
loop-digit-preserved c =
    let digits = c.args.digits.now in
    let i = c.loop-digit.digit-index in
    let lt = c.loop-digit-test.true in (
      (λ k. c.loop-digit.invariant.0 k * 10 + c.from.ensures k) ∙ sym (decimal_push (take i digits) (get_or digits i 0)) ∙ ap decimal (sym (take_more digits i 0 lt)),
      All-more (λ b. is_digit b ≡ true) digits i 0 lt c.loop-digit.invariant.1 (sym c.if-not-is_ascii_digit.ensures.value),
    )

pub returns : goal.returns
returns c =
    let all = take_all c.loop-digit.digit-index c.args.digits.now c.loop-digit-test.false in
    record {
      some = let ne = eqb-false (length c.args.digits.now) 0 (sym c.if-is_empty.ensures) in omega arith;
      few = c.if-digits-gt-MAX_DIGITS.false;
      each = subst (AllByRecursion (λ b. is_digit b ≡ true)) all c.loop-digit.invariant.1;
      value = c.loop-digit.invariant.0 ∙ ap decimal all;
    }
