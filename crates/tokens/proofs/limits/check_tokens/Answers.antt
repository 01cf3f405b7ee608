use Rattle.std.proofs.Common.{◌≡◌, ℕ, None, Option, inl, ap, ◌∙◌, subst, arith}
use Rattle.std.specs.Iterator.Adapters.{enumerate_source, enumerate_count}
use Rattle.tokens.specs.Cutters.{ahead}
use Rattle.tokens.specs.Tokens.{placed, tokens_of}
use Rattle.tokens.proofs.Checks.{Counted, counted_none, counted_more, counted_fits, counted_all, long_found, long_other}
use Rattle.tokens.proofs.limits.check_tokens.Goals as goal

pub loop-count-init : goal.loop-count-init
loop-count-init c =
    let text = c.args.text.now in
    let it = c.into_iter-count-iterator.result in
    let start = c.into_iter-count-iterator.ensures.into_iter_gives in
    let all : ahead (enumerate_source it) ≡ tokens_of text = ap (λ e. ahead (enumerate_source e)) start ∙ ap ahead c.enumerate-count-items.ensures.source ∙ c.new.ensures.ahead in
    let zero : enumerate_count it ≡ 0 = ap enumerate_count start ∙ c.enumerate-count-items.ensures.count in
    let counted : Counted text (ahead (enumerate_source it)) (enumerate_count it) None = rw (all, zero) (counted_none text) in
    ((tt, tt, inl (omega (arith, counted_fits _ _ _ _ counted, c.well_formed))), tt, counted)

pub loop-count-preserved-then-is_long_word : goal.loop-count-preserved-then-is_long_word
loop-count-preserved-then-is_long_word c =
    let word = placed c.in-Some.token in
    let steps = c.in-Some.ensures.steps in
    let long = c.loop-count.long_word in
    let counted = counted_more _ _ _ word _ _ long c.or-long_word.result c.loop-count.invariant.2 steps.0 steps.2 (λ e. c.if-count-eq-MAX_TOKENS.false (steps.1 ∙ e)) (λ before h. rw (c.or-long_word.ensures, c.place-then-is_long_word.ensures) (long_found before word long h c.if-is_long_word.ensures)) in
    ((tt, tt, inl (omega (arith, counted_fits _ _ _ _ counted, c.well_formed))), tt, counted)

pub loop-count-preserved : goal.loop-count-preserved
loop-count-preserved c =
    let steps = c.in-Some.ensures.steps in
    let long = c.loop-count.long_word in
    let counted = counted_more _ _ _ _ _ _ long long c.loop-count.invariant.2 steps.0 steps.2 (λ e. c.if-count-eq-MAX_TOKENS.false (steps.1 ∙ e)) (λ before h. long_other before _ long h c.if-is_long_word.ensures) in
    ((tt, tt, inl (omega (arith, counted_fits _ _ _ _ counted, c.well_formed))), tt, counted)

pub returns-in-None-long_word-clause-answer : goal.returns-in-None-long_word-clause-answer
returns-in-None-long_word-clause-answer c =
    let it = c.loop-count.count-iterator in
    let none = subst (λ (o : Option ℕ). Counted c.args.text.now (ahead (enumerate_source it)) (enumerate_count it) o) c.in-None-long_word.is c.loop-count.invariant.2 in
    counted_all _ _ _ none c.in-None.ensures.steps.0
