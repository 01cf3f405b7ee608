use Rattle.std.proofs.Common.{◌≡◌, ℕ, rules, tests}
use Rattle.std.proofs.lemmas.Iterator.{IsFirst-from_position, YieldsList-from_slice}
use Rattle.std.proofs.lemmas.Option.{MatchOption-at_none, MatchOption-at_some}
use Rattle.notation.proofs.Lines.{no_field, field_at}
use Rattle.notation.proofs.declaration.split_field.Goals as goal

pub returns-in_err-place : goal.returns-in_err-place
returns-in_err-place c =
    let first = IsFirst-from_position _ _ c.position.result (λ (b : ℕ). b ≡ 32) (λ (b : ℕ). b ≡ 32 → ⊥) c.position.ensures.ran (YieldsList-from_slice c.args.text.now cc) (λ x q k. search (rules, tests)) (λ x q k. search (rules, tests)) in
    rw c.from_residual.ensures (λ x y _. no_field c.args.text.now (MatchOption-at_none _ _ c.in_err-place.was first) x y)

pub returns : goal.returns
returns c =
    let first = IsFirst-from_position _ _ c.position.result (λ (b : ℕ). b ≡ 32) (λ (b : ℕ). b ≡ 32 → ⊥) c.position.ensures.ran (YieldsList-from_slice c.args.text.now cc) (λ x q k. search (rules, tests)) (λ x q k. search (rules, tests)) in
    field_at c.args.text.now c.in_ok-place.place c.if-place-eq0.false (MatchOption-at_some _ _ _ c.in_ok-place.was first)
