use Rattle.std.proofs.Common.{◌≡◌, ◌+◌, ◌∷◌, List, ℕ, suc, length, drop, take, Some, None, sym, refl, ap, ◌∙◌, subst, ⊎_elim, arith, rules}
use Rattle.std.proofs.iter.Next.{firm}
use Rattle.std.specs.List.{AllByRecursion}
use Rattle.tokens.specs.declared.token.TokenKind.{TokenKind}
use Rattle.tokens.specs.declared.token.TokenKind.TheVariants.{Word, Symbol}
use Rattle.tokens.specs.Cutters.{ahead}
use Rattle.tokens.specs.Tokens.{kind_in, kind_of, together, tokens_from}
use Rattle.tokens.proofs.Cuts.{token}
use Rattle.tokens.proofs.Runs.{gap_passed, at_end, run_token, bracket_token}
use Rattle.tokens.proofs.cutting.CutterIterator.next.Goals as goal
use Rattle.tokens.proofs.cutting.CutterIterator.next.Goals.{in-Word, in-Symbol, in-Open}

pub loop-first-preserved : goal.loop-first-preserved
unfolding kind_of
loop-first-preserved c =
    let s = c.loop-first.self in
    let cut = c.cut.ensures in
    let split = c.in-Some.ensures.cases.0 in
    let none : kind_of c.in-Some.first.now ≡ None = ap kind_in (sym c.of.ensures) ∙ sym c.kind.ensures ∙ c.in_default-kind.is in
    let gap = c.run_len.ensures in
    let n = c.run_len.result in
    let one : suc n ≡ 1 + n = omega arith in
    let front : AllByRecursion (λ b. kind_of b ≡ None) (take (1 + n) (c.in-Some.first.now ∷ c.in-Some.more.now)) = subst (λ m. AllByRecursion (λ b. kind_of b ≡ None) (take m (c.in-Some.first.now ∷ c.in-Some.more.now))) one (none, gap.alike) in
    c.loop-first.invariant
    ∙ gap_passed s.rest.now s.place (1 + n) (omega (arith, ap length split, gap.within)) (subst (λ (l : List ℕ). AllByRecursion (λ b. kind_of b ≡ None) (take (1 + n) l)) (sym split) front)
    ∙ (λ i. tokens_from (sym cut.place i) (sym cut.rest i))

pub returns-in-Some : goal.returns-in-Some
unfolding ahead kind_of
returns-in-Some c =
    let s = c.loop-first.self in
    let next = c.cut-bytes.ensures in
    let b = c.in-Some.first.now in
    let more = c.in-Some.more.now in
    let k : TokenKind = c.in-Some-kind.kind in
    let len = c.match-kind-2.len in
    let is : kind_of b ≡ Some k = ap kind_in (sym c.of.ensures) ∙ sym c.kind.ensures ∙ c.in-Some-kind.is in
    let here : tokens_from s.place (b ∷ more) ≡ token k s.place (take len (b ∷ more)) ∷ tokens_from (s.place + len) (drop len (b ∷ more)) =
    elim c.match-kind-2.branch [
      | in-Word w ↦ rw (w.len-is, w.in-Word.is) (run_token Word b more s.place (is ∙ ap Some w.in-Word.is) refl _ w.run_len-in-Word.ensures.within w.run_len-in-Word.ensures.alike w.run_len-in-Word.ensures.longest)
      | in-Symbol w ↦ rw (w.len-is, w.in-Symbol.is) (run_token Symbol b more s.place (is ∙ ap Some w.in-Symbol.is) refl _ w.run_len-in-Symbol.ensures.within w.run_len-in-Symbol.ensures.alike w.run_len-in-Symbol.ensures.longest)
      | in-Open w ↦ rw w.len-is (bracket_token k b more s.place is (⊎_elim (λ e. ap (λ j. together j j) e) (λ e. ap (λ j. together j j) e) w.in-Open.is))
    ] in
    let front : b ∷ more ≡ s.rest.now = sym c.in-Some.ensures.cases.0 in
    let made = ap (token k s.place) (ap (take len) front ∙ sym next.bytes) ∙ sym c.new.ensures in
    let steps =
    c.loop-first.invariant
    ∙ (λ i. tokens_from s.place (sym front i))
    ∙ here
    ∙ (λ i. made i ∷ tokens_from (sym next.place i) ((ap (drop len) front ∙ sym next.rest) i)) in
    record { steps = steps; goes = firm ((tt, tt, omega (arith, ap length steps))) (λ h. search rules) }

pub returns : goal.returns
unfolding ahead
returns c = record { steps = c.loop-first.invariant ∙ at_end _ _ c.in_default.ensures.cases; goes = firm (tt) (λ h. search rules) }
