-- The lines of a plan among the lines of its input. Assumes nothing.
use Rattle.std.proofs.Common.{◌≡◌, ℕ, zero, suc, ◌+◌, ◌-◌, ◌<◌, ◌≤◌, Bool, true, false, cond, List, [], ◌∷◌, take, refl, ap, ◌∙◌, arith}
use Rattle.plan.specs.Plans.{begins_tail, up_to_tail}

take_none : (k : ℕ) → take {A = List ℕ} k [] ≡ []
take_none zero = refl
take_none (suc k) = refl

module _ (n : ℕ) (ls : List (List ℕ)) where
  pub count_full : 99999 ≤ n → take (99999 - n) ls ≡ []
  count_full full = let e : 99999 - n ≡ 0 = omega arith in ap (λ k. take k ls) e

  pub count_end : ls ≡ [] → take (99999 - n) ls ≡ []
  count_end e = ap (take (99999 - n)) e ∙ take_none (99999 - n)

  pub count_more : (l : List ℕ) (rest : List (List ℕ)) → ls ≡ l ∷ rest → n < 99999 → take (99999 - n) ls ≡ l ∷ take (99999 - (n + 1)) rest
  count_more l rest next room =
      let e : 99999 - n ≡ suc (99999 - (n + 1)) = omega arith in
      ap (λ k. take k ls) e ∙ ap (take (suc (99999 - (n + 1)))) next

module _ (ls : List (List ℕ)) (l : List ℕ) (rest : List (List ℕ)) (next : ls ≡ l ∷ rest) where
  pub plan_tail : begins_tail l ≡ true → up_to_tail ls ≡ []
  plan_tail e = ap up_to_tail next ∙ ap (λ (b : Bool). cond b [] (l ∷ up_to_tail rest)) e

  pub plan_more : begins_tail l ≡ false → up_to_tail ls ≡ l ∷ up_to_tail rest
  plan_more e = ap up_to_tail next ∙ ap (λ (b : Bool). cond b [] (l ∷ up_to_tail rest)) e
