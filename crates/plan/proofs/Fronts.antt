-- The longest front of a list of bytes that passes a test. Assumes nothing.
use Rattle.std.proofs.Common.{◌≡◌, ℕ, suc, ◌+◌, Bool, true, false, cond, List, [], ◌∷◌, take, refl, subst, arith}
use Rattle.std.specs.List.{AllByRecursion, prefix_len}

pub front_passes : (p : ℕ → Bool) (xs : List ℕ) → AllByRecursion (λ x. p x ≡ true) (take (prefix_len p xs) xs)
front_passes p [] = tt
front_passes p (x ∷ xs) = one_more (p x) refl (front_passes p xs)
  where
    one_more : (v : Bool) → p x ≡ v → AllByRecursion (λ y. p y ≡ true) (take (prefix_len p xs) xs) → AllByRecursion (λ y. p y ≡ true) (take (cond v (1 + prefix_len p xs) 0) (x ∷ xs))
    one_more true e more = let on : suc (prefix_len p xs) ≡ 1 + prefix_len p xs = omega arith in subst (λ n. AllByRecursion (λ y. p y ≡ true) (take n (x ∷ xs))) on (e, more)
    one_more false e more = tt
