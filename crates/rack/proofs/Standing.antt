-- A list that stands in another, from a place on. Assumes nothing.
use Rattle.std.proofs.Common.{◌≡◌, ℕ, ◌+◌, ◌-◌, ◌<◌, List, [], ◌∷◌, ◌++◌, length, get_or, sym, refl, ap, ◌∙◌, ⊎_elim, arith}
use Rattle.std.proofs.lemmas.List.{get_or_append_left, get_or-append-add, get_or-append_right, length-append}
use Rattle.std.proofs.lemmas.Bool.{cases_lt}

module _ {X : Type 0} (d : X) (whole : List X) where
  abbrev pub Stand : ℕ → List X → Type 0
  Stand from xs = (k : ℕ) → k < length xs → get_or whole (from + k) d ≡ get_or xs k d

  pub stand_join : (from : ℕ) (xs ys : List X) → Stand from xs → Stand (from + length xs) ys → Stand from (xs ++ ys)
  stand_join from xs ys p q k lt =
      ⊎_elim
      (λ left. p k left ∙ sym (get_or_append_left xs ys d k left))
      (λ right.
      let at : from + length xs + (k - length xs) ≡ from + k = omega arith in
      let within : k - length xs < length ys = omega (arith, length-append xs ys) in
      ap (λ j. get_or whole j d) (sym at) ∙ q (k - length xs) within ∙ sym (get_or-append_right xs ys (length xs) k d refl right))
      (cases_lt k (length xs))

  pub stand_left : (from : ℕ) (xs ys : List X) → Stand from (xs ++ ys) → Stand from xs
  stand_left from xs ys h k lt = h k (omega (arith, length-append xs ys)) ∙ get_or_append_left xs ys d k lt

  pub stand_right : (from : ℕ) (xs ys : List X) → Stand from (xs ++ ys) → Stand (from + length xs) ys
  stand_right from xs ys h k lt =
      let at : from + (length xs + k) ≡ from + length xs + k = omega arith in
      ap (λ j. get_or whole j d) (sym at) ∙ h (length xs + k) (omega (arith, length-append xs ys)) ∙ get_or-append-add xs ys k d

  pub stand_one : (from i : ℕ) (x : X) → from ≡ i → get_or whole i d ≡ x → Stand from (x ∷ [])
  stand_one from i x at is k lt =
      let first : k ≡ 0 = omega arith in
      let place : from + k ≡ i = omega arith in
      ap (λ j. get_or whole j d) place ∙ is ∙ ap (λ j. get_or (x ∷ []) j d) (sym first)

  pub one_stands : (from i : ℕ) (x : X) → from ≡ i → Stand from (x ∷ []) → get_or whole i d ≡ x
  one_stands from i x at h = let place : from + 0 ≡ i = omega arith in ap (λ j. get_or whole j d) (sym place) ∙ h 0 (omega arith)

-- every list stands in itself
pub stand_whole : {X : Type 0} (d : X) (xs : List X) → Stand d xs 0 xs
stand_whole d xs k lt = let at : 0 + k ≡ k = omega arith in ap (λ j. get_or xs j d) at
