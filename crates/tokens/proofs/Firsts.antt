-- The first element of a list of which something holds. Assumes nothing.
use Rattle.std.proofs.Common.{◌≡◌, ℕ, ◌+◌, ◌<◌, List, [], ◌∷◌, ◌++◌, length, get_or, take, drop, sym, refl, ap, ◌∙◌, subst, ⊎_elim, append_assoc, arith}
use Rattle.std.specs.List.{AllByRecursion}
use Rattle.std.proofs.ByRecursion.{All-get_or}
use Rattle.std.proofs.lemmas.List.{get_or_at, get_or_append_left, length-append, take-append-drop, length-take-le, drop_more}
use Rattle.std.proofs.lemmas.Bool.{cases_order}
use Rattle.tokens.specs.InOrder.{If, IfSome, Nth, First}

module _ {X : Type 0} where
  pub nth_one : (xs : List X) (i : ℕ) (x y : X) → Nth xs i x → Nth xs i y → x ≡ y
  nth_one xs i x y p q =
      sym (get_or_at p.earlier x p.later x i p.index) ∙ ap (λ (l : List X). get_or l i x) (sym p.split ∙ q.split) ∙ get_or_at q.earlier y q.later x i q.index

  pub nth_inside : (xs : List X) (i : ℕ) (x : X) → Nth xs i x → i < length xs
  nth_inside xs i x p = omega (arith, ap length p.split, length-append p.earlier (x ∷ p.later), p.index)

  -- an element that comes before the first is not one
  not_before : (P : X → Type 0) (xs : List X) (i j : ℕ) (x y : X) → First P xs i x → First P xs j y → i < j → ⊥
  not_before P xs i j x y p q lt =
      let inside : i < length q.nth.earlier = omega (arith, q.nth.index) in
      let at : get_or q.nth.earlier i x ≡ x = sym (get_or_append_left q.nth.earlier (y ∷ q.nth.later) x i inside) ∙ ap (λ (l : List X). get_or l i x) (sym q.nth.split ∙ p.nth.split) ∙ get_or_at p.nth.earlier x p.nth.later x i p.nth.index in
      All-get_or (λ z. P z → ⊥) q.nth.earlier i x inside q.none (subst P (sym at) p.here)

  pub first_one : (P : X → Type 0) (xs : List X) (i j : ℕ) (x y : X) → First P xs i x → First P xs j y → i ≡ j
  first_one P xs i j x y p q =
      ⊎_elim (λ e. e) (⊎_elim (λ lt. absurd (not_before P xs i j x y p q lt)) (λ lt. absurd (not_before P xs j i y x q p lt))) (cases_order i j)

  pub first_none : (P : X → Type 0) (xs : List X) → AllByRecursion (λ y. P y → ⊥) xs → (i : ℕ) (x : X) → First P xs i x → ⊥
  first_none P xs none i x p =
      let at : get_or xs i x ≡ x = ap (λ (l : List X). get_or l i x) p.nth.split ∙ get_or_at p.nth.earlier x p.nth.later x i p.nth.index in
      All-get_or (λ z. P z → ⊥) xs i x (nth_inside xs i x p.nth) none (subst P (sym at) p.here)

  -- the element at i, where none of those before it is one
  pub first_at : (P : X → Type 0) (xs : List X) (i : ℕ) (d : X) → i < length xs → AllByRecursion (λ y. P y → ⊥) (take i xs) → P (get_or xs i d) → First P xs i (get_or xs i d)
  first_at P xs i d lt none here =
      record {
        nth = record { earlier = take i xs; later = drop (i + 1) xs; split = sym (take-append-drop i xs) ∙ ap (λ (l : List X). take i xs ++ l) (drop_more xs i d lt); index = length-take-le i xs (omega arith) };
        here = here;
        none = none;
      }

  pub first_front : (P : X → Type 0) (xs ys : List X) (i : ℕ) (x : X) → First P xs i x → First P (xs ++ ys) i x
  first_front P xs ys i x p =
      record {
        nth = record { earlier = p.nth.earlier; later = p.nth.later ++ ys; split = ap (λ (l : List X). l ++ ys) p.nth.split ∙ append_assoc p.nth.earlier (x ∷ p.nth.later) ys; index = p.nth.index };
        here = p.here;
        none = p.none;
      }

  pub first_last : (P : X → Type 0) (xs : List X) (x : X) → AllByRecursion (λ y. P y → ⊥) xs → P x → First P (xs ++ x ∷ []) (length xs) x
  first_last P xs x none here = record { nth = record { earlier = xs; later = []; split = refl; index = refl }; here = here; none = none }

-- rules in order have one answer
module _ {R : Type 0} where
  pub if_one : (P : Type 0) (first otherwise : R → Type 0) (r s : R) → (first r → first s → r ≡ s) → (otherwise r → otherwise s → r ≡ s) → If P first otherwise r → If P first otherwise s → r ≡ s
  if_one P first otherwise r s f o =
      ⊎_elim (λ p. ⊎_elim (λ q. f p.1 q.1) (λ q. absurd (q.0 p.0))) (λ p. ⊎_elim (λ q. absurd (p.0 q.0)) (λ q. o p.1 q.1))

  pub if_some_one : {X : Type 0} (P : X → Type 0) (first : X → R → Type 0) (otherwise : R → Type 0) (r s : R) → ((x y : X) → P x → P y → first x r → first y s → r ≡ s) → (otherwise r → otherwise s → r ≡ s) → IfSome P first otherwise r → IfSome P first otherwise s → r ≡ s
  if_some_one P first otherwise r s f o =
      ⊎_elim (λ p. ⊎_elim (λ q. f p.0 q.0 p.1 q.1 p.2 q.2) (λ q. absurd (q.0 p.0 p.1))) (λ p. ⊎_elim (λ q. absurd (p.0 q.0 q.1)) (λ q. o p.1 q.1))
