-- The decision between two neighbours: by limits it is as by priorities and types.
use Rattle.std.proofs.Common.{◌≡◌, ℕ, ◌<◌, ◌≤◌, Bool, true, false, leb, ◌⊎◌, Some, None, Option, sym, refl, ap, ◌∙◌, inl, inr, ⊎_elim, arith}
use Rattle.std.specs.List.{AllByRecursion}
use Rattle.std.proofs.ByRecursion.{All-weaker}
use Rattle.std.proofs.lemmas.Bool.{leb-true, leb-false, le-leb, lt-leb, cases_lt}
use Rattle.notation.specs.declared.form.Side.{Side}
use Rattle.notation.specs.declared.form.Side.TheVariants.{X, Y}
use Rattle.notation.specs.Operators.{Op, left_side, right_side, limit}
use Rattle.notation.specs.Tables.{Table, LawfulTable}
use Rattle.grammar.specs.declared.taker.Taker.{Taker}
use Rattle.grammar.specs.declared.taker.Taker.TheVariants.{Left, Right}
use Rattle.grammar.specs.Trees.{Bracketed}
use Rattle.grammar.specs.Trees.Bracketed.{named, pair, prefixed, postfixed, infixed}
use Rattle.grammar.specs.Weights.{operator_in, left_limit, right_limit, left_weight, right_weight, AdmitsLeft, AdmitsRight}
use Rattle.grammar.specs.Lawful.{Lawful}
use Rattle.grammar.specs.Neighbours.{chosen, taker, Takes, NeighboursDecided, down_left, down_right, LeftTook, RightTook, DecidesSo, TreesDecideSo}
use Rattle.grammar.proofs.Tables.{apart, some_priority}

below : (p q : ℕ) → (p ≤ q → ⊥) → q < p
below p q h = omega arith

pub taker_left : (u o : Op) → u.priority ≤ left_limit o → taker u o ≡ Some Left
taker_left u o h = ap (λ (l : Bool). chosen l (leb o.priority (right_limit u))) (le-leb u.priority (left_limit o) h)

pub taker_right : (u o : Op) → (u.priority ≤ left_limit o → ⊥) → o.priority ≤ right_limit u → taker u o ≡ Some Right
taker_right u o n h =
    ap (λ (l : Bool). chosen l (leb o.priority (right_limit u))) (lt-leb u.priority (left_limit o) (below u.priority (left_limit o) n)) ∙ ap (chosen false) (le-leb o.priority (right_limit u) h)

by_left : (l r : Bool) → chosen l r ≡ Some Left → l ≡ true
by_left true r e = refl
by_left false true e = cc
by_left false false e = cc

by_right : (l r : Bool) → chosen l r ≡ Some Right → r ≡ true
by_right true r e = cc
by_right false true e = refl
by_right false false e = cc

pub left_taker : (u o : Op) → taker u o ≡ Some Left → u.priority ≤ left_limit o
left_taker u o e = leb-true u.priority (left_limit o) (by_left (leb u.priority (left_limit o)) (leb o.priority (right_limit u)) e)

pub right_taker : (u o : Op) → taker u o ≡ Some Right → o.priority ≤ right_limit u
right_taker u o e = leb-true o.priority (right_limit u) (by_right (leb u.priority (left_limit o)) (leb o.priority (right_limit u)) e)

-- p is smaller than q, or equal to it at a side with y
abbrev Tighter : Side → ℕ → ℕ → Type 0
Tighter s p q = (p < q) ⊎ ((p ≡ q) × (s ≡ Y))

within : (s : Side) (p q : ℕ) → 1 ≤ q → p ≤ limit s q → Tighter s p q
within X p q some h = inl (omega arith)
within Y p q some h = ⊎_elim inl (λ k. inr (omega arith, refl)) (cases_lt p q)

within_back : (s : Side) (p q : ℕ) → Tighter s p q → p ≤ limit s q
within_back X p q (inl h) = omega arith
within_back X p q (inr (e, y)) = cc
within_back Y p q (inl h) = omega arith
within_back Y p q (inr (e, y)) = omega arith

outside : (s r : Side) (p q : ℕ) → limit s q < p → limit r p < q → (p ≡ q) × (s ≡ X) × (r ≡ X)
outside X X p q h k = (omega arith, refl, refl)
outside X Y p q h k = absurd (omega arith)
outside Y X p q h k = absurd (omega arith)
outside Y Y p q h k = absurd (omega arith)

outside_back : (s : Side) (p q : ℕ) → 1 ≤ q → p ≡ q → s ≡ X → limit s q < p
outside_back X p q some e x = omega arith
outside_back Y p q some e x = cc

turned : (s : Side) (p q : ℕ) → Tighter s p q → (p < q) ⊎ ((q ≡ p) × (s ≡ Y))
turned s p q (inl h) = inl h
turned s p q (inr (e, y)) = inr (sym e, y)

turned_back : (s : Side) (p q : ℕ) → (p < q) ⊎ ((q ≡ p) × (s ≡ Y)) → Tighter s p q
turned_back s p q (inl h) = inl h
turned_back s p q (inr (e, y)) = inr (sym e, y)

module _ (u o : Op) (low : 1 ≤ u.priority) (high : 1 ≤ o.priority) (levels : u.priority ≡ o.priority → right_side u.form ≡ Y → left_side o.form ≡ Y → ⊥) where
  chosen_takes : (l r : Bool) → leb u.priority (left_limit o) ≡ l → leb o.priority (right_limit u) ≡ r → Takes u o (chosen l r)
  chosen_takes true r d e = within (left_side o.form) u.priority o.priority high (leb-true _ _ d)
  chosen_takes false true d e = turned (right_side u.form) o.priority u.priority (within (right_side u.form) o.priority u.priority low (leb-true _ _ e))
  chosen_takes false false d e = outside (left_side o.form) (right_side u.form) u.priority o.priority (leb-false _ _ d) (leb-false _ _ e)

  takes_chosen : (v : Option Taker) → Takes u o v → v ≡ taker u o
  takes_chosen (Some Left) h = sym (taker_left u o (within_back (left_side o.form) u.priority o.priority h))
  takes_chosen (Some Right) h =
      let inside = within_back (right_side u.form) o.priority u.priority (turned_back (right_side u.form) o.priority u.priority h) in
      sym (taker_right u o (λ k. apart (right_side u.form) (left_side o.form) u.priority o.priority low high levels k inside) inside)
  takes_chosen None (e, x, y) =
      let left = outside_back (left_side o.form) u.priority o.priority high e x in
      let right = outside_back (right_side u.form) o.priority u.priority low (sym e) y in
      sym (ap (λ (l : Bool). chosen l (leb o.priority (right_limit u))) (lt-leb u.priority (left_limit o) left) ∙ ap (chosen false) (lt-leb o.priority (right_limit u) right))

pub neighbours_decided : NeighboursDecided
neighbours_decided t lawful f g u o d e =
    let low = (lawful.each f u d).low in
    let high = (lawful.each g o e).low in
    let levels = lawful.levels f g u o d e in
    record { is = chosen_takes u o low high levels (leb u.priority (left_limit o)) (leb o.priority (right_limit u)) refl refl; only = takes_chosen u o low high levels }

-- In a lawful tree the operators down a side are within the weight there.
module _ (t : Table) where
  down_left_lem : (b : Bracketed) (n : ℕ) → left_weight t b ≤ n → AllByRecursion (λ g. (operator_in t g).priority ≤ n) (down_left b)
  down_left_lem (named w) n h = tt
  down_left_lem (pair b) n h = tt
  down_left_lem (prefixed f b) n h = tt
  down_left_lem (postfixed f a) n h = (omega arith, down_left_lem a n (omega arith))
  down_left_lem (infixed f a b) n h = (omega arith, down_left_lem a n (omega arith))

  down_right_lem : (b : Bracketed) (n : ℕ) → right_weight t b ≤ n → AllByRecursion (λ g. (operator_in t g).priority ≤ n) (down_right b)
  down_right_lem (named w) n h = tt
  down_right_lem (pair b) n h = tt
  down_right_lem (prefixed f b) n h = (omega arith, down_right_lem b n (omega arith))
  down_right_lem (postfixed f a) n h = tt
  down_right_lem (infixed f a b) n h = (omega arith, down_right_lem b n (omega arith))

  module _ (lawful : LawfulTable t) where
    left_took : (f : ℕ) (a : Bracketed) → AdmitsLeft t f a → LeftTook t f a
    left_took f a h =
        let o = operator_in t f in
        All-weaker (λ g. (operator_in t g).priority ≤ left_limit o) (λ g. Takes (operator_in t g) o (Some Left)) (λ g. within (left_side o.form) (operator_in t g).priority o.priority (some_priority t lawful f)) (down_right a) (down_right_lem a (left_limit o) h)

    right_took : (f : ℕ) (b : Bracketed) → AdmitsRight t f b → RightTook t f b
    right_took f b h =
        let u = operator_in t f in
        All-weaker (λ g. (operator_in t g).priority ≤ right_limit u) (λ g. Takes u (operator_in t g) (Some Right))
        (λ g k. turned (right_side u.form) (operator_in t g).priority u.priority (within (right_side u.form) (operator_in t g).priority u.priority (some_priority t lawful f) k)) (down_left b) (down_left_lem b (right_limit u) h)

    decides_so : (b : Bracketed) → Lawful t b → DecidesSo t b
    decides_so (named w) l = tt
    decides_so (pair b) l = decides_so b l
    decides_so (prefixed f b) (x, a, l) = (right_took f b a, decides_so b l)
    decides_so (postfixed f b) (x, a, l) = (left_took f b a, decides_so b l)
    decides_so (infixed f b c) (x, a, d, l, m) = (left_took f b a, right_took f c d, decides_so b l, decides_so c m)

pub trees_decide_so : TreesDecideSo
trees_decide_so t lawful = decides_so t lawful
