-- The stack that a reader holds in a vector: its top is the vector's last element. Assumes nothing.
use Rattle.std.proofs.Common.{◌≡◌, ℕ, suc, ◌+◌, ◌-◌, List, [], ◌∷◌, ◌++◌, map, reverse, length, get_or, Some, None, Option, Ok, sym, refl, ap, ◌∙◌, append-nil, arith, Bor, MatchOption, vec_items, vec_len}
use mathlib.Core.List.{reverse_aux, reverse-append}
use Rattle.std.specs.Option.{option_map, option_to_list}
use Rattle.std.specs.Slice.{IsGetResult}
use Rattle.std.proofs.lemmas.List.{nil_from_length, length-map, length-reverse}
use Rattle.notation.specs.Operators.{Op}
use Rattle.notation.specs.Tables.{Table}
use Rattle.reading.specs.declared.reader.Pending.{Pending}
use Rattle.reading.specs.declared.reader.Reader.{Reader}
use Rattle.reading.specs.Waiting.{waits_of, stacked, waiting, first, rest}
use Rattle.reading.specs.Yard.{Site, settled_at, HasRoom}
use Rattle.reading.proofs.Bounds.{settled_spans}

pub length-waiting : (r : Reader) → length (waiting r) ≡ vec_len r.pending
unfolding stacked
length-waiting r = length-map (reverse (vec_items r.pending)) waits_of ∙ length-reverse (vec_items r.pending) ∙ sym r.pending.ok.0

-- in room that nothing of has been taken there is room
pub room_kept : (t : Table) (o : Op) (a b : Site) → Ok b ≡ settled_at t o a → HasRoom a → HasRoom b
room_kept t o a b e room = let s = settled_spans t o a b e in omega (arith, room, s.marked, s.few)

pub pushed : (xs ys : List Pending) (p : Pending) → ys ≡ xs ++ (p ∷ []) → stacked ys ≡ waits_of p ∷ stacked xs
unfolding stacked
pushed xs ys p e = ap (map waits_of) (ap reverse e ∙ reverse-append xs (p ∷ []))

pub popped : (r : Option Pending) (xs ys : List Pending) (n m : ℕ) → xs ≡ ys ++ option_to_list r → n ≡ length xs → MatchOption r ((n ≡ 0) × (m ≡ 0)) (λ _. m + 1 ≡ n) → (option_map waits_of r ≡ first (stacked xs)) × (stacked ys ≡ rest (stacked xs))
unfolding stacked
popped None xs ys n m e l h =
    let none : xs ≡ [] = nil_from_length xs (sym l ∙ h.0) in
    let same : ys ≡ xs = sym (append-nil ys) ∙ sym e in
    (sym (ap (λ (k : List Pending). first (stacked k)) none), ap stacked (same ∙ none) ∙ sym (ap (λ (k : List Pending). rest (stacked k)) none))
popped (Some p) xs ys n m e l h = let on-top = pushed ys xs p e in (sym (ap first on-top), sym (ap rest on-top))

last_first : (x : Pending) (xs under : List Pending) (d : Pending) → first (map waits_of (reverse_aux (x ∷ xs) under)) ≡ Some (waits_of (get_or (x ∷ xs) (length xs) d))
unfolding stacked
last_first x [] under d = refl
last_first x (y ∷ ys) under d = last_first y ys (x ∷ under) d

less_one : (n : ℕ) → suc n - 1 ≡ n
less_one n = omega arith

pub topped : (xs : List Pending) (r : Option (Bor Pending)) → IsGetResult xs 0 (length xs - 1) r → option_map waits_of (option_map (λ x. x.now) r) ≡ first (stacked xs)
unfolding stacked
topped [] None h = refl
topped (x ∷ xs) None h = absurd (omega (arith, h.3))
topped [] (Some p) h = absurd (omega (arith, h.3.0))
topped (x ∷ xs) (Some p) h = ap (λ (q : Pending). Some (waits_of q)) (h.1 ∙ ap (λ n. get_or (x ∷ xs) n p.now) (less_one (length xs))) ∙ sym (last_first x xs [] p.now)
