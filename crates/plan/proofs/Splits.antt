-- An input is split into its lines and into nothing else. Assumes nothing.
use Rattle.std.proofs.Common.{◌≡◌, ℕ, ◌+◌, ◌<◌, ◌≤◌, Bool, true, false, cond, not, ◌==◌, eqb, nat_lt, List, [], ◌∷◌, ◌++◌, length, get_or, take, drop, Some, None, Option, MatchOption, sym, refl, ap, ◌∙◌, subst, inl, inr, ⊎_elim, arith}
use Rattle.std.specs.List.{AllByRecursion, position, position_or_len, before_first, after_first}
use Rattle.std.proofs.ByRecursion.{All-weaker}
use Rattle.std.proofs.lemmas.List.{take_all}
use Rattle.std.proofs.lemmas.List.Sums.{prefix_len_stops, split_at_first}
use Rattle.std.proofs.lemmas.Bool.{false≢true, ltb-true, ltb-false, ne_eqb, eqb-true, eqb-false}
use Rattle.plan.specs.InputLines.{longer, before, lines_of, NoLineEnd, SplitInto, Lines}
use Rattle.plan.proofs.Fronts.{front_passes}

-- a line in front of its byte 10
line_lines : (l rest : List ℕ) → AllByRecursion NoLineEnd l → lines_of (l ++ (10 ∷ rest)) ≡ l ∷ lines_of rest
unfolding lines_of
line_lines [] rest h = refl
line_lines (b ∷ l) rest h =
    ap (λ (v : Bool). before v b (lines_of (l ++ (10 ∷ rest)))) (ne_eqb b 10 h.0) ∙ ap (longer b) (line_lines l rest h.1)

-- a last line with no byte 10 after it
last_lines : (b : ℕ) (l : List ℕ) → AllByRecursion NoLineEnd (b ∷ l) → lines_of (b ∷ l) ≡ (b ∷ l) ∷ []
unfolding lines_of
last_lines b [] h = ap (λ (v : Bool). before v b []) (ne_eqb b 10 h.0)
last_lines b (c ∷ l) h =
    ap (λ (v : Bool). before v b (lines_of (c ∷ l))) (ne_eqb b 10 h.0) ∙ ap (longer b) (last_lines c l h.1)

some_last : (l : List ℕ) → 0 < length l → AllByRecursion NoLineEnd l → lines_of l ≡ l ∷ []
some_last [] some h = absurd (omega arith)
some_last (b ∷ l) some h = last_lines b l h

no_lines : lines_of [] ≡ []
unfolding lines_of
no_lines = refl

only : (ls : List (List ℕ)) (input : List ℕ) → SplitInto input ls → ls ≡ lines_of input
only [] input h = sym (ap lines_of h ∙ no_lines)
only (l ∷ ls) input (clear, ends) =
    ⊎_elim
    (λ (rest, split, more). ap (λ (ms : List (List ℕ)). l ∷ ms) (only ls rest more) ∙ sym (ap lines_of split ∙ line_lines l rest clear))
    (λ (is, some, none). ap (λ (ms : List (List ℕ)). l ∷ ms) none ∙ sym (ap lines_of is ∙ some_last l some clear))
    ends

-- one byte in front of a split input
module _ (b : ℕ) (bs : List ℕ) where
  before_lines : (ls : List (List ℕ)) → SplitInto bs ls → (v : Bool) → eqb b 10 ≡ v → SplitInto (b ∷ bs) (before v b ls)
  before_lines ls h true e = (tt, inl (bs, ap (λ n. n ∷ bs) (eqb-true b 10 e), h))
  before_lines [] h false e = ((eqb-false b 10 e, tt), inr (ap (λ (l : List ℕ). b ∷ l) h, omega arith, refl))
  before_lines (l ∷ ls) h false e =
      ((eqb-false b 10 e, h.0), ⊎_elim (λ (rest, split, more). inl (rest, ap (λ (k : List ℕ). b ∷ k) split, more)) (λ (is, some, none). inr (ap (λ (k : List ℕ). b ∷ k) is, omega arith, none)) h.1)

split : (input : List ℕ) → SplitInto input (lines_of input)
unfolding lines_of
split [] = refl
split (b ∷ bs) = before_lines b bs (lines_of bs) (split bs) (eqb b 10) refl

pub lines : (input : List ℕ) → Lines input (lines_of input)
lines input = record { split = split input; only = λ ms h. only ms input h }

-- The first byte 10 ends the first line.
abbrev ends_line : ℕ → Bool
ends_line b = b == 10

no_end : (b : ℕ) (v : Bool) → eqb b 10 ≡ v → not v ≡ true → NoLineEnd b
no_end b true e h = absurd (false≢true h)
no_end b false e h = eqb-false b 10 e

clear_front : (xs : List ℕ) → AllByRecursion NoLineEnd (before_first ends_line xs)
clear_front xs = All-weaker (λ b. not (ends_line b) ≡ true) NoLineEnd (λ b h. no_end b (eqb b 10) refl h) (before_first ends_line xs) (front_passes (λ b. not (ends_line b)) xs)

ended_line : (xs : List ℕ) → position_or_len ends_line xs < length xs → lines_of xs ≡ before_first ends_line xs ∷ lines_of (after_first ends_line xs)
ended_line xs lt =
    let n = position_or_len ends_line xs in
    let end : get_or xs n 0 ≡ 10 = is_end (get_or xs n 0) (eqb (get_or xs n 0) 10) refl (prefix_len_stops (λ b. not (ends_line b)) xs 0 lt) in
    ap lines_of (split_at_first ends_line xs 0 lt ∙ ap (λ b. before_first ends_line xs ++ (b ∷ after_first ends_line xs)) end) ∙ line_lines (before_first ends_line xs) (after_first ends_line xs) (clear_front xs)
  where
    is_end : (b : ℕ) (v : Bool) → eqb b 10 ≡ v → not v ≡ false → b ≡ 10
    is_end b true e h = eqb-true b 10 e
    is_end b false e h = absurd (false≢true (sym h))

last_line : (xs : List ℕ) → length xs ≤ position_or_len ends_line xs → 0 < length xs → lines_of xs ≡ xs ∷ lines_of []
last_line xs end some =
    some_last xs some (subst (AllByRecursion NoLineEnd) (take_all (position_or_len ends_line xs) xs end) (clear_front xs)) ∙ ap (λ (ls : List (List ℕ)). xs ∷ ls) (sym no_lines)

pub first_line : (xs : List ℕ) → 0 < length xs → (r : Option ℕ) → r ≡ position ends_line xs
    → MatchOption r (lines_of xs ≡ xs ∷ lines_of []) (λ e. lines_of xs ≡ take e xs ∷ lines_of (drop (e + 1) xs))
first_line xs some r e = by_test (nat_lt (position_or_len ends_line xs) (length xs)) refl e
  where
    by_test : (v : Bool) → nat_lt (position_or_len ends_line xs) (length xs) ≡ v → r ≡ cond v (Some (position_or_len ends_line xs)) None
        → MatchOption r (lines_of xs ≡ xs ∷ lines_of []) (λ k. lines_of xs ≡ take k xs ∷ lines_of (drop (k + 1) xs))
    by_test true lt is = rw is (ended_line xs (ltb-true _ _ lt))
    by_test false lt is = rw is (last_line xs (ltb-false _ _ lt) some)

pub no_more : (xs : List ℕ) → length xs ≡ 0 → lines_of xs ≡ []
no_more [] none = no_lines
no_more (b ∷ bs) none = absurd (omega arith)
