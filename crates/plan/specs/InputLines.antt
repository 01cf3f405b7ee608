-- The lines of an input: it is parted at each byte 10.
use Rattle.std.specs.Prelude.{◌≡◌, ℕ, ◌<◌, Bool, true, false, ◌⊎◌, List, [], ◌∷◌, ◌++◌, length, take, ◌==◌}
use Rattle.std.specs.List.{AllByRecursion}

-- The definition. A byte belongs to the first line of what follows it; a byte 10 begins a line of its own, which it ends.
abbrev pub longer : ℕ → List (List ℕ) → List (List ℕ)
longer b [] = (b ∷ []) ∷ []
longer b (l ∷ ls) = (b ∷ l) ∷ ls

abbrev pub before : Bool → ℕ → List (List ℕ) → List (List ℕ)
before true b ls = [] ∷ ls
before false b ls = longer b ls

unfoldable pub lines_of : List ℕ → List (List ℕ)
lines_of [] = []
lines_of (b ∷ bs) = before (b == 10) b (lines_of bs)

-- The same in the words of the subject: no line has a byte 10, and the lines with a byte 10 after each make up the
-- input, where it may be left out after a last line that is not empty.
abbrev pub NoLineEnd : ℕ → Type 0
NoLineEnd b = b ≡ 10 → ⊥

abbrev pub SplitInto : List ℕ → List (List ℕ) → Type 0
SplitInto input [] = input ≡ []
SplitInto input (l ∷ ls) =
    AllByRecursion NoLineEnd l
    × (((rest : List ℕ) × (input ≡ l ++ (10 ∷ rest)) × SplitInto rest ls) ⊎ ((input ≡ l) × (0 < length l) × (ls ≡ [])))

pub record Lines (input : List ℕ) (ls : List (List ℕ)) : Type 0 where
  pub split : SplitInto input ls
  pub only : (ms : List (List ℕ)) → SplitInto input ms → ms ≡ ls

-- input after the first 99,999 lines counts as absent
abbrev pub counted_lines : List ℕ → List (List ℕ)
counted_lines input = take 99999 (lines_of input)
