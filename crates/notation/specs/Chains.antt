-- The functions whose spellings begin with a byte, one after another.
use Rattle.std.specs.Prelude.{◌≡◌, ℕ, ◌+◌, ◌-◌, ◌<◌, Bool, true, false, List, Some, None, Option, ◌==◌, slice_index, slice_index_or}
use Rattle.std.specs.List.{find, range_with_len}
use Rattle.notation.specs.Operators.{Op}
use Rattle.notation.specs.Tables.{Table}

-- the operator's spelling begins with the byte
abbrev pub begins_with : ℕ → Option Op → Bool
begins_with b None = false
begins_with b (Some o) = slice_index o.spelling 0 == b

-- the first of the n functions from f on whose spelling begins with the byte, if there is one
unfoldable pub seek : Table → ℕ → ℕ → ℕ → Option ℕ
seek t b f n = find (λ g. begins_with b (t g)) (range_with_len f n)

-- for each byte the first function that begins with it, and for each function the next that begins as it does
abbrev pub FirstsIn : Table → List (Option ℕ) → Type 0
FirstsIn t firsts = (b : ℕ) → b < 256 → slice_index_or firsts b None ≡ seek t b 0 64

abbrev pub NextsIn : Table → List (Option ℕ) → Type 0
NextsIn t nexts = (f b : ℕ) → begins_with b (t f) ≡ true → slice_index_or nexts f None ≡ seek t b (f + 1) (63 - f)
