-- What is still to come of the lines of an input.
use Rattle.std.specs.Prelude.{◌≡◌, ℕ, List, [], ◌∷◌, Some, None, Option}
use Rattle.std.specs.Borrow.{Bor}
use Rattle.plan.specs.declared.input_lines.InputLines.{InputLines}
use Rattle.plan.specs.InputLines.{lines_of}

-- the lines that are to come
unfoldable pub ahead : InputLines → List (List ℕ)
ahead s = lines_of s.rest.now

-- one call of `next`: the first of the lines that were to come, or none if there was none
abbrev pub Next : InputLines → Option (Bor (List ℕ)) → InputLines → Type 0
Next s None t = ahead s ≡ []
Next s (Some l) t = ahead s ≡ l.now ∷ ahead t
