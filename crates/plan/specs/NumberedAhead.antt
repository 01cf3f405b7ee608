-- What is still to come of the numbered lines of an input.
use Rattle.std.specs.Prelude.{◌≡◌, ℕ, ◌+◌, ◌-◌, ◌<◌, List, [], ◌∷◌, take, Some, None, Option}
use Rattle.plan.specs.declared.numbered_lines.NumberedLine.{NumberedLine}
use Rattle.plan.specs.declared.numbered_lines.NumberedLines.{NumberedLines}
use Rattle.plan.specs.LinesAhead.{ahead}

-- the lines that are to come, of those that count
unfoldable pub numbered_ahead : NumberedLines → List (List ℕ)
numbered_ahead s = take (99999 - s.count) (ahead s.lines)

-- one call of `next`: the first of the lines that were to come, with its number, or none if there was none
abbrev pub NextNumbered : NumberedLines → Option NumberedLine → NumberedLines → Type 0
NextNumbered s None t = (numbered_ahead s ≡ []) × (s.count ≡ t.count)
NextNumbered s (Some l) t =
    (numbered_ahead s ≡ l.bytes.now ∷ numbered_ahead t) × (s.count < 99999) × (l.number ≡ s.count + 1) × (t.count ≡ s.count + 1)
