use Rattle.std.proofs.Common.{◌≡◌, length}
use Rattle.notation.specs.Operators.{meant}
use Rattle.reading.specs.Waiting.{waiting}
use Rattle.reading.specs.Yard.{site_of, settled_at, SameLoans}
use Rattle.reading.proofs.reading.Reading.settle.Given as goal

-- what is left to settle comes out as all of it does
abbrev pub invariant-loop-function : goal.invariant-loop-function
invariant-loop-function g l =
    (settled_at (g.N.Notation.table l.self.notation.now) (meant l.right) (site_of l.self)
    ≡ settled_at (g.N.Notation.table l.initial.self.notation.now) (meant l.right) (site_of l.initial.self)) ×
    SameLoans l.initial.self l.self

abbrev pub decreases-loop-function : goal.decreases-loop-function
decreases-loop-function g l = length (waiting l.self.reader.now)
