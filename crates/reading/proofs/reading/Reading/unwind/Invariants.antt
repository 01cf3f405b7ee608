use Rattle.std.proofs.Common.{◌≡◌, length}
use Rattle.reading.specs.Waiting.{waiting}
use Rattle.reading.specs.Yard.{site_of, unwound_at, SameLoans}
use Rattle.reading.proofs.reading.Reading.unwind.Given as goal

-- what is left to unwind comes out as all of it does
abbrev pub invariant-loop-function : goal.invariant-loop-function
invariant-loop-function g l = (unwound_at (site_of l.self) ≡ unwound_at (site_of l.initial.self)) × SameLoans l.initial.self l.self

abbrev pub decreases-loop-function : goal.decreases-loop-function
decreases-loop-function g l = length (waiting l.self.reader.now)
