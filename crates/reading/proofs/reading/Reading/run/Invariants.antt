use Rattle.tokens.specs.Cutters.{ahead}
use Rattle.reading.specs.Yard.{site_of, SameLoans}
use Rattle.reading.proofs.Sofar.{Sofar}
use Rattle.reading.proofs.reading.Reading.run.Given as goal

-- the machine in the rack has come so far, and the loans are as they were made
abbrev pub invariant-loop-token : goal.invariant-loop-token
invariant-loop-token g l =
    (goal.iterator-loop-token g).can_next l.token-iterator ×
    (goal.iterator-loop-token g).is_finite l.token-iterator ×
    Sofar (g.N.Notation.table l.initial.self.notation.now) l.text l.initial.self.rack.now l.initial.self.mark (ahead l.token-iterator) l.self.due (site_of l.self) ×
    SameLoans l.initial.self l.self
