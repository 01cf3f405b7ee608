use Rattle.notation.specs.Views.{open_table}
use Rattle.plan.specs.NumberedAhead.{numbered_ahead}
use Rattle.plan.specs.Sections.{Sectioned, Declarations, empty_table}
use Rattle.plan.proofs.sections.read_declarations.Given as goal

-- what the lines still to come declare into the list is what all of them declare
abbrev pub invariant-loop-line : goal.invariant-loop-line
invariant-loop-line l =
    (goal.iterator-loop-line).can_next l.lines ×
    (goal.iterator-loop-line).is_finite l.lines ×
    ((r : Sectioned) → Declarations (open_table l.list) l.lines.count (numbered_ahead l.lines) r → Declarations empty_table l.initial.lines.count (numbered_ahead l.initial.lines) r)
