-- What was read of a notation, as the sections have it.
use Rattle.std.specs.Prelude.{Ok, Err, Result}
use Rattle.notation.specs.declared.list.SealedList.{SealedList}
use Rattle.notation.specs.Views.{sealed_table}
use Rattle.plan.specs.declared.any_notation.AnyNotation.{AnyNotation}
use Rattle.plan.specs.declared.command.Notations.{Notations}
use Rattle.plan.specs.declared.input_fault.InputFault.{InputFault}
use Rattle.plan.specs.declared.numbered_lines.NumberedLines.{NumberedLines}
use Rattle.plan.specs.AnyNotations.{any_table}
use Rattle.plan.specs.NumberedAhead.{numbered_ahead}
use Rattle.plan.specs.Sections.{Sectioned, Both, section}

-- the list that was read, and the lines that are left
abbrev pub list_read : Result SealedList InputFault → NumberedLines → Sectioned
list_read (Ok l) lines = Ok (section (sealed_table l) (numbered_ahead lines) lines.count)
list_read (Err e) lines = Err e

abbrev pub notation_read : Result AnyNotation InputFault → NumberedLines → Sectioned
notation_read (Ok n) lines = Ok (section (any_table n) (numbered_ahead lines) lines.count)
notation_read (Err e) lines = Err e

-- both notations
abbrev pub both_read : Result Notations InputFault → NumberedLines → Result Both InputFault
both_read (Ok n) lines = Ok (record { first = any_table n.from; second = section (any_table n.into) (numbered_ahead lines) lines.count })
both_read (Err e) lines = Err e
