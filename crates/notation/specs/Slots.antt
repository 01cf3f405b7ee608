-- The table that slots stand for: a function's operator lies in its slot.
use Rattle.std.specs.Prelude.{List, take, None, Option, slice_index_or}
use Rattle.std.specs.Option.{option_map}
use Rattle.notation.specs.declared.entry.Entry.{Entry}
use Rattle.notation.specs.Operators.{Op}
use Rattle.notation.specs.Tables.{Table}

-- what an entry stands for
abbrev pub op_in : Entry → Op
op_in e = record { priority = e.priority; form = e.form; spelling = take e.length e.bytes }

abbrev pub table_in : List (Option Entry) → Table
table_in slots f = option_map op_in (slice_index_or slots f None)
