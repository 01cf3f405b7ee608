-- The decision between two neighbours, as the law of the grammar has it.
use Rattle.std.specs.Prelude.{◌≡◌, ℕ, Some, Option}
use Rattle.tokens.specs.InOrder.{Only}
use Rattle.notation.specs.Operators.{Op}
use Rattle.notation.specs.Tables.{Table, LawfulTable}
use Rattle.grammar.specs.declared.taker.Taker.{Taker}
use Rattle.grammar.specs.Neighbours.{Takes}

-- if both are operators of one lawful table, v takes the operand between them by priority and type, and no other does
abbrev pub DecidedByLaw : Op → Op → Option Taker → Type 0
DecidedByLaw u o v = (t : Table) → LawfulTable t → (f g : ℕ) → t f ≡ Some u → t g ≡ Some o → Only (Takes u o) v
