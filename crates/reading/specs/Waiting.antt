-- What waits while an expression is read, the latest first.
use Rattle.std.specs.Prelude.{ℕ, List, [], ◌∷◌, map, reverse, Some, None, vec_items, Option}
use Rattle.reading.specs.declared.reader.Pending.{Pending}
use Rattle.reading.specs.declared.reader.Reader.{Reader}

-- a bracket that is open, or a function's operator; the nodes of the operand that it waits for begin at the place
pub data Waits : Type 0 where
  bracket : ℕ → Waits
  operator : ℕ → ℕ → Waits

abbrev pub waits : Option ℕ → ℕ → Waits
waits None from = bracket from
waits (Some f) from = operator f from

abbrev pub waits_of : Pending → Waits
waits_of p = waits p.function p.from

unfoldable pub stacked : List Pending → List Waits
stacked pending = map waits_of (reverse pending)

abbrev pub waiting : Reader → List Waits
waiting reader = stacked (vec_items reader.pending)

abbrev pub first : List Waits → Option Waits
first [] = None
first (w ∷ k) = Some w

abbrev pub rest : List Waits → List Waits
rest [] = []
rest (w ∷ k) = k

-- the function of the operator that waits first, if it is an operator that does
abbrev pub last_function : List Waits → Option ℕ
last_function [] = None
last_function (bracket from ∷ k) = None
last_function (operator f from ∷ k) = Some f

-- where the nodes of the current operand begin, in a tree whose nodes begin at mark
abbrev pub begins : ℕ → List Waits → ℕ
begins mark [] = mark
begins mark (bracket from ∷ k) = from
begins mark (operator f from ∷ k) = from
