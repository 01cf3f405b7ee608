-- What is due: an operand at the start, after `(`, and after a prefix or an infix operator; otherwise an operator.
use Rattle.std.specs.Prelude.{◌≡◌, ℕ, List, [], ◌∷◌, Some, None, Option}
use Rattle.tokens.specs.declared.token.TokenKind.{TokenKind}
use Rattle.tokens.specs.declared.token.TokenKind.TheVariants.{Word, Symbol, Open, Close}
use Rattle.tokens.specs.Tokens.{Lexeme}
use Rattle.notation.specs.declared.form.Position.{Position}
use Rattle.notation.specs.declared.form.Position.TheVariants.{Before, After}
use Rattle.notation.specs.Operators.{Fixity}
use Rattle.notation.specs.Operators.Fixity.{prefix, postfix, between}
use Rattle.notation.specs.Tables.{Table, LawfulTable, listed}
use Rattle.grammar.specs.declared.due.Due.{Due}
use Rattle.grammar.specs.declared.due.Due.TheVariants.{Operand, Operator}
use Rattle.grammar.specs.Weights.{fixity_in}
use Rattle.grammar.specs.Machine.{State, start, run}
use Rattle.grammar.specs.Machine.State.{operand_due, operator_due, refused}

-- where an operand is due a spelling listed before is that prefix operator; where an operator is due, one listed
-- after is that operator
abbrev pub position_due : Due → Position
position_due Operand = Before
position_due Operator = After

abbrev pub due_behind : Option Fixity → Due
due_behind None = Operator
due_behind (Some prefix) = Operand
due_behind (Some postfix) = Operator
due_behind (Some between) = Operand

module _ (t : Table) where
  -- after a word or a symbol, under which this function is listed, if any
  abbrev pub due_behind_sign : Option ℕ → Due
  due_behind_sign None = Operator
  due_behind_sign (Some f) = due_behind (fixity_in t f)

  -- after a token where d was due
  abbrev pub due_next : Due → TokenKind → List ℕ → Due
  due_next d Word s = due_behind_sign (listed t (position_due d) s)
  due_next d Symbol s = due_behind_sign (listed t (position_due d) s)
  due_next d Open s = Operand
  due_next d Close s = Operator

  abbrev pub due_from : Due → List Lexeme → Due
  due_from d [] = d
  due_from d (x ∷ xs) = due_from (due_next d x.kind x.bytes) xs

  abbrev pub due_after : List Lexeme → Due
  due_after xs = due_from Operand xs

-- The law: where the machine has not refused, its state tells what is due.
abbrev pub Tells : State → Due → Type 0
Tells (operand_due k) d = d ≡ Operand
Tells (operator_due k b) d = d ≡ Operator
Tells refused d = Unit {0}

abbrev pub MachineTellsDue : Type 0
MachineTellsDue = (t : Table) → LawfulTable t → (xs : List Lexeme) → Tells (run t start xs) (due_after t xs)
