-- Refusals: the fault of a text that fails, by what is due and the token there.
use Rattle.std.specs.Prelude.{◌≡◌, ℕ, ◌+◌, ◌-◌, ◌<◌, Bool, false, cond, not, ◌&&◌, List, [], ◌∷◌, map, length, is_some, Ok, Err, Result}
use Rattle.std.specs.List.{AllByRecursion}
use Rattle.tokens.specs.declared.fault.Fault.{Fault}
use Rattle.tokens.specs.declared.fault.FaultKind.{FaultKind}
use Rattle.tokens.specs.declared.fault.FaultKind.TheVariants.{UnlistedSymbol, OperandExpected, OperatorExpected, UnmatchedBracket, PriorityClash}
use Rattle.tokens.specs.declared.token.TokenKind.{TokenKind}
use Rattle.tokens.specs.declared.token.TokenKind.TheVariants.{Word, Symbol, Open, Close}
use Rattle.tokens.specs.Faults.{fault}
use Rattle.tokens.specs.InOrder.{Only}
use Rattle.tokens.specs.Limits.{Lawful as LawfulByte}
use Rattle.tokens.specs.Spacing.{lexemes_of}
use Rattle.tokens.specs.Tokens.{Lexeme, Placed, lexeme}
use Rattle.notation.specs.declared.form.Position.TheVariants.{Before, After}
use Rattle.notation.specs.Tables.{Table, LawfulTable, listed}
use Rattle.grammar.specs.declared.due.Due.{Due}
use Rattle.grammar.specs.declared.due.Due.TheVariants.{Operand, Operator}
use Rattle.grammar.specs.Trees.{Tree}
use Rattle.grammar.specs.Dues.{due_after}
use Rattle.grammar.specs.Verdicts.{Verdict, FailsAt, FailsAtEnd, Holds}
use Rattle.grammar.specs.Verdicts.Verdict.{reads, fails_at, fails_at_end}

-- the fault of a text that fails at its end: with an operator due, a bracket is open
abbrev pub fault_at_end : Due → FaultKind
fault_at_end Operand = OperandExpected
fault_at_end Operator = UnmatchedBracket

module _ (t : Table) where
  -- a symbol that is listed in neither position
  abbrev pub is_unlisted_symbol : TokenKind → List ℕ → Bool
  is_unlisted_symbol Word s = false
  is_unlisted_symbol Symbol s = not (is_some (listed t Before s)) && not (is_some (listed t After s))
  is_unlisted_symbol Open s = false
  is_unlisted_symbol Close s = false

  -- a token that fails where an operator is due: one listed after is an operator with the wrong priority, a `)` has
  -- no partner, and any other is no operator
  abbrev pub fault_for_operator : TokenKind → List ℕ → FaultKind
  fault_for_operator Word s = cond (is_some (listed t After s)) PriorityClash OperatorExpected
  fault_for_operator Symbol s = cond (is_some (listed t After s)) PriorityClash OperatorExpected
  fault_for_operator Open s = OperatorExpected
  fault_for_operator Close s = UnmatchedBracket

  abbrev pub fault_for : Due → TokenKind → List ℕ → FaultKind
  fault_for Operand k s = OperandExpected
  fault_for Operator k s = fault_for_operator k s

  -- the fault of a token that fails where this is due
  abbrev pub fault_at : Due → Lexeme → FaultKind
  fault_at d x = cond (is_unlisted_symbol x.kind x.bytes) UnlistedSymbol (fault_for d x.kind x.bytes)

  -- the answer to a text by its verdict: the tree, or the fault at the token's place or at the text's length
  abbrev pub answer : List ℕ → Verdict → Result Tree Fault
  answer text (reads tree) = Ok tree
  answer text (fails_at front x) = Err (fault (fault_at (due_after t (map lexeme front)) (lexeme x)) x.place)
  answer text fails_at_end = Err (fault (fault_at_end (due_after t (lexemes_of text))) (length text))

  abbrev pub Answered : List ℕ → Result Tree Fault → Type 0
  Answered text r = (v : Verdict) × Holds t text v × (r ≡ answer text v)

-- The laws. A text whose bytes may stand in an expression has one answer, and no other.
abbrev pub OneAnswer : Type 0
OneAnswer = (t : Table) → LawfulTable t → (text : List ℕ) → AllByRecursion LawfulByte text → (r : Result Tree Fault) × Only (Answered t text) r

-- how many brackets are open after the tokens
abbrev pub open_behind : TokenKind → ℕ → ℕ
open_behind Word n = n
open_behind Symbol n = n
open_behind Open n = n + 1
open_behind Close n = n - 1

abbrev pub open_from : ℕ → List Lexeme → ℕ
open_from n [] = n
open_from n (x ∷ xs) = open_from (open_behind x.kind n) xs

abbrev pub open_after : List Lexeme → ℕ
open_after xs = open_from 0 xs

-- Where an operator is due, no bracket is open before a `)` that fails, and one is open where the end fails.
abbrev pub UnmatchedIsUnmatched : Type 0
UnmatchedIsUnmatched =
    (t : Table) → LawfulTable t → (text : List ℕ)
    → ((front : List Placed) (x : Placed) → FailsAt t text front x → x.kind ≡ Close → due_after t (map lexeme front) ≡ Operator → open_after (map lexeme front) ≡ 0)
    × (AllByRecursion LawfulByte text → FailsAtEnd t text → due_after t (lexemes_of text) ≡ Operator → 0 < open_after (lexemes_of text))
