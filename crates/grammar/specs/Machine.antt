-- The reading machine: it reads token by token, with a stack of what is not finished.
use Rattle.std.specs.Prelude.{◌≡◌, ℕ, Bool, true, false, not, ◌&&◌, List, [], ◌∷◌, length, is_some, Some, None, Option, nat_le}
use Rattle.std.specs.List.{AllByRecursion}
use Rattle.tokens.specs.declared.token.TokenKind.{TokenKind}
use Rattle.tokens.specs.declared.token.TokenKind.TheVariants.{Word, Symbol, Open, Close}
use Rattle.tokens.specs.Tokens.{Lexeme}
use Rattle.notation.specs.declared.form.Position.TheVariants.{Before, After}
use Rattle.notation.specs.Operators.{Fixity}
use Rattle.notation.specs.Operators.Fixity.{prefix, postfix, between}
use Rattle.notation.specs.Tables.{Table, LawfulTable, listed}
use Rattle.grammar.specs.declared.taker.Taker.{Taker}
use Rattle.grammar.specs.declared.taker.Taker.TheVariants.{Left, Right}
use Rattle.grammar.specs.Trees.{Bracketed}
use Rattle.grammar.specs.Trees.Bracketed.{named, pair, prefixed, postfixed, infixed}
use Rattle.grammar.specs.Weights.{fixity_in, operator_in}
use Rattle.grammar.specs.Lawful.{Lawful}
use Rattle.grammar.specs.Neighbours.{taker}
use Rattle.grammar.specs.Reading.{Formed, lexemes}

-- an operator that waits for its right operand: a prefix one, or an infix one with its left operand
pub data Pending : Type 0 where
  prefixing : ℕ → Pending
  infixing : ℕ → Bracketed → Pending

-- what is not finished: a bracket that is open, or an operator that waits
pub data Frame : Type 0 where
  bracket : Frame
  pending : Pending → Frame

-- an operand is due; an operator is due, after a bracketed tree; or no text that begins so reads
pub data State : Type 0 where
  operand_due : List Frame → State
  operator_due : List Frame → Bracketed → State
  refused : State

abbrev pub start : State
start = operand_due []

abbrev pub function_of : Pending → ℕ
function_of (prefixing f) = f
function_of (infixing f a) = f

-- the waiting operator takes b as its right operand
abbrev pub completed : Pending → Bracketed → Bracketed
completed (prefixing f) b = prefixed f b
completed (infixing f a) b = infixed f a b

-- `)` comes after b: what waits inside the bracket takes its operand
abbrev pub closed : List Frame → Bracketed → State
closed [] b = refused
closed (bracket ∷ k) b = operator_due k (pair b)
closed (pending u ∷ k) b = closed k (completed u b)

-- the end comes after b
abbrev pub ended : List Frame → Bracketed → Option Bracketed
ended [] b = Some b
ended (bracket ∷ k) b = None
ended (pending u ∷ k) b = ended k (completed u b)

-- the bracketed tree that is finished at the end, if any
abbrev pub outcome : State → Option Bracketed
outcome (operand_due k) = None
outcome (operator_due k b) = ended k b
outcome refused = None

-- the operator of f stands after b, its left operand
abbrev pub standing : Option Fixity → ℕ → List Frame → Bracketed → State
standing None f k b = refused
standing (Some prefix) f k b = refused
standing (Some postfix) f k b = operator_due k (postfixed f b)
standing (Some between) f k b = operand_due (pending (infixing f b) ∷ k)

-- the left neighbour takes the operand and the right one goes on, or the right one takes it, or neither may
abbrev pub decided : Option Taker → State → State → State
decided (Some Left) further here = further
decided (Some Right) further here = here
decided None further here = refused

-- a word or a symbol where an operand is due: the prefix operator that is listed under it, else the name that it is
abbrev pub begun : List ℕ → Option ℕ → Bool → List Frame → State
begun w (Some f) n k = operand_due (pending (prefixing f) ∷ k)
begun w None true k = operator_due k (named w)
begun w None false k = refused

module _ (t : Table) where
  -- the operator of f comes after b, beside what waits on the stack
  abbrev pub settled : ℕ → List Frame → Bracketed → State
  settled f [] b = standing (fixity_in t f) f [] b
  settled f (bracket ∷ k) b = standing (fixity_in t f) f (bracket ∷ k) b
  settled f (pending u ∷ k) b =
      decided (taker (operator_in t (function_of u)) (operator_in t f)) (settled f k (completed u b)) (standing (fixity_in t f) f (pending u ∷ k) b)

  -- a word is a name if it is listed in neither position and not too long
  unfoldable pub is_name : List ℕ → Bool
  is_name w = not (is_some (listed t Before w)) && (not (is_some (listed t After w)) && nat_le (length w) 16)

  -- a word or a symbol where an operator is due: the operator that is listed under it
  abbrev pub continued : Option ℕ → List Frame → Bracketed → State
  continued (Some f) k b = settled f k b
  continued None k b = refused

  -- a token where an operand is due
  abbrev pub operand_step : TokenKind → List ℕ → List Frame → State
  operand_step Word w k = begun w (listed t Before w) (is_name w) k
  operand_step Symbol w k = begun w (listed t Before w) false k
  operand_step Open w k = operand_due (bracket ∷ k)
  operand_step Close w k = refused

  -- a token where an operator is due
  abbrev pub operator_step : TokenKind → List ℕ → List Frame → Bracketed → State
  operator_step Word w k b = continued (listed t After w) k b
  operator_step Symbol w k b = continued (listed t After w) k b
  operator_step Open w k b = refused
  operator_step Close w k b = closed k b

  abbrev pub step : State → Lexeme → State
  step (operand_due k) x = operand_step x.kind x.bytes k
  step (operator_due k b) x = operator_step x.kind x.bytes k b
  step refused x = refused

  abbrev pub run : State → List Lexeme → State
  run st [] = st
  run st (x ∷ xs) = run (step st x) xs

  abbrev pub accepted : List Lexeme → Option Bracketed
  accepted xs = outcome (run start xs)

-- The laws. Every lawful bracketed tree is found from its tokens.
abbrev pub MachineFindsAll : Type 0
MachineFindsAll = (t : Table) → LawfulTable t → (b : Bracketed) → Lawful t b → accepted t (lexemes t b) ≡ Some b

-- What is found from well-formed tokens is lawful, and has just those tokens.
abbrev pub MachineFindsOnlyLawful : Type 0
MachineFindsOnlyLawful = (t : Table) → LawfulTable t → (xs : List Lexeme) → AllByRecursion Formed xs → (b : Bracketed) → accepted t xs ≡ Some b → Lawful t b × (lexemes t b ≡ xs)
