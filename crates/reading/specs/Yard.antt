-- The reading machine as it works in a rack: in place of trees it has their nodes, stored as far as the rack has room.
-- Only the contracts of inner functions cite it.
use Rattle.std.specs.Prelude.{◌≡◌, ℕ, ◌+◌, ◌-◌, ◌<◌, Bool, true, false, cond, List, [], ◌∷◌, length, Some, None, Option, Ok, Err, Result, nat_lt, slice_set}
use Rattle.tokens.specs.declared.token.TokenKind.{TokenKind}
use Rattle.tokens.specs.declared.token.TokenKind.TheVariants.{Word, Symbol, Open, Close}
use Rattle.tokens.specs.Tokens.{Lexeme}
use Rattle.notation.specs.declared.form.Position.TheVariants.{Before, After}
use Rattle.notation.specs.Operators.{Op, Fixity}
use Rattle.notation.specs.Operators.Fixity.{prefix, postfix, between}
use Rattle.notation.specs.Tables.{Table, listed}
use Rattle.grammar.specs.declared.due.Due.{Due}
use Rattle.grammar.specs.declared.due.Due.TheVariants.{Operand, Operator}
use Rattle.grammar.specs.declared.taker.Taker.{Taker}
use Rattle.grammar.specs.declared.taker.Taker.TheVariants.{Left, Right}
use Rattle.grammar.specs.Machine.{is_name}
use Rattle.grammar.specs.Neighbours.{taker}
use Rattle.grammar.specs.Weights.{fixity_in, operator_in}
use Rattle.rack.specs.declared.node.Node.{Node}
use Rattle.rack.specs.Nodes.{function_node, name_node, room}
use Rattle.reading.specs.declared.reading.Reading.{Reading}
use Rattle.reading.specs.Waiting.{Waits, waits, waiting, rest, begins}
use Rattle.reading.specs.Waiting.Waits.{bracket, operator}

-- where the tree's nodes begin, what waits, the rack, and the next free place in it
pub record Site : Type 0 where
  pub mark : ℕ
  pub waiting : List Waits
  pub rack : List Node
  pub next : ℕ

abbrev pub site : ℕ → List Waits → List Node → ℕ → Site
site mark k rack n = record { mark = mark; waiting = k; rack = rack; next = n }

-- one token more may be taken: nodes put and things that wait are fewer than the tokens that an expression may have
abbrev pub HasRoom : Site → Type 0
HasRoom s = s.next + length s.waiting < s.mark + 1024

-- this is due at the site; or the text has failed, which leaves the rack as it then is
pub data Yard : Type 0 where
  stands : Due → Site → Yard
  refused : List Node → Yard

-- nothing is read yet
abbrev pub started : ℕ → List Node → Yard
started mark rack = stands Operand (site mark [] rack mark)

-- the node is stored if the place is within the rack's room
abbrev pub stored : List Node → ℕ → Node → List Node
stored rack n node = cond (nat_lt n (room rack)) (slice_set rack n node) rack

-- who takes the operand between an operator and the next one; where there is no operator, neither may
abbrev pub taker_of : Option Op → Op → Option Taker
taker_of (Some u) o = taker u o
taker_of None o = None

-- the left neighbour takes the operand and the right one goes on, or the right one takes it here, or neither may
abbrev pub decided : Option Taker → Result Site (List Node) → Site → Result Site (List Node)
decided (Some Left) further here = further
decided (Some Right) further here = Ok here
decided None further here = Err here.rack

module _ (mark : ℕ) where
  -- `)` where no operator waits since the latest bracket
  abbrev pub shut : List Waits → List Node → ℕ → Yard
  shut [] rack n = refused rack
  shut (bracket m ∷ k) rack n = stands Operator (site mark k rack n)
  shut (operator f m ∷ k) rack n = refused rack

  -- the end where no operator waits since the latest bracket
  abbrev pub over : List Waits → List Node → ℕ → Result Site (List Node)
  over [] rack n = Ok (site mark [] rack n)
  over (w ∷ k) rack n = Err rack

  -- f's node is put after the current operand, as the last of its tree
  abbrev pub covered : ℕ → List Waits → List Node → ℕ → List Node
  covered f k rack n = stored rack n (function_node f (n - begins mark k + 1))

  -- the operators that wait since the latest bracket take their operands
  unfoldable pub unwound : List Waits → List Node → ℕ → Site
  unwound [] rack n = site mark [] rack n
  unwound (bracket m ∷ k) rack n = site mark (bracket m ∷ k) rack n
  unwound (operator f m ∷ k) rack n = unwound k (covered f k rack n) (n + 1)

  -- those that wait and take the operand before the operator o take it
  unfoldable pub settled : Table → Op → List Waits → List Node → ℕ → Result Site (List Node)
  settled t o [] rack n = Ok (site mark [] rack n)
  settled t o (bracket m ∷ k) rack n = Ok (site mark (bracket m ∷ k) rack n)
  settled t o (operator f m ∷ k) rack n = decided (taker_of (t f) o) (settled t o k (covered f k rack n) (n + 1)) (site mark (operator f m ∷ k) rack n)

-- The same at a site.
abbrev pub added : Node → Site → Site
added node s = site s.mark s.waiting (stored s.rack s.next node) (s.next + 1)

abbrev pub covered_at : ℕ → Site → Site
covered_at f s = site s.mark s.waiting (covered s.mark f s.waiting s.rack s.next) (s.next + 1)

abbrev pub below : Site → Site
below s = site s.mark (rest s.waiting) s.rack s.next

abbrev pub waiting_on : Option ℕ → Site → Site
waiting_on f s = site s.mark (waits f s.next ∷ s.waiting) s.rack s.next

abbrev pub unwound_at : Site → Site
unwound_at s = unwound s.mark s.waiting s.rack s.next

abbrev pub settled_at : Table → Op → Site → Result Site (List Node)
settled_at t o s = settled s.mark t o s.waiting s.rack s.next

abbrev pub shut_at : Site → Yard
shut_at s = shut s.mark s.waiting s.rack s.next

abbrev pub over_at : Site → Result Site (List Node)
over_at s = over s.mark s.waiting s.rack s.next

-- a word or a symbol where an operand is due: the prefix operator that is listed under it, else the name that it is
abbrev pub begun : List ℕ → Option ℕ → Bool → Site → Yard
begun w (Some f) name s = stands Operand (waiting_on (Some f) s)
begun w None true s = stands Operator (added (name_node w) s)
begun w None false s = refused s.rack

-- the site when the end comes, if the text is finished there, and else the rack that it leaves
abbrev pub finished : Yard → Result Site (List Node)
finished (stands Operand s) = Err s.rack
finished (stands Operator s) = over_at (unwound_at s)
finished (refused rack) = Err rack

-- the operator of f stands at the site, if the operand before it was decided; with no operator the rack stays
abbrev pub standing : Option Fixity → ℕ → List Node → Result Site (List Node) → Yard
standing None f rack r = refused rack
standing (Some x) f rack (Err after) = refused after
standing (Some prefix) f rack (Ok s) = refused s.rack
standing (Some postfix) f rack (Ok s) = stands Operator (covered_at f s)
standing (Some between) f rack (Ok s) = stands Operand (waiting_on (Some f) s)

module _ (t : Table) where
  abbrev pub standing_at : ℕ → Site → Yard
  standing_at f s = standing (fixity_in t f) f s.rack (settled_at t (operator_in t f) s)

  -- a word or a symbol where an operator is due: the operator that is listed under it
  abbrev pub continued : Option ℕ → Site → Yard
  continued (Some f) s = standing_at f s
  continued None s = refused s.rack

  abbrev pub operand_step : TokenKind → List ℕ → Site → Yard
  operand_step Word w s = begun w (listed t Before w) (is_name t w) s
  operand_step Symbol w s = begun w (listed t Before w) false s
  operand_step Open w s = stands Operand (waiting_on None s)
  operand_step Close w s = refused s.rack

  abbrev pub operator_step : TokenKind → List ℕ → Site → Yard
  operator_step Word w s = continued (listed t After w) s
  operator_step Symbol w s = continued (listed t After w) s
  operator_step Open w s = refused s.rack
  operator_step Close w s = shut_at (unwound_at s)

  abbrev pub step : Yard → Lexeme → Yard
  step (stands Operand s) x = operand_step x.kind x.bytes s
  step (stands Operator s) x = operator_step x.kind x.bytes s
  step (refused rack) x = refused rack

  unfoldable pub run : Yard → List Lexeme → Yard
  run y [] = y
  run y (x ∷ xs) = run (step y x) xs

-- where a reading stands in its rack, whatever its notation is
abbrev pub site_of : {N : Type 0} → Reading N → Site
site_of reading = site reading.mark (waiting reading.reader.now) reading.rack.now reading.at

abbrev pub yard_of : {N : Type 0} → Reading N → Yard
yard_of reading = stands reading.due (site_of reading)

-- before and after a step of a reading, the reader and the rack that are lent to it are the same ones, and so is its notation
abbrev pub SameLoans : {N : Type 0} → Reading N → Reading N → Type 0
SameLoans before after =
    (after.reader.ghost_name ≡ before.reader.ghost_name) ×
    (after.rack.ghost_name ≡ before.rack.ghost_name) ×
    (after.notation ≡ before.notation)

-- what an inner function leaves at a site: with what it tells is due next, if the text has not failed; with whether it
-- has not failed; and with the place behind the tree's nodes, if it is finished
abbrev pub told : Option Due → Site → Yard
told (Some due) s = stands due s
told None s = refused s.rack

abbrev pub sited : Bool → Site → Result Site (List Node)
sited true s = Ok s
sited false s = Err s.rack

abbrev pub ended : Option ℕ → Site → Result Site (List Node)
ended (Some end) s = Ok (site s.mark s.waiting s.rack end)
ended None s = Err s.rack

-- what a step leaves
abbrev pub stepped : Bool → Yard → List Node → Yard
stepped true y rack = y
stepped false y rack = refused rack
