-- What becomes of the lines of a plan, and of the whole plan.
use Rattle.std.specs.Prelude.{◌≡◌, ℕ, ◌+◌, Bool, false, cond, ◌⊎◌, List, [], ◌∷◌, ◌++◌, length, Ok, Err, Result, ◌==◌}
use Rattle.std.specs.List.{flat_map}
use Rattle.tokens.specs.declared.fault.Fault.{Fault}
use Rattle.tokens.specs.declared.fault.FaultKind.TheVariants.{MalformedLine}
use Rattle.tokens.specs.Faults.{fault}
use Rattle.tokens.specs.Limits.{Limits, WithinLimits}
use Rattle.tokens.specs.Spacing.{respaced, pairs_of}
use Rattle.notation.specs.Tables.{Table}
use Rattle.grammar.specs.Trees.{Tree}
use Rattle.grammar.specs.Reading.{Reads}
use Rattle.grammar.specs.Refusals.{Answered}
use Rattle.plan.specs.PlanLines.{IsPlanLine, NoPlanLine}
use Rattle.plan.specs.Reports.{line_end, fault_line, tail_line}

-- under the table of the notation that the plan is written in
module _ (t : Table) where
  -- The expression is refused with the fault: it passes a limit; or it is within them, and does not read.
  abbrev pub ExpressionFault : List ℕ → Fault → Type 0
  ExpressionFault expression f = Limits expression (Err f) ⊎ (WithinLimits expression × Answered t expression (Err f))

  -- The line is refused with the fault: it is no plan line, or its expression is refused.
  abbrev pub LineFault : List ℕ → Fault → Type 0
  LineFault line f =
      (NoPlanLine line × (f ≡ fault MalformedLine 0))
      ⊎ ((digits : List ℕ) × (expression : List ℕ) × IsPlanLine line digits expression × ExpressionFault expression f)

  -- the line is put out: it is a plan line whose expression is within the limits and reads as a tree
  pub record LineReads (line digits expression : List ℕ) : Type 0 where
    pub is : IsPlanLine line digits expression
    pub within : WithinLimits expression
    pub tree : Tree
    pub reads : Reads t expression tree

  -- The line, with this number in the input, comes out as these bytes: its digits, a tab and its tokens by the
  -- spacing rule; or a fault line.
  abbrev pub ComesOut : ℕ → List ℕ → Result ℕ Fault → List ℕ → Type 0
  ComesOut number line (Ok pairs) bytes =
      (digits : List ℕ) × (expression : List ℕ)
      × LineReads line digits expression × (pairs ≡ pairs_of expression)
      × (bytes ≡ digits ++ (9 ∷ (respaced expression ++ line_end)))
  ComesOut number line (Err f) bytes = LineFault line f × (bytes ≡ fault_line number f)

-- the lines of the plan: up to one that begins with `#` (byte 35)
abbrev pub begins_tail : List ℕ → Bool
begins_tail [] = false
begins_tail (b ∷ bs) = b == 35

abbrev pub up_to_tail : List (List ℕ) → List (List ℕ)
up_to_tail [] = []
up_to_tail (l ∷ ls) = cond (begins_tail l) [] (l ∷ up_to_tail ls)

-- what became of a line, and the bytes that it came out as
pub record Entry : Type 0 where
  pub outcome : Result ℕ Fault
  pub bytes : List ℕ

abbrev pub bytes_of : Entry → List ℕ
bytes_of e = e.bytes

module _ (t : Table) where
  abbrev pub ComesOutAs : ℕ → List ℕ → Entry → Type 0
  ComesOutAs number line e = ComesOut t number line e.outcome e.bytes

  abbrev pub EachComesOut : ℕ → List (List ℕ) → List Entry → Type 0
  EachComesOut number [] [] = Unit {0}
  EachComesOut number [] (e ∷ es) = ⊥
  EachComesOut number (l ∷ ls) [] = ⊥
  EachComesOut number (l ∷ ls) (e ∷ es) = ComesOutAs number l e × EachComesOut (number + 1) ls es

-- the lines that were put out, and the pairs of brackets in them
abbrev pub line_in : Result ℕ Fault → ℕ
line_in (Ok pairs) = 1
line_in (Err f) = 0

abbrev pub pairs_in : Result ℕ Fault → ℕ
pairs_in (Ok pairs) = pairs
pairs_in (Err f) = 0

abbrev pub lines_added : List Entry → ℕ
lines_added [] = 0
lines_added (e ∷ es) = line_in e.outcome + lines_added es

abbrev pub pairs_added : List Entry → ℕ
pairs_added [] = 0
pairs_added (e ∷ es) = pairs_in e.outcome + pairs_added es

-- The output of a plan under the table, after `count` lines of the input: what each of its lines comes out as, in order, and the tail,
-- which counts the lines that were put out and their pairs.
pub record PlanOutput (t : Table) (count : ℕ) (lines : List (List ℕ)) (out : List ℕ) : Type 0 where
  pub entries : List Entry
  pub each : EachComesOut t (count + 1) lines entries
  pub whole : out ≡ flat_map bytes_of entries ++ tail_line (lines_added entries) (pairs_added entries)

-- room for the output of these lines: no line comes out longer than itself and 65 bytes, nor does the tail
abbrev pub room_for : List (List ℕ) → ℕ
room_for [] = 65
room_for (l ∷ ls) = length l + 65 + room_for ls
