-- The notations at the top of an input: `ladder`, or `declared`, declarations and `end`, a line each.
use Rattle.std.specs.Prelude.{◌≡◌, ℕ, ◌+◌, ◌⊎◌, List, [], ◌∷◌, None, Ok, Err, codes, Result}
use Rattle.tokens.specs.declared.fault.Fault.{Fault}
use Rattle.tokens.specs.declared.fault.FaultKind.TheVariants.{MalformedDeclaration}
use Rattle.tokens.specs.Faults.{fault}
use Rattle.tokens.specs.InOrder.{If}
use Rattle.notation.specs.Declarations.{Declares, Added}
use Rattle.notation.specs.Rows.{ladder_table}
use Rattle.notation.specs.Tables.{Table}
use Rattle.plan.specs.declared.input_fault.InputFault.{InputFault}

-- a notation that was read: its table, the lines that follow it, and how many lines came before those
pub record Section : Type 0 where
  pub table : Table
  pub rest : List (List ℕ)
  pub count : ℕ

abbrev pub section : Table → List (List ℕ) → ℕ → Section
section t ls n = record { table = t; rest = ls; count = n }

abbrev pub Sectioned : Type 0
Sectioned = Result Section InputFault

abbrev pub fault_at_line : ℕ → Fault → InputFault
fault_at_line n f = record { line = n; fault = f }

-- no line that may stand there
abbrev pub malformed : ℕ → InputFault
malformed n = fault_at_line n (fault MalformedDeclaration 0)

abbrev pub empty_table : Table
empty_table f = None

-- Declarations into the table, after n lines of the input: up to `end`, or to the first that is refused. The end of the
-- input counts as one line more, which may not stand there.
abbrev pub Declarations : Table → ℕ → List (List ℕ) → Sectioned → Type 0
Declarations t n [] r = r ≡ Err (malformed (n + 1))
Declarations t n (l ∷ ls) r =
    If (l ≡ codes "end") (λ s. s ≡ Ok (section t ls (n + 1)))
    (λ s. ((f : Fault) × Declares t l (Err f) × (s ≡ Err (fault_at_line (n + 1) f)))
    ⊎ (Declares t l (Ok tt) × ((u : Table) × Added t l u × Declarations u (n + 1) ls s)))
    r

-- A notation, after n lines of the input.
abbrev pub Notation : ℕ → List (List ℕ) → Sectioned → Type 0
Notation n [] r = r ≡ Err (malformed (n + 1))
Notation n (l ∷ ls) r =
    If (l ≡ codes "ladder") (λ s. s ≡ Ok (section ladder_table ls (n + 1)))
    (If (l ≡ codes "declared") (Declarations empty_table (n + 1) ls) (λ s. s ≡ Err (malformed (n + 1))))
    r

-- two notations that were read, one after the other: the table of the first, and what was read of the second
pub record Both : Type 0 where
  pub first : Table
  pub second : Section

-- Two notations, one after the other, after n lines of the input: both, or the fault of the first that is refused.
abbrev pub Second : Section → Sectioned → Result Both InputFault → Type 0
Second s (Ok u) r = r ≡ Ok (record { first = s.table; second = u })
Second s (Err e) r = r ≡ Err e

abbrev pub First : Sectioned → Result Both InputFault → Type 0
First (Ok s) r = (second : Sectioned) × Notation s.count s.rest second × Second s second r
First (Err e) r = r ≡ Err e

abbrev pub TwoNotations : ℕ → List (List ℕ) → Result Both InputFault → Type 0
TwoNotations n ls r = (first : Sectioned) × Notation n ls first × First first r
