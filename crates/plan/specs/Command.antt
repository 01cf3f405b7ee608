-- What the command answers to its whole input: two notations, and then a plan.
use Rattle.std.specs.Prelude.{◌≡◌, ℕ, List, Ok, Err}
use Rattle.notation.specs.Tables.{Table}
use Rattle.plan.specs.InputLines.{counted_lines}
use Rattle.plan.specs.Plans.{up_to_tail, PlanOutput}
use Rattle.plan.specs.Reports.{fault_line}
use Rattle.plan.specs.Sections.{Section, Sectioned, Notation}

-- After a notation that was read, P says what comes out; else its fault line does, and nothing more.
abbrev pub Onward : (Section → List ℕ → Type 0) → Sectioned → List ℕ → Type 0
Onward P (Ok s) out = P s out
Onward P (Err e) out = out ≡ fault_line e.line e.fault

abbrev pub AfterNotation : (Section → List ℕ → Type 0) → ℕ → List (List ℕ) → List ℕ → Type 0
AfterNotation P n ls out = (r : Sectioned) × Notation n ls r × Onward P r out

-- the output of a plan under the first notation, after the second
abbrev pub AfterBoth : Table → Section → List ℕ → Type 0
AfterBoth t s out = PlanOutput t s.count (up_to_tail s.rest) out

-- The output of an input: a notation, a second one after it, and the plan after that, which is read under the first.
abbrev pub Output : List ℕ → List ℕ → Type 0
Output input out = AfterNotation (λ s. AfterNotation (AfterBoth s.table) s.count s.rest) 0 (counted_lines input) out
