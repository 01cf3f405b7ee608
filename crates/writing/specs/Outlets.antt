-- Outlets: what a Put may carry, and the rule by which an outlet takes it.
use Rattle.std.specs.Prelude.{◌≡◌, ℕ, ◌+◌, ◌≤◌, List, length, Some, None, Option, Ok, Err, Result}
use Rattle.tokens.specs.declared.fault.Fault.{Fault}
use Rattle.tokens.specs.declared.fault.FaultKind.TheVariants.{OutletRefused}
use Rattle.tokens.specs.Faults.{fault}
use Rattle.writing.specs.declared.put_kind.PutKind.{PutKind}
use Rattle.writing.specs.declared.put_kind.PutKind.TheVariants.{Margin, Tab, Name, Operator, Open, Close, Blank, LineEnd}

-- the most bytes that a Put of the kind may carry
abbrev pub longest : PutKind → ℕ
longest Margin = 31
longest Tab = 1
longest Name = 31
longest Operator = 31
longest Open = 1
longest Close = 1
longest Blank = 1
longest LineEnd = 1

abbrev pub LawfulLength : PutKind → ℕ → Type 0
LawfulLength kind n = (1 ≤ n) × (n ≤ longest kind)

-- how many pairs of brackets it closes
abbrev pub closed : PutKind → ℕ
closed Margin = 0
closed Tab = 0
closed Name = 0
closed Operator = 0
closed Open = 0
closed Close = 1
closed Blank = 0
closed LineEnd = 0

-- The rule of an outlet: the holding that a Put of the kind, with these bytes, makes of the old one; none if it is refused.
abbrev pub Rule : Type 0 → Type 0
Rule H = H → PutKind → List ℕ → Option H

-- The laws of every outlet: no Put of a wrong length is accepted, and one that is adds to the pairs told those that it closes.
pub record OutletLaws (H : Type 0) (rule : Rule H) (told : H → ℕ) : Type 0 where
  pub lengths : (h after : H) (kind : PutKind) (bytes : List ℕ) → rule h kind bytes ≡ Some after → LawfulLength kind (length bytes)
  pub pairs : (h after : H) (kind : PutKind) (bytes : List ℕ) → rule h kind bytes ≡ Some after → told after ≡ told h + closed kind

-- what a Put answers and leaves, by what the rule makes of the holding
abbrev pub Puts : {H : Type 0} → Option H → H → Result (Unit {0}) Fault → Type 0
Puts (Some h) after r = (r ≡ Ok tt) × (after ≡ h)
Puts None after r = r ≡ Err (fault OutletRefused 0)
