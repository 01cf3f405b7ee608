-- What is listed under a spelling.
use Rattle.std.specs.Prelude.{◌≡◌, ℕ, List, Some, None, Option}
use Rattle.tokens.specs.InOrder.{Only}
use Rattle.notation.specs.declared.form.Position.{Position}
use Rattle.notation.specs.declared.operator.Operator.{Operator}
use Rattle.notation.specs.Operators.{meant}
use Rattle.notation.specs.Tables.{Table, Listed}

-- what is found: no function is listed under the spelling in the position, or just this one, and this is its operator
abbrev pub Finds : Table → Position → List ℕ → Option (ℕ × Operator) → Type 0
Finds t p s None = (f : ℕ) → Listed t p s f → ⊥
Finds t p s (Some (f, o)) = Only (Listed t p s) f × (t f ≡ Some (meant o))
