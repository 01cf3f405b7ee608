-- Plan lines: 1 to 8 digits, a tab, and an expression.
use Rattle.std.specs.Prelude.{◌≡◌, ℕ, ◌≤◌, true, List, [], ◌∷◌, ◌++◌, length}
use Rattle.std.specs.List.{AllByRecursion}
use Rattle.tokens.specs.Bytes.{is_digit}

abbrev pub Digit : ℕ → Type 0
Digit b = is_digit b ≡ true

-- the line is these digits, a tab (byte 9), and this expression
pub record IsPlanLine (line digits expression : List ℕ) : Type 0 where
  pub split : line ≡ digits ++ (9 ∷ expression)
  pub all : AllByRecursion Digit digits
  pub some : 1 ≤ length digits
  pub few : length digits ≤ 8

abbrev pub NoPlanLine : List ℕ → Type 0
NoPlanLine line = (digits expression : List ℕ) → IsPlanLine line digits expression → ⊥

-- the bytes do not begin with a digit
abbrev pub DigitsEnd : List ℕ → Type 0
DigitsEnd [] = Unit {0}
DigitsEnd (b ∷ bs) = Digit b → ⊥
