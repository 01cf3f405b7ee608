-- What a notation means: for each function its operator, or none.
use Rattle.std.specs.Prelude.{◌≡◌, ℕ, ◌<◌, ◌≤◌, Bool, true, false, cond, ◌&&◌, List, Some, None, Option, ◌≢◌, nat_lt}
use Rattle.std.specs.List.{find, range_with_len}
use Rattle.std.specs.Str.{bytes_eq}
use Rattle.notation.specs.declared.form.Position.{Position}
use Rattle.notation.specs.declared.form.Position.TheVariants.{Before, After}
use Rattle.notation.specs.declared.form.Side.TheVariants.{Y}
use Rattle.notation.specs.Operators.{Op, position_of, operands_of, left_side, right_side, Spelling}

abbrev pub Table : Type 0
Table = ℕ → Option Op

-- functions 0 to 31 take one operand, 32 to 63 two
abbrev pub operands_of_function : ℕ → ℕ
operands_of_function f = cond (nat_lt f 32) 1 2

-- what every operator of a table obeys
pub record LawfulOp (f : ℕ) (o : Op) : Type 0 where
  pub function : f < 64
  pub operands : operands_of o.form ≡ operands_of_function f
  pub low : 1 ≤ o.priority
  pub high : o.priority ≤ 1200
  pub spelling : Spelling o.spelling

-- f's operator is listed under the spelling in the position
pub record Listed (t : Table) (p : Position) (s : List ℕ) (f : ℕ) : Type 0 where
  pub op : Op
  pub has : t f ≡ Some op
  pub stands : position_of op.form ≡ p
  pub spelt : op.spelling ≡ s

-- The laws: each operator is lawful; a spelling is listed at most once in each position; and no priority has
-- both a type with y right of f and a type with y left of f.
pub record LawfulTable (t : Table) : Type 0 where
  pub each : (f : ℕ) (o : Op) → t f ≡ Some o → LawfulOp f o
  pub once : (p : Position) (s : List ℕ) (f g : ℕ) → Listed t p s f → Listed t p s g → f ≡ g
  pub levels : (f g : ℕ) (o q : Op) → t f ≡ Some o → t g ≡ Some q → o.priority ≡ q.priority → right_side o.form ≡ Y → left_side q.form ≢ Y

-- The function listed under a spelling, found among the sixty-four.
abbrev pub same_position : Position → Position → Bool
same_position Before Before = true
same_position Before After = false
same_position After Before = false
same_position After After = true

abbrev pub is_listed : Position → List ℕ → Option Op → Bool
is_listed p s None = false
is_listed p s (Some o) = same_position (position_of o.form) p && bytes_eq o.spelling s

-- the first of the n functions from f on that is so listed
abbrev pub listed_from : Table → Position → List ℕ → ℕ → ℕ → Option ℕ
listed_from t p s f n = find (λ g. is_listed p s (t g)) (range_with_len f n)

unfoldable pub listed : Table → Position → List ℕ → Option ℕ
listed t p s = listed_from t p s 0 64
