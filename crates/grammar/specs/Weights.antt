-- Weights and limits: what an operand shows towards its operator, and what the operator admits there.
use Rattle.std.specs.Prelude.{ℕ, ◌≤◌, max, Bool, [], Some, None, Option, nat_le}
use Rattle.std.specs.Option.{option_map}
use Rattle.notation.specs.declared.form.Form.TheVariants.{Xfx}
use Rattle.notation.specs.Operators.{Op, Fixity, fixity_of, left_side, right_side, limit}
use Rattle.notation.specs.Tables.{Table}
use Rattle.grammar.specs.Trees.{Bracketed}
use Rattle.grammar.specs.Trees.Bracketed.{named, pair, prefixed, postfixed, infixed}

-- how the operator of a function stands to its operands, if the function has one
abbrev pub fixity_in : Table → ℕ → Option Fixity
fixity_in t f = option_map (λ o. fixity_of o.form) (t f)

-- the operator of a function; one that has none, and so stands in no lawful tree, counts as this
abbrev pub or_absent : Option Op → Op
or_absent None = record { priority = 1; form = Xfx; spelling = [] }
or_absent (Some o) = o

abbrev pub operator_in : Table → ℕ → Op
operator_in t f = or_absent (t f)

-- the largest weight that an operator admits on each side
abbrev pub left_limit : Op → ℕ
left_limit o = limit (left_side o.form) o.priority

abbrev pub right_limit : Op → ℕ
right_limit o = limit (right_side o.form) o.priority

module _ (t : Table) where
  -- what a bracketed tree shows towards an operator on its left: the largest priority down its left side
  abbrev pub left_weight : Bracketed → ℕ
  left_weight (named w) = 0
  left_weight (pair b) = 0
  left_weight (prefixed f b) = 0
  left_weight (postfixed f b) = max (operator_in t f).priority (left_weight b)
  left_weight (infixed f a b) = max (operator_in t f).priority (left_weight a)

  -- and towards one on its right
  abbrev pub right_weight : Bracketed → ℕ
  right_weight (named w) = 0
  right_weight (pair b) = 0
  right_weight (prefixed f b) = max (operator_in t f).priority (right_weight b)
  right_weight (postfixed f b) = 0
  right_weight (infixed f a b) = max (operator_in t f).priority (right_weight b)

  -- f's operator admits the bracketed tree as its left operand, and as its right one: what it shows towards the
  -- operator is within the limit there
  abbrev pub AdmitsLeft : ℕ → Bracketed → Type 0
  AdmitsLeft f a = right_weight a ≤ left_limit (operator_in t f)

  abbrev pub AdmitsRight : ℕ → Bracketed → Type 0
  AdmitsRight f b = left_weight b ≤ right_limit (operator_in t f)

  -- the same as tests
  abbrev pub admits_left : ℕ → Bracketed → Bool
  admits_left f a = nat_le (right_weight a) (left_limit (operator_in t f))

  abbrev pub admits_right : ℕ → Bracketed → Bool
  admits_right f b = nat_le (left_weight b) (right_limit (operator_in t f))
