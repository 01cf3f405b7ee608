-- Neighbours: which of two operators takes the operand that stands between them.
use Rattle.std.specs.Prelude.{◌≡◌, ℕ, ◌<◌, Bool, true, false, ◌⊎◌, List, [], ◌∷◌, Some, None, Option, nat_le}
use Rattle.std.specs.List.{AllByRecursion}
use Rattle.tokens.specs.InOrder.{Only}
use Rattle.notation.specs.declared.form.Side.TheVariants.{X, Y}
use Rattle.notation.specs.Operators.{Op, left_side, right_side}
use Rattle.notation.specs.Tables.{Table, LawfulTable}
use Rattle.grammar.specs.declared.taker.Taker.{Taker}
use Rattle.grammar.specs.declared.taker.Taker.TheVariants.{Left, Right}
use Rattle.grammar.specs.Trees.{Bracketed}
use Rattle.grammar.specs.Trees.Bracketed.{named, pair, prefixed, postfixed, infixed}
use Rattle.grammar.specs.Weights.{operator_in, left_limit, right_limit}
use Rattle.grammar.specs.Lawful.{Lawful}

abbrev pub chosen : Bool → Bool → Option Taker
chosen true r = Some Left
chosen false true = Some Right
chosen false false = None

-- The decision. The left one takes the operand if its priority is within the right one's left limit; else the right
-- one does if its priority is within the left one's right limit; else neither may.
abbrev pub taker : Op → Op → Option Taker
taker u o = chosen (nat_le u.priority (left_limit o)) (nat_le o.priority (right_limit u))

-- The same in the order of priority and type: the smaller priority takes it; between equals the left one does where
-- the right one has y at its left, the right one where the left one has y at its right, and else neither.
abbrev pub Takes : Op → Op → Option Taker → Type 0
Takes u o (Some Left) = (u.priority < o.priority) ⊎ ((u.priority ≡ o.priority) × (left_side o.form ≡ Y))
Takes u o (Some Right) = (o.priority < u.priority) ⊎ ((u.priority ≡ o.priority) × (right_side u.form ≡ Y))
Takes u o None = (u.priority ≡ o.priority) × (left_side o.form ≡ X) × (right_side u.form ≡ X)

-- The laws, for every lawful table. Between two of its operators that is the decision, and no other.
abbrev pub NeighboursDecided : Type 0
NeighboursDecided = (t : Table) → LawfulTable t → (f g : ℕ) (u o : Op) → t f ≡ Some u → t g ≡ Some o → Only (Takes u o) (taker u o)

-- the functions whose operators stand down the left side of a bracketed tree, and down its right side
abbrev pub down_left : Bracketed → List ℕ
down_left (named w) = []
down_left (pair b) = []
down_left (prefixed f b) = []
down_left (postfixed f a) = f ∷ down_left a
down_left (infixed f a b) = f ∷ down_left a

abbrev pub down_right : Bracketed → List ℕ
down_right (named w) = []
down_right (pair b) = []
down_right (prefixed f b) = f ∷ down_right b
down_right (postfixed f a) = []
down_right (infixed f a b) = f ∷ down_right b

-- An operator has its left neighbours down the right side of its left operand, where they took what stood between, and
-- its right neighbours down the left side of its right operand.
module _ (t : Table) where
  abbrev pub LeftTook : ℕ → Bracketed → Type 0
  LeftTook f a = AllByRecursion (λ g. Takes (operator_in t g) (operator_in t f) (Some Left)) (down_right a)

  abbrev pub RightTook : ℕ → Bracketed → Type 0
  RightTook f b = AllByRecursion (λ g. Takes (operator_in t f) (operator_in t g) (Some Right)) (down_left b)

  abbrev pub DecidesSo : Bracketed → Type 0
  DecidesSo (named w) = Unit {0}
  DecidesSo (pair b) = DecidesSo b
  DecidesSo (prefixed f b) = RightTook f b × DecidesSo b
  DecidesSo (postfixed f a) = LeftTook f a × DecidesSo a
  DecidesSo (infixed f a b) = LeftTook f a × RightTook f b × DecidesSo a × DecidesSo b

-- Every lawful bracketed tree decides so.
abbrev pub TreesDecideSo : Type 0
TreesDecideSo = (t : Table) → LawfulTable t → (b : Bracketed) → Lawful t b → DecidesSo t b
