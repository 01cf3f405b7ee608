-- Operators: where each type of operator stands, and what its operands may be.
use Rattle.std.specs.Prelude.{◌≡◌, ℕ, ◌-◌, ◌≤◌, false, ◌⊎◌, List, [], ◌∷◌, length, Option}
use Rattle.std.specs.Option.{option_map}
use Rattle.tokens.specs.Bytes.{is_digit}
use Rattle.tokens.specs.Tokens.{WellFormed}
use Rattle.tokens.specs.declared.token.TokenKind.TheVariants as K
use Rattle.notation.specs.declared.form.Form.{Form}
use Rattle.notation.specs.declared.form.Form.TheVariants.{Fx, Fy, Xf, Yf, Xfx, Xfy, Yfx}
use Rattle.notation.specs.declared.form.Position.{Position}
use Rattle.notation.specs.declared.form.Position.TheVariants.{Before, After}
use Rattle.notation.specs.declared.form.Side.{Side}
use Rattle.notation.specs.declared.form.Side.TheVariants.{X, Y}
use Rattle.notation.specs.declared.operator.Operator.{Operator}

-- an operator, with the bytes of its spelling
pub record Op : Type 0 where
  pub priority : ℕ
  pub form : Form
  pub spelling : List ℕ

-- what an operator of the code stands for
abbrev pub meant : Operator → Op
meant o = record { priority = o.priority; form = o.form; spelling = o.spelling.now }

abbrev pub told : Option Operator → Option Op
told r = option_map meant r

-- how an operator stands to its operands
pub data Fixity : Type 0 where
  prefix postfix between : Fixity

abbrev pub fixity_of : Form → Fixity
fixity_of Fx = prefix
fixity_of Fy = prefix
fixity_of Xf = postfix
fixity_of Yf = postfix
fixity_of Xfx = between
fixity_of Xfy = between
fixity_of Yfx = between

abbrev pub position_in : Fixity → Position
position_in prefix = Before
position_in postfix = After
position_in between = After

abbrev pub position_of : Form → Position
position_of m = position_in (fixity_of m)

-- how many operands it takes
abbrev pub operands_in : Fixity → ℕ
operands_in prefix = 1
operands_in postfix = 1
operands_in between = 2

abbrev pub operands_of : Form → ℕ
operands_of m = operands_in (fixity_of m)

-- the letters beside the f; a side without an operand counts as x
abbrev pub left_side : Form → Side
left_side Fx = X
left_side Fy = X
left_side Xf = X
left_side Yf = Y
left_side Xfx = X
left_side Xfy = X
left_side Yfx = Y

abbrev pub right_side : Form → Side
right_side Fx = X
right_side Fy = Y
right_side Xf = X
right_side Yf = X
right_side Xfx = X
right_side Xfy = Y
right_side Yfx = X

-- the largest weight that a side admits: x those below the priority, y those up to it
abbrev pub limit : Side → ℕ → ℕ
limit X p = p - 1
limit Y p = p

-- the word does not begin with a digit
abbrev pub NoDigitFirst : List ℕ → Type 0
NoDigitFirst [] = Unit {0}
NoDigitFirst (b ∷ bs) = is_digit b ≡ false

-- a spelling is a symbol, or a word that does not begin with a digit, of 1 to 12 bytes
pub record Spelling (s : List ℕ) : Type 0 where
  pub short : length s ≤ 12
  pub token : WellFormed K.Symbol s ⊎ (WellFormed K.Word s × NoDigitFirst s)
