-- Declarations: when an open list admits a line, and what its table is then.
use Rattle.std.specs.Prelude.{◌≡◌, ℕ, ◌<◌, ◌≤◌, cond, ◌⊎◌, List, Some, Result, ◌==◌}
use Rattle.tokens.specs.declared.fault.Fault.{Fault}
use Rattle.tokens.specs.declared.fault.FaultKind.TheVariants.{MalformedDeclaration, UnknownType, WrongFunction, PriorityOutOfRange, MalformedSpelling, FunctionListed, SpellingTaken, MixedLevel}
use Rattle.tokens.specs.Faults.{fault}
use Rattle.tokens.specs.InOrder.{If, IfSome, Only, Refused, Accepted}
use Rattle.notation.specs.declared.form.Form.{Form}
use Rattle.notation.specs.declared.form.Side.TheVariants.{Y}
use Rattle.notation.specs.Lines.{Said, Says, word_of, said_op}
use Rattle.notation.specs.Operators.{Op, position_of, operands_of, left_side, right_side, Spelling}
use Rattle.notation.specs.Tables.{Table, operands_of_function, Listed}

-- the function is one of the sixty-four, and takes as many operands as an operator of the type
abbrev pub Fits : ℕ → Form → Type 0
Fits f m = (f < 64) × (operands_of m ≡ operands_of_function f)

abbrev pub InRange : ℕ → Type 0
InRange p = (1 ≤ p) × (p ≤ 1200)

-- the two have one priority, and one has y right of f, the other y left of f
pub record Mixed (o q : Op) : Type 0 where
  pub level : o.priority ≡ q.priority
  pub sides : ((right_side o.form ≡ Y) × (left_side q.form ≡ Y)) ⊎ ((left_side o.form ≡ Y) × (right_side q.form ≡ Y))

-- so do o and the operator of g
pub record Mixes (t : Table) (o : Op) (g : ℕ) : Type 0 where
  pub op : Op
  pub has : t g ≡ Some op
  pub mixed : Mixed o op

-- The rules, in order. The place of a fault is its field, from 1, or 0 for the line.
module _ {T : Type 0} where
  -- the fault unless P holds, or holds of something; else as the rules after it say
  abbrev pub Unless : Type 0 → Fault → (Result T Fault → Type 0) → Result T Fault → Type 0
  Unless P f otherwise = If P otherwise (Refused f)

  abbrev pub UnlessSome : {X : Type 0} → (X → Type 0) → Fault → (X → Result T Fault → Type 0) → Result T Fault → Type 0
  UnlessSome P f otherwise = IfSome P otherwise (Refused f)

  -- the rules of a line, and then those of its function and operator
  abbrev pub LineRules : List ℕ → (ℕ → Op → Result T Fault → Type 0) → Result T Fault → Type 0
  LineRules line otherwise =
      UnlessSome (Says line) (fault MalformedDeclaration 0)
      (λ d. UnlessSome (λ m. d.word ≡ word_of m) (fault UnknownType 3) (λ m. otherwise d.function (said_op d m)))

  -- the rules of a function and an operator by themselves, and then others
  abbrev pub OperatorRules : ℕ → Op → (Result T Fault → Type 0) → Result T Fault → Type 0
  OperatorRules f o otherwise =
      Unless (Fits f o.form) (fault WrongFunction 1)
      (Unless (InRange o.priority) (fault PriorityOutOfRange 2) (Unless (Spelling o.spelling) (fault MalformedSpelling 4) otherwise))

abbrev pub Answer : Type 0
Answer = Result (Unit {0}) Fault

-- the rules of their place in a table
abbrev pub TableRules : Table → ℕ → Op → Answer → Type 0
TableRules t f o =
    IfSome (λ q. t f ≡ Some q) (λ _. Refused (fault FunctionListed 1))
    (IfSome (Listed t (position_of o.form) o.spelling) (λ _. Refused (fault SpellingTaken 4))
    (IfSome (Mixes t o) (λ _. Refused (fault MixedLevel 2)) (Accepted tt)))

abbrev pub Declares : Table → List ℕ → Answer → Type 0
Declares t line = LineRules line (λ f o. OperatorRules f o (TableRules t f o))

-- The table with one operator more.
abbrev pub extended : Table → ℕ → Op → Table
extended t f o g = cond (f == g) (Some o) (t g)

-- After an accepted line the table is the old one with the operator that the line declares.
pub record Added (before : Table) (line : List ℕ) (after : Table) : Type 0 where
  pub said : Said
  pub form : Form
  pub says : Only (Says line) said
  pub word : said.word ≡ word_of form
  pub table : after ≡ extended before said.function (said_op said form)
