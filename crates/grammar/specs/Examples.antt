-- Worked examples of reading, refusing and writing, under one list.
use Rattle.std.specs.Prelude.{◌≡◌, ℕ, List, [], ◌∷◌, Err, codes}
use Rattle.std.specs.List.{AllByRecursion}
use Rattle.tokens.specs.declared.fault.FaultKind.{FaultKind}
use Rattle.tokens.specs.Faults.{number_of, fault}
use Rattle.tokens.specs.Spacing.{pairs_of}
use Rattle.notation.specs.declared.form.Form.TheVariants.{Fy, Yf, Xfx, Xfy, Yfx}
use Rattle.notation.specs.Tables.{Table, LawfulTable}
use Rattle.grammar.specs.Trees.{Tree}
use Rattle.grammar.specs.Trees.Tree.{name, one, two}
use Rattle.grammar.specs.Reading.{Reads}
use Rattle.grammar.specs.Refusals.{Answered}
use Rattle.notation.specs.Rows.{Row, row, table_of}
use Rattle.grammar.specs.Writing.{written, Fewest}

-- the list: function, priority, type and spelling
abbrev pub example_rows : List Row
example_rows =
    row 0 900 Fy (codes "not") ∷ row 1 800 Yf (codes "later") ∷ row 2 200 Fy (codes "-") ∷ row 32 400 Yfx (codes "*")
    ∷ row 35 500 Yfx (codes "+") ∷ row 43 700 Xfx (codes "=") ∷ row 46 200 Xfy (codes "^") ∷ []

abbrev pub example_table : Table
example_table = table_of example_rows

-- a text and the tree that it reads as; a text, the number of its fault and its place; a tree and its written text
pub data Example : Type 0 where
  reads_as : List ℕ → Tree → Example
  refused_with : List ℕ → ℕ → ℕ → Example
  written_as : Tree → List ℕ → Example

abbrev pub Shown : Table → Example → Type 0
Shown t (reads_as text tree) = Reads t text tree
Shown t (refused_with text n place) = (k : FaultKind) × (number_of k ≡ n) × Answered t text (Err (fault k place))
Shown t (written_as tree text) = (written t tree ≡ text) × Reads t text tree × Fewest t tree (pairs_of text)

abbrev pub a : Tree
a = name (codes "a")

abbrev pub b : Tree
b = name (codes "b")

abbrev pub c : Tree
c = name (codes "c")

abbrev pub v : Tree
v = name (codes "v")

abbrev pub x : Tree
x = name (codes "x")

-- a refusal's place is that of the token that fails, or the text's length
abbrev pub examples : List Example
examples =
    reads_as (codes "a*not b+c") (two 32 a (one 0 (two 35 b c)))
    ∷ reads_as (codes "a+b later*c") (two 32 (one 1 (two 35 a b)) c)
    ∷ refused_with (codes "a=b=c") 28 3
    ∷ written_as (two 46 a (one 2 b)) (codes "a^ -b")
    ∷ written_as (two 35 x (two 32 (two 46 (one 1 b) (one 0 c)) v)) (codes "x+(b later^not c)*v")
    ∷ written_as (two 32 a (one 0 b)) (codes "a*not b")
    ∷ refused_with [] 25 0
    ∷ refused_with (codes "()") 25 1
    ∷ refused_with (codes "a)") 27 1
    ∷ refused_with (codes "((a") 27 3
    ∷ refused_with (codes "a b") 26 2
    ∷ refused_with (codes "a$b") 24 1
    ∷ []

-- The law: the list is lawful, and every example is shown.
abbrev pub ExamplesHold : Type 0
ExamplesHold = LawfulTable example_table × AllByRecursion (Shown example_table) examples
