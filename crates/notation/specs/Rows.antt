-- Tables told as lists of rows, and the ladder's: C's operators without the conditional.
use Rattle.std.specs.Prelude.{ℕ, cond, List, [], ◌∷◌, Some, None, codes, Option, ◌==◌}
use Rattle.notation.specs.declared.form.Form.{Form}
use Rattle.notation.specs.declared.form.Form.TheVariants.{Fy, Yf, Xfy, Yfx}
use Rattle.notation.specs.declared.form.Position.{Position}
use Rattle.notation.specs.Operators.{Op}
use Rattle.notation.specs.Tables.{Table, is_listed}

-- a function with its operator
pub record Row : Type 0 where
  pub function : ℕ
  pub op : Op

-- function, priority, type and spelling
abbrev pub row : ℕ → ℕ → Form → List ℕ → Row
row f p m s = record { function = f; op = record { priority = p; form = m; spelling = s } }

-- the operator in a function's row, the first if there are several
abbrev pub table_of : List Row → Table
table_of [] f = None
table_of (r ∷ rs) f = cond (r.function == f) (Some r.op) (table_of rs f)

-- in the order of binding, tightest first
abbrev pub ladder_rows : List Row
ladder_rows =
    row 4 1 Yf (codes "++")
    ∷ row 5 1 Yf (codes "--")
    ∷ row 0 2 Fy (codes "!")
    ∷ row 1 2 Fy (codes "~")
    ∷ row 2 2 Fy (codes "-")
    ∷ row 3 2 Fy (codes "+")
    ∷ row 32 3 Yfx (codes "*")
    ∷ row 33 3 Yfx (codes "/")
    ∷ row 34 3 Yfx (codes "%")
    ∷ row 35 4 Yfx (codes "+")
    ∷ row 36 4 Yfx (codes "-")
    ∷ row 37 5 Yfx (codes "<<")
    ∷ row 38 5 Yfx (codes ">>")
    ∷ row 39 6 Yfx (codes "<")
    ∷ row 40 6 Yfx (codes "<=")
    ∷ row 41 6 Yfx (codes ">")
    ∷ row 42 6 Yfx (codes ">=")
    ∷ row 43 7 Yfx (codes "==")
    ∷ row 44 7 Yfx (codes "!=")
    ∷ row 45 8 Yfx (codes "&")
    ∷ row 46 9 Yfx (codes "^")
    ∷ row 47 10 Yfx (codes "|")
    ∷ row 48 11 Yfx (codes "&&")
    ∷ row 49 12 Yfx (codes "||")
    ∷ row 50 14 Xfy (codes "=")
    ∷ row 51 15 Yfx (codes ",")
    ∷ []

unfoldable pub ladder_table : Table
ladder_table = table_of ladder_rows

-- the function of the row with the spelling in the position, the first if there are several
abbrev pub listed_in : List Row → Position → List ℕ → Option ℕ
listed_in [] p s = None
listed_in (r ∷ rs) p s = cond (is_listed p s (Some r.op)) (Some r.function) (listed_in rs p s)
