-- Where none of the nodes is unwritable, the trees that they head can be written.
use Rattle.std.proofs.Common.{◌≡◌, ℕ, ◌-◌, ◌<◌, ◌≤◌, Bool, true, false, ◌||◌, cond, ltb, List, length, is_some, Some, None, Option, refl, sym, ap, ◌∙◌, arith}
use Rattle.std.proofs.lemmas.Bool.{ltb-true, ltb-false}
use Rattle.tokens.specs.declared.fault.FaultKind.{FaultKind}
use Rattle.tokens.specs.declared.fault.FaultKind.TheVariants.{FunctionAbsent, NameListed}
use Rattle.notation.specs.declared.form.Position.TheVariants.{Before, After}
use Rattle.notation.specs.Operators.{Op}
use Rattle.notation.specs.Tables.{Table, LawfulTable, listed}
use Rattle.grammar.specs.Trees.{Tree}
use Rattle.grammar.specs.Trees.Tree.{name, one, two}
use Rattle.grammar.specs.Lawful.{Name}
use Rattle.grammar.specs.Writing.{HasOperator, Writable}
use Rattle.rack.specs.declared.node.Item.TheVariants as I
use Rattle.rack.specs.declared.node.Node.{Node}
use Rattle.rack.specs.Names.{ShortWord, spelt}
use Rattle.rack.specs.Nodes.{size, name_of, padded}
use Rattle.rack.specs.Racks.{Lies}
use Rattle.rack.proofs.Lying.{name_item, one_item, two_item}
use Rattle.rack.proofs.Words.{spelt_padded}
use Rattle.writing.specs.Lines.{unwritable}
use Rattle.writing.specs.Unwritables.{NoneIn}

-- what is not refused is listed in neither position
none_listed : (b a : Option ℕ) → ◌≡◌ {A = Option FaultKind} (cond (is_some b || is_some a) (Some NameListed) None) None → (b ≡ None) × (a ≡ None)
none_listed None None e = (refl, refl)
none_listed None (Some g) e = cc
none_listed (Some f) a e = cc

-- and has an operator
some_op : (o : Option Op) → ◌≡◌ {A = Option FaultKind} (cond (is_some o) None (Some FunctionAbsent)) None → (p : Op) × (o ≡ Some p)
some_op None e = cc
some_op (Some p) e = (p, refl)

-- the operands of a function, by its number
takes_one : (f : ℕ) (b : Bool) → ltb f 32 ≡ b → f < 32 → ◌≡◌ {A = ℕ} (cond b 1 2) 1
takes_one f true e lt = refl
takes_one f false e lt = absurd (omega (arith, ltb-false f 32 e))

takes_two : (f : ℕ) (b : Bool) → ltb f 32 ≡ b → 32 ≤ f → ◌≡◌ {A = ℕ} (cond b 1 2) 2
takes_two f true e le = absurd (omega (arith, ltb-true f 32 e))
takes_two f false e le = refl

module _ (t : Table) (lawful : LawfulTable t) where
  name_writable : (w : List ℕ) → ShortWord w → unwritable t (I.Name (name_of w)) ≡ None → Name t w
  name_writable w short e =
      let is : spelt (padded w) ≡ w = spelt_padded w short in
      let none = none_listed (listed t Before (spelt (padded w))) (listed t After (spelt (padded w))) e in
      record { word = short.word; short = short.short; before = ap (listed t Before) (sym is) ∙ none.0; after = ap (listed t After) (sym is) ∙ none.1 }

  one_writable : (f : ℕ) → f < 32 → unwritable t (I.Function f) ≡ None → HasOperator t f 1
  one_writable f lt e =
      let o = some_op (t f) e in
      record { op = o.0; has = o.1; takes = (lawful.each f o.0 o.1).operands ∙ takes_one f (ltb f 32) refl lt }

  two_writable : (f : ℕ) → 32 ≤ f → unwritable t (I.Function f) ≡ None → HasOperator t f 2
  two_writable f le e =
      let o = some_op (t f) e in
      record { op = o.0; has = o.1; takes = (lawful.each f o.0 o.1).operands ∙ takes_two f (ltb f 32) refl le }

  module _ (nodes : List Node) (none : NoneIn t nodes) where
    tree_writable : (tree : Tree) (i : ℕ) → i < length nodes → Lies nodes i tree → Writable t tree
    tree_writable (name w) i lt l = name_writable w l.0 (ap (unwritable t) (sym (name_item nodes i w l)) ∙ none i lt)
    tree_writable (one f x) i lt l = (one_writable f l.0 (ap (unwritable t) (sym (one_item nodes i f x l)) ∙ none i lt), tree_writable x (i - 1) (omega arith) l.3)
    tree_writable (two f x y) i lt l = (
      two_writable f l.0 (ap (unwritable t) (sym (two_item nodes i f x y l)) ∙ none i lt),
      tree_writable x (i - 1 - size y) (omega arith) l.4,
      tree_writable y (i - 1) (omega arith) l.5,
    )

pub all_writable : (t : Table) → LawfulTable t → (nodes : List Node) → NoneIn t nodes → (i : ℕ) (tree : Tree) → i < length nodes → Lies nodes i tree → Writable t tree
all_writable t lawful nodes none i tree lt l = tree_writable t lawful nodes none tree i lt l
