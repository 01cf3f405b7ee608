-- A lawful table with one operator more, which is free in it, is lawful. Assumes nothing.
use Rattle.std.specs.Prelude.{◌≡◌, ℕ, zero, suc, ◌<◌, ◌⊎◌, List, length, replicate, is_some, Some, None, Option, ◌==◌, ◌≢◌, slice_index_or, slice_set, refl}
use Rattle.std.proofs.Common.{sym, ap, subst, ◌∙◌, inl, inr, ⊎_elim, arith}
use Rattle.std.specs.Option.{option_map}
use Rattle.std.proofs.lemmas.List.{get_or_default, get_or-set_same, get_or-set_other}
use Rattle.std.proofs.lemmas.Bool.{cases_Bool, cases_eq, eqb-true, eq-eqb, ne_eqb, cond-true, cond-false}
use Rattle.notation.specs.declared.entry.Entry.{Entry}
use Rattle.notation.specs.declared.form.Form.{Form}
use Rattle.notation.specs.declared.form.Form.TheVariants.{Fx, Fy, Xf, Yf, Xfx, Xfy, Yfx}
use Rattle.notation.specs.declared.form.Position.{Position}
use Rattle.notation.specs.declared.form.Side.TheVariants.{X, Y}
use Rattle.notation.specs.Declarations.{Mixes, extended}
use Rattle.notation.specs.Operators.{Op, position_of, left_side, right_side}
use Rattle.notation.specs.Slots.{op_in, table_in}
use Rattle.notation.specs.Tables.{Table, LawfulOp, Listed, LawfulTable}

-- no type has y on both sides
x≢y : X ≡ Y → ⊥
x≢y e = let z : ◌≡◌ {A = ℕ} 0 1 = cc in omega arith

one_y : (m : Form) → right_side m ≡ Y → left_side m ≢ Y
one_y Fx r l = x≢y r
one_y Fy r l = x≢y l
one_y Xf r l = x≢y r
one_y Yf r l = x≢y r
one_y Xfx r l = x≢y r
one_y Xfy r l = x≢y l
one_y Yfx r l = x≢y r

-- the operator is free in the table: its function and its spelling are not listed, and it keeps the level rule
pub record FreeIn (t : Table) (f : ℕ) (o : Op) : Type 0 where
  pub unlisted : (q : Op) → t f ≢ Some q
  pub untaken : (g : ℕ) → Listed t (position_of o.form) o.spelling g → ⊥
  pub unmixed : (g : ℕ) → Mixes t o g → ⊥

module _ (t : Table) (f : ℕ) (o : Op) where
  pub extended_same : extended t f o f ≡ Some o
  extended_same = cond-true (f == f) (Some o) (t f) (eq-eqb f f refl)

  pub extended_other : (g : ℕ) → (f ≢ g) → extended t f o g ≡ t g
  extended_other g ne = cond-false (f == g) (Some o) (t g) (ne_eqb f g ne)

  -- an operator of the table is the added one, or was there before
  pub extended_cases : (g : ℕ) (q : Op) → extended t f o g ≡ Some q → ((f ≡ g) × (o ≡ q)) ⊎ (t g ≡ Some q)
  extended_cases g q has =
      ⊎_elim
      (λ e. let at : Some o ≡ Some q = sym (cond-true (f == g) (Some o) (t g) e) ∙ has in inl (eqb-true f g e, cc))
      (λ e. inr (sym (cond-false (f == g) (Some o) (t g) e) ∙ has))
      (cases_Bool (f == g))

  listed_cases : (p : Position) (s : List ℕ) (g : ℕ) → Listed (extended t f o) p s g → ((f ≡ g) × ((position_of o.form ≡ p) × (o.spelling ≡ s))) ⊎ Listed t p s g
  listed_cases p s g h =
      ⊎_elim
      (λ (at, is). inl (at, (ap (λ (q : Op). position_of q.form) is ∙ h.stands, ap (λ (q : Op). q.spelling) is ∙ h.spelt)))
      (λ was. inr (record { op = h.op; has = was; stands = h.stands; spelt = h.spelt }))
      (extended_cases g h.op h.has)

  module _ (lawful : LawfulTable t) (op : LawfulOp f o) (free : FreeIn t f o) where
    -- an operator that was there before is not listed as the added one is
    not_as_added : (p : Position) (s : List ℕ) (g : ℕ) → (position_of o.form ≡ p) × (o.spelling ≡ s) → Listed t p s g → ⊥
    not_as_added p s g (stands, spelt) h =
        free.untaken g (record { op = h.op; has = h.has; stands = h.stands ∙ sym stands; spelt = h.spelt ∙ sym spelt })

    pub lawful_extended : LawfulTable (extended t f o)
    lawful_extended =
        record {
          each = λ g q has. ⊎_elim (λ (at, is). subst (λ (r : Op). LawfulOp g r) is (subst (λ h. LawfulOp h o) at op)) (lawful.each g q) (extended_cases g q has);
          once =
              λ p s g h x y.
              ⊎_elim
              (λ (at, like). ⊎_elim (λ (also, _). sym at ∙ also) (λ was. absurd (not_as_added p s h like was)) (listed_cases p s h y))
              (λ was. ⊎_elim (λ (_, like). absurd (not_as_added p s g like was)) (lawful.once p s g h was) (listed_cases p s h y))
              (listed_cases p s g x);
          levels =
              λ g h r q x y level right left.
              ⊎_elim
              (λ (_, is).
              ⊎_elim
              (λ (_, also). one_y r.form right (ap (λ (k : Op). left_side k.form) (sym is ∙ also) ∙ left))
              (λ was.
              free.unmixed h (record { op = q; has = was; mixed = record { level = ap (λ (k : Op). k.priority) is ∙ level; sides = inl (ap (λ (k : Op). right_side k.form) is ∙ right, left) } }))
              (extended_cases h q y))
              (λ was.
              ⊎_elim
              (λ (_, also).
              free.unmixed g (record { op = r; has = was; mixed = record { level = ap (λ (k : Op). k.priority) also ∙ sym level; sides = inr (ap (λ (k : Op). left_side k.form) also ∙ left, right) } }))
              (λ too. lawful.levels g h r q was too level right left)
              (extended_cases h q y))
              (extended_cases g r x);
        }

-- the table of no operators
pub nothing_lawful : (t : Table) → ((f : ℕ) → t f ≡ None) → LawfulTable t
nothing_lawful t none =
    record {
      each = λ f o has. absurd (not_there f o has);
      once = λ p s f g h _. absurd (not_there f h.op h.has);
      levels = λ f g o q has _ _ _ _. not_there f o has;
    }
  where
    not_there : (f : ℕ) (o : Op) → t f ≢ Some o
    not_there f o has = let clash = sym (none f) ∙ has in let z : ◌≡◌ {A = ℕ} 0 1 = cc in omega arith

-- slots that are all empty, and a slot that is filled
pub no_entries : (n f : ℕ) → table_in (replicate n None) f ≡ None
no_entries zero f = refl
no_entries (suc n) zero = refl
no_entries (suc n) (suc f) = no_entries n f

pub set_entry : (slots : List (Option Entry)) (f : ℕ) (e : Entry) → f < length slots → table_in (slice_set slots f (Some e)) ≡ extended (table_in slots) f (op_in e)
set_entry slots f e within = λ i g. at g i
  where
    at : (g : ℕ) → table_in (slice_set slots f (Some e)) g ≡ extended (table_in slots) f (op_in e) g
    at g =
        ⊎_elim
        (λ same.
        ap (λ h. table_in (slice_set slots f (Some e)) h) (sym same)
        ∙ ap (option_map op_in) (get_or-set_same slots f (Some e) None within)
        ∙ sym (extended_same (table_in slots) f (op_in e))
        ∙ ap (extended (table_in slots) f (op_in e)) same)
        (λ other. ap (option_map op_in) (get_or-set_other slots f g (Some e) None (λ same. other (sym same))) ∙ sym (extended_other (table_in slots) f (op_in e) g other))
        (cases_eq f g)

-- whether a slot is filled
pub slot_test : (slots : List (Option Entry)) (i f : ℕ) (d : Option Entry) → i < length slots → i ≡ f → is_some (table_in slots f) ≡ is_some (slice_index_or slots i d)
slot_test slots i f d within same = ap (λ n. is_some (table_in slots n)) (sym same) ∙ some_mapped (slice_index_or slots i None) ∙ ap is_some (get_or_default slots i None d within)
  where
    some_mapped : (x : Option Entry) → is_some (option_map op_in x) ≡ is_some x
    some_mapped None = refl
    some_mapped (Some e) = refl
