-- Facts of a lawful table: what its operators are, where they are listed, and that a long word is a name.
use Rattle.std.proofs.Common.{◌≡◌, ℕ, zero, suc, ◌≤◌, List, length, replicate, Some, None, Option, sym, refl, ap, ◌∙◌, subst, ⊎_elim, arith}
use Rattle.std.specs.List.{AllByRecursion}
use Rattle.std.specs.Option.{option_map}
use Rattle.tokens.specs.declared.token.TokenKind.{TokenKind}
use Rattle.tokens.specs.declared.token.TokenKind.TheVariants as K
use Rattle.tokens.specs.Tokens.{kind_of, WellFormed}
use Rattle.notation.specs.declared.form.Position.{Position}
use Rattle.notation.specs.declared.form.Position.TheVariants.{Before, After}
use Rattle.notation.specs.declared.form.Side.{Side}
use Rattle.notation.specs.declared.form.Side.TheVariants.{X, Y}
use Rattle.notation.specs.Operators.{Op, Fixity, fixity_of, position_in, left_side, right_side, limit, Spelling}
use Rattle.notation.specs.Operators.Fixity.{prefix, postfix, between}
use Rattle.notation.specs.Tables.{Table, LawfulTable, listed}
use Rattle.notation.specs.LookupsLemmas.{listed_is, listed_none, is_listed_lem}
use Rattle.grammar.specs.Weights.{fixity_in, or_absent, operator_in, left_limit, right_limit}
use Rattle.grammar.specs.Lawful.{Name}
use Rattle.grammar.specs.Reading.{kind_of_spelling}
use Rattle.grammar.proofs.Signs.{word_kind, symbol_kind}

-- the operator of a function that has one
pub record Present (t : Table) (f : ℕ) (x : Fixity) : Type 0 where
  pub op : Op
  pub has : t f ≡ Some op
  pub is : operator_in t f ≡ op
  pub stands : fixity_of op.form ≡ x

present_at : (t : Table) (f : ℕ) (x : Fixity) (v : Option Op) → t f ≡ v → option_map (λ o. fixity_of o.form) v ≡ Some x → Present t f x
present_at t f x None has e = cc
present_at t f x (Some o) has e = record { op = o; has = has; is = ap or_absent has; stands = (cc) }

pub present : (t : Table) (f : ℕ) (x : Fixity) → fixity_in t f ≡ Some x → Present t f x
present t f x e = present_at t f x (t f) refl e

-- a function listed under a spelling has that spelling, and stands in that position
pub record Sign (t : Table) (p : Position) (s : List ℕ) (f : ℕ) : Type 0 where
  pub fixity : Fixity
  pub has : fixity_in t f ≡ Some fixity
  pub stands : position_in fixity ≡ p
  pub spelt : (operator_in t f).spelling ≡ s

pub listed_sign : (t : Table) (p : Position) (s : List ℕ) (f : ℕ) → listed t p s ≡ Some f → Sign t p s f
listed_sign t p s f e =
    let l = listed_is t p s f e in
    record { fixity = fixity_of l.op.form; has = ap (option_map (λ o. fixity_of o.form)) l.has; stands = l.stands; spelt = ap (λ v. (or_absent v).spelling) l.has ∙ l.spelt }

prefix_is : (x : Fixity) → position_in x ≡ Before → x ≡ prefix
prefix_is prefix e = refl
prefix_is postfix e = cc
prefix_is between e = cc

-- what is listed before is a prefix operator
pub listed_prefix : (t : Table) (s : List ℕ) (f : ℕ) → listed t Before s ≡ Some f → fixity_in t f ≡ Some prefix
listed_prefix t s f e = let h = listed_sign t Before s f e in h.has ∙ ap Some (prefix_is h.fixity h.stands)

pub apart : (s r : Side) (p q : ℕ) → 1 ≤ p → 1 ≤ q → (p ≡ q → s ≡ Y → r ≡ Y → ⊥) → p ≤ limit r q → q ≤ limit s p → ⊥
apart X X p q hp hq h a b = omega arith
apart X Y p q hp hq h a b = omega arith
apart Y X p q hp hq h a b = omega arith
apart Y Y p q hp hq h a b = h (omega arith) refl refl

letters : (n : ℕ) → AllByRecursion (λ b. kind_of b ≡ Some K.Word) (replicate n 97)
unfolding kind_of
letters zero = tt
letters (suc n) = (refl, letters n)

module _ (t : Table) (lawful : LawfulTable t) where
  -- the operator of a function is listed under its spelling
  pub sign_listed : (f : ℕ) (x : Fixity) → fixity_in t f ≡ Some x → listed t (position_in x) (operator_in t f).spelling ≡ Some f
  sign_listed f x e =
      let h = present t f x e in
      ap (λ (o : Op). listed t (position_in x) o.spelling) h.is
      ∙ is_listed_lem t (position_in x) h.op.spelling lawful f (record { op = h.op; has = h.has; stands = ap position_in h.stands; spelt = refl })

  -- a spelling is a token of its kind
  spelling_formed : (s : List ℕ) → Spelling s → WellFormed (kind_of_spelling s) s
  spelling_formed s h =
      ⊎_elim (λ w. subst (λ (k : TokenKind). WellFormed k s) (sym (symbol_kind s w)) w) (λ w. subst (λ (k : TokenKind). WellFormed k s) (sym (word_kind s w.0)) w.0) h.token

  pub sign_formed : (f : ℕ) (x : Fixity) → fixity_in t f ≡ Some x → WellFormed (kind_of_spelling (operator_in t f).spelling) (operator_in t f).spelling
  sign_formed f x e =
      let h = present t f x e in
      subst (λ (o : Op). WellFormed (kind_of_spelling o.spelling) o.spelling) (sym h.is) (spelling_formed h.op.spelling (lawful.each f h.op h.has).spelling)

  some_at : (f : ℕ) (o : Option Op) → t f ≡ o → 1 ≤ (or_absent o).priority
  some_at f None e = omega arith
  some_at f (Some o) e = (lawful.each f o e).low

  pub some_priority : (f : ℕ) → 1 ≤ (operator_in t f).priority
  some_priority f = some_at f (t f) refl

  -- both neighbours may never take the operand between them
  apart_at : (f g : ℕ) (u o : Option Op) → t f ≡ u → t g ≡ o → (or_absent u).priority ≤ left_limit (or_absent o) → (or_absent o).priority ≤ right_limit (or_absent u) → ⊥
  apart_at f g None None d e h k = omega arith
  apart_at f g None (Some o) d e h k = omega (arith, (lawful.each g o e).low)
  apart_at f g (Some u) None d e h k = omega (arith, (lawful.each f u d).low)
  apart_at f g (Some u) (Some o) d e h k = apart (right_side u.form) (left_side o.form) u.priority o.priority (lawful.each f u d).low (lawful.each g o e).low (lawful.levels f g u o d e) h k

  pub never_both : (f g : ℕ) → (operator_in t f).priority ≤ left_limit (operator_in t g) → (operator_in t g).priority ≤ right_limit (operator_in t f) → ⊥
  never_both f g h k = apart_at f g (t f) (t g) refl refl h k

  -- a word of thirteen letters is a name, since spellings end at twelve bytes
  long_unlisted : (p : Position) → listed t p (replicate 13 97) ≡ None
  long_unlisted p = listed_none t p (replicate 13 97) (λ f l. omega (arith, (lawful.each f l.op l.has).spelling.short, ap length l.spelt))

  pub long_name : Name t (replicate 13 97)
  long_name =
      record {
        word = record { some = omega arith; alike = letters 13; alone = λ e. cc };
        short = omega arith;
        before = long_unlisted Before;
        after = long_unlisted After;
      }
