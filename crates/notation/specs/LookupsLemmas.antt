-- The function listed under a spelling is found exactly if there is one. Assumes nothing.
use Rattle.std.specs.Prelude.{◌≡◌, ℕ, zero, suc, ◌+◌, ◌<◌, ◌≤◌, Bool, true, false, cond, ◌&&◌, List, Some, None, Decides, Option, refl}
use Rattle.std.proofs.Common.{sym, ap, ◌∙◌, ⊎_elim, arith, rules}
use Rattle.std.specs.List.{find, range_with_len}
use Rattle.std.specs.Str.{bytes_eq}
use Rattle.std.proofs.lemmas.Slice.Eq.{bytes_eq-Decides}
use Rattle.std.proofs.lemmas.Bool.{false≢true, and_parts, and_from, both_ways, cases_eq, cases_order}
use Rattle.std.proofs.lemmas.Option.{none-some}
use Rattle.tokens.specs.InOrder.{Only}
use Rattle.notation.specs.declared.form.Position.{Position}
use Rattle.notation.specs.declared.form.Position.TheVariants.{Before, After}
use Rattle.notation.specs.Operators.{Op, position_of}
use Rattle.notation.specs.Tables.{Table, Listed, LawfulTable, same_position, is_listed, listed}

-- the first number that passes a test, among the n from f on
pub record FirstFrom (test : ℕ → Bool) (f n g : ℕ) : Type 0 where
  pub low : f ≤ g
  pub high : g < f + n
  pub is : test g ≡ true
  pub first : (h : ℕ) → f ≤ h → h < g → test h ≡ true → ⊥

module _ (test : ℕ → Bool) where
  pub find_is : (f n g : ℕ) → find test (range_with_len f n) ≡ Some g → FirstFrom test f n g
  find_is f zero g e = absurd (none-some g e)
  find_is f (suc n) g e = found (find_is (f + 1) n g) (test f) refl e
    where
      found : (find test (range_with_len (f + 1) n) ≡ Some g → FirstFrom test (f + 1) n g) → (b : Bool) → test f ≡ b → cond b (Some f) (find test (range_with_len (f + 1) n)) ≡ Some g → FirstFrom test f (suc n) g
      found on true is e =
          let same : f ≡ g = cc in
          record { low = omega arith; high = omega arith; is = ap test (sym same) ∙ is; first = λ h low high _. omega arith }
      found on false not-here e =
          let more = on e in
          record {
            low = omega (arith, more.low);
            high = omega (arith, more.high);
            is = more.is;
            first = λ h low high is. ⊎_elim (λ same. both_ways (test f) not-here (ap test (sym same) ∙ is)) (λ other. more.first h (omega (arith, other)) high is) (cases_eq h f);
          }

  pub find_none : (f n : ℕ) → find test (range_with_len f n) ≡ None → (h : ℕ) → f ≤ h → h < f + n → test h ≡ true → ⊥
  find_none f zero e h low high is = omega arith
  find_none f (suc n) e h low high is = absent (find_none (f + 1) n) (test f) refl e
    where
      absent : (find test (range_with_len (f + 1) n) ≡ None → (k : ℕ) → f + 1 ≤ k → k < f + 1 + n → test k ≡ true → ⊥) → (b : Bool) → test f ≡ b → cond b (Some f) (find test (range_with_len (f + 1) n)) ≡ None → ⊥
      absent on true here e = none-some f (sym e)
      absent on false not-here e = ⊎_elim (λ same. both_ways (test f) not-here (ap test (sym same) ∙ is)) (λ other. on e h (omega (arith, other)) (omega arith) is) (cases_eq h f)

  pub not_found : (f n : ℕ) → ((h : ℕ) → f ≤ h → h < f + n → test h ≡ true → ⊥) → find test (range_with_len f n) ≡ None
  not_found f n none = absent (find test (range_with_len f n)) refl
    where
      absent : (r : Option ℕ) → find test (range_with_len f n) ≡ r → r ≡ None
      absent None e = refl
      absent (Some g) e = let at = find_is f n g e in absurd (none g at.low at.high at.is)

  pub first_found : (f n g : ℕ) → f ≤ g → g < f + n → test g ≡ true → ((h : ℕ) → f ≤ h → h < g → test h ≡ true → ⊥) → find test (range_with_len f n) ≡ Some g
  first_found f n g low high is first = found (find test (range_with_len f n)) refl
    where
      found : (r : Option ℕ) → find test (range_with_len f n) ≡ r → r ≡ Some g
      found None e = absurd (find_none f n e g low high is)
      found (Some k) e =
          let at = find_is f n k e in
          ap Some (⊎_elim (λ same. same) (⊎_elim (λ lt. absurd (first k at.low lt at.is)) (λ gt. absurd (at.first g low gt is))) (cases_order k g))

position_same : (p q : Position) → same_position p q ≡ true → p ≡ q
position_same Before Before e = refl
position_same Before After e = absurd (false≢true e)
position_same After Before e = absurd (false≢true e)
position_same After After e = refl

pub same_position_lem : (p : Position) → same_position p p ≡ true
same_position_lem Before = refl
same_position_lem After = refl

-- an operator that stands in the position is listed there if its spelling is the one
pub tested : (p : Position) (s : List ℕ) (o : Op) (same : Bool) → position_of o.form ≡ p → Decides same (o.spelling ≡ s) → same ≡ is_listed p s (Some o)
tested p s o same stands decides =
    let is : same ≡ bytes_eq o.spelling s = search (rules, bytes_eq-Decides) in
    is ∙ ap (λ (b : Bool). b && bytes_eq o.spelling s) (sym (ap (λ (q : Position). same_position q p) stands ∙ same_position_lem p))

module _ (t : Table) (p : Position) (s : List ℕ) where
  by_test : (f : ℕ) (o : Option Op) → t f ≡ o → is_listed p s o ≡ true → Listed t p s f
  by_test f None has e = absurd (false≢true e)
  by_test f (Some o) has e =
      let both = and_parts (same_position (position_of o.form) p) (bytes_eq o.spelling s) e in
      record { op = o; has = has; stands = position_same (position_of o.form) p both.0; spelt = (bytes_eq-Decides o.spelling s).0 both.1 }

  pub test_listed : (f : ℕ) → is_listed p s (t f) ≡ true → Listed t p s f
  test_listed f e = by_test f (t f) refl e

  pub listed_test : (f : ℕ) → Listed t p s f → is_listed p s (t f) ≡ true
  listed_test f h =
      ap (is_listed p s) h.has
      ∙ and_from (same_position (position_of h.op.form) p) (bytes_eq h.op.spelling s) (ap (λ (q : Position). same_position q p) h.stands ∙ same_position_lem p) ((bytes_eq-Decides h.op.spelling s).1 h.spelt)

  -- what is found is listed
  pub listed_is : (f : ℕ) → listed t p s ≡ Some f → Listed t p s f
  unfolding listed
  listed_is f e = test_listed f (find_is (λ g. is_listed p s (t g)) 0 64 f e).is

  -- where nothing is listed, nothing is found
  pub listed_none : ((f : ℕ) → Listed t p s f → ⊥) → listed t p s ≡ None
  unfolding listed
  listed_none h = not_found (λ g. is_listed p s (t g)) 0 64 (λ f _ _ e. h f (test_listed f e))

  module _ (lawful : LawfulTable t) (f : ℕ) (is : Listed t p s f) where
    -- what is listed is found
    pub is_listed_lem : listed t p s ≡ Some f
    unfolding listed
    is_listed_lem =
        first_found (λ g. is_listed p s (t g)) 0 64 f (omega arith) (lawful.each f is.op is.has).function (listed_test f is)
        (λ g _ lt e. let same = lawful.once p s g f (test_listed g e) is in omega arith)

  -- where nothing is found, nothing is listed
  pub none_listed : LawfulTable t → listed t p s ≡ None → (f : ℕ) → Listed t p s f → ⊥
  none_listed lawful e f is = let same = is_listed_lem lawful f is in let z : ◌≡◌ {A = ℕ} 0 1 = cc in omega arith

  -- what is found is the only one
  pub listed_only : LawfulTable t → (f : ℕ) → listed t p s ≡ Some f → Only (Listed t p s) f
  listed_only lawful f e = let is = listed_is f e in record { is = is; only = λ g also. lawful.once p s g f also is }

-- a function from 64 on has no operator
pub none_past : (t : Table) → LawfulTable t → (f : ℕ) → 64 ≤ f → t f ≡ None
none_past t lawful f past = none_at (t f) refl
  where
    none_at : (o : Option Op) → t f ≡ o → o ≡ None
    none_at None has = refl
    none_at (Some o) has = absurd (omega (arith, (lawful.each f o has).function))

pub inside : (t : Table) → LawfulTable t → (f : ℕ) (o : Op) → t f ≡ Some o → f < 64
inside t lawful f o has = (lawful.each f o has).function
