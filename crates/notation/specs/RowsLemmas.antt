-- A table whose rows pass one test is lawful, and its rows tell what is listed. Assumes nothing.
use Rattle.std.specs.Prelude.{◌≡◌, ℕ, Bool, true, false, not, ◌&&◌, ◌||◌, List, [], ◌∷◌, length, Some, None, Option, ◌==◌, nat_le, nat_lt, refl}
use Rattle.std.proofs.Common.{sym, ap, subst, ◌∙◌, inl, inr, ⊎_elim, arith}
use Rattle.std.specs.List.{AllByRecursion}
use Rattle.std.proofs.lemmas.Bool.{false≢true, true≢false, both_ways, and_parts, or_cases, not-true, cases_Bool, ltb-true, leb-true, eqb-true, eq-eqb, and_from, or_left, or_right, cond-true, cond-false}
use Rattle.tokens.specs.declared.byte.ByteClass.TheVariants as C
use Rattle.tokens.specs.declared.token.TokenKind.TheVariants as K
use Rattle.tokens.specs.Bytes.{is_digit, is_word_byte, is_symbol_byte}
use Rattle.tokens.specs.Tokens.{kind_of, kind_in}
use Rattle.notation.specs.declared.form.Position.{Position}
use Rattle.notation.specs.declared.form.Side.{Side}
use Rattle.notation.specs.declared.form.Side.TheVariants.{X, Y}
use Rattle.notation.specs.Declarations.{Mixed}
use Rattle.notation.specs.Operators.{Op, position_of, operands_of, left_side, right_side, Spelling}
use Rattle.notation.specs.Rows.{Row, table_of, listed_in}
use Rattle.notation.specs.Tables.{operands_of_function, LawfulOp, Listed, LawfulTable, is_listed, listed}
use Rattle.notation.specs.Additions.{FreeIn, extended_same, extended_other, extended_cases, lawful_extended, nothing_lawful}
use Rattle.notation.specs.LookupsLemmas.{test_listed, listed_test, listed_none, is_listed_lem}

-- The test: each row is an operator, and is free in the table of those after it.
abbrev all : {X : Type 0} → (X → Bool) → List X → Bool
all test [] = true
all test (x ∷ xs) = test x && all test xs

abbrev is_symbol : ℕ → Bool
is_symbol b = not (is_word_byte b) && is_symbol_byte b

abbrev is_spelling : List ℕ → Bool
is_spelling [] = false
is_spelling (b ∷ bs) = nat_le (length (b ∷ bs)) 12 && (all is_symbol (b ∷ bs) || (all is_word_byte (b ∷ bs) && not (is_digit b)))

abbrev is_op : Row → Bool
is_op r =
    nat_lt r.function 64
    && (operands_of r.op.form == operands_of_function r.function && (nat_le 1 r.op.priority && (nat_le r.op.priority 1200 && is_spelling r.op.spelling)))

abbrev is_y : Side → Bool
is_y X = false
is_y Y = true

abbrev is_mixed : Op → Op → Bool
is_mixed o q = o.priority == q.priority && ((is_y (right_side o.form) && is_y (left_side q.form)) || (is_y (left_side o.form) && is_y (right_side q.form)))

abbrev is_apart : Row → Row → Bool
is_apart r q =
    not (r.function == q.function) && (not (is_listed (position_of r.op.form) r.op.spelling (Some q.op)) && not (is_mixed r.op q.op))

abbrev pub are_lawful : List Row → Bool
are_lawful [] = true
are_lawful (r ∷ rs) = is_op r && (all (is_apart r) rs && are_lawful rs)

-- what it says of a spelling
all_all : {X : Type 0} (test : X → Bool) (P : X → Type 0) → ((x : X) → test x ≡ true → P x) → (xs : List X) → all test xs ≡ true → AllByRecursion P xs
all_all test P h [] e = tt
all_all test P h (x ∷ xs) e = let both = and_parts (test x) (all test xs) e in (h x both.0, all_all test P h xs both.1)

symbol_kind : (b : ℕ) → is_symbol b ≡ true → kind_of b ≡ Some K.Symbol
unfolding kind_of
symbol_kind b e =
    let both = and_parts (not (is_word_byte b)) (is_symbol_byte b) e in
    ap kind_in (cond-false (is_word_byte b) C.Word _ (not-true (is_word_byte b) both.0) ∙ cond-true (is_symbol_byte b) C.Symbol _ both.1)

word_kind : (b : ℕ) → is_word_byte b ≡ true → kind_of b ≡ Some K.Word
unfolding kind_of
word_kind b e = ap kind_in (cond-true (is_word_byte b) C.Word _ e)

spelling_tested : (s : List ℕ) → is_spelling s ≡ true → Spelling s
spelling_tested [] e = absurd (false≢true e)
spelling_tested (b ∷ bs) e =
    let parts = and_parts (nat_le (length (b ∷ bs)) 12) (all is_symbol (b ∷ bs) || (all is_word_byte (b ∷ bs) && not (is_digit b))) e in
    record {
      short = leb-true (length (b ∷ bs)) 12 parts.0;
      token =
          ⊎_elim
          (λ h. inl (record { some = omega arith; alike = all_all is_symbol (λ x. kind_of x ≡ Some K.Symbol) symbol_kind (b ∷ bs) h; alone = λ never. absurd (true≢false never) }))
          (λ h.
          let both = and_parts (all is_word_byte (b ∷ bs)) (not (is_digit b)) h in
          inr
          (record { some = omega arith; alike = all_all is_word_byte (λ x. kind_of x ≡ Some K.Word) word_kind (b ∷ bs) both.0; alone = λ never. absurd (true≢false never) }, not-true (is_digit b) both.1))
          (or_cases (all is_symbol (b ∷ bs)) (all is_word_byte (b ∷ bs) && not (is_digit b)) parts.1);
    }

-- of an operator
op_tested : (r : Row) → is_op r ≡ true → LawfulOp r.function r.op
op_tested r e0 =
    let e1 = and_parts (nat_lt r.function 64) _ e0 in
    let e2 = and_parts (operands_of r.op.form == operands_of_function r.function) _ e1.1 in
    let e3 = and_parts (nat_le 1 r.op.priority) _ e2.1 in
    let e4 = and_parts (nat_le r.op.priority 1200) _ e3.1 in
    record {
      function = ltb-true r.function 64 e1.0;
      operands = eqb-true _ _ e2.0;
      low = leb-true 1 r.op.priority e3.0;
      high = leb-true r.op.priority 1200 e4.0;
      spelling = spelling_tested r.op.spelling e4.1;
    }

-- and of a row among others
y_test : (m : Side) → m ≡ Y → is_y m ≡ true
y_test m e = ap is_y e

abbrev at : ℕ → Op → Row
at f o = record { function = f; op = o }

found_row : (test : Row → Bool) (rs : List Row) → all test rs ≡ true → (f : ℕ) (o : Op) → table_of rs f ≡ Some o → test (at f o) ≡ true
found_row test [] e f o has = let z : ◌≡◌ {A = ℕ} 0 1 = cc in absurd (omega arith)
found_row test (r ∷ rs) e f o has =
    let both = and_parts (test r) (all test rs) e in
    ⊎_elim (λ (same, is). let row : r ≡ at f o = λ i. record { function = same i; op = is i } in ap test (sym row) ∙ both.0) (found_row test rs both.1 f o) (extended_cases (table_of rs) r.function r.op f o has)

mixed_test : (o q : Op) → Mixed o q → is_mixed o q ≡ true
mixed_test o q h =
    and_from (o.priority == q.priority) _ (eq-eqb _ _ h.level)
    (⊎_elim
    (λ (r, l). or_left _ _ (and_from (is_y (right_side o.form)) (is_y (left_side q.form)) (y_test _ r) (y_test _ l)))
    (λ (l, r). or_right _ _ (and_from (is_y (left_side o.form)) (is_y (right_side q.form)) (y_test _ l) (y_test _ r)))
    h.sides)

free_tested : (r : Row) (rs : List Row) → all (is_apart r) rs ≡ true → FreeIn (table_of rs) r.function r.op
free_tested r rs e =
    record {
      unlisted = λ q has. both_ways (r.function == r.function) (not-true _ (parts r.function q has).0) (eq-eqb r.function r.function refl);
      untaken =
          λ g h.
          let not_so = not-true (is_listed (position_of r.op.form) r.op.spelling (Some h.op)) (spelt g h.op h.has).0 in
          both_ways (is_listed (position_of r.op.form) r.op.spelling (Some h.op)) not_so
          (ap (is_listed (position_of r.op.form) r.op.spelling) (sym h.has) ∙ listed_test (table_of rs) (position_of r.op.form) r.op.spelling g h);
      unmixed = λ g h. both_ways (is_mixed r.op h.op) (not-true (is_mixed r.op h.op) (spelt g h.op h.has).1) (mixed_test r.op h.op h.mixed);
    }
  where
    parts : (g : ℕ) (q : Op) → table_of rs g ≡ Some q → (not (r.function == g) ≡ true) × ((not (is_listed (position_of r.op.form) r.op.spelling (Some q)) && not (is_mixed r.op q)) ≡ true)
    parts g q has = and_parts (not (r.function == g)) _ (found_row (is_apart r) rs e g q has)

    spelt : (g : ℕ) (q : Op) → table_of rs g ≡ Some q → (not (is_listed (position_of r.op.form) r.op.spelling (Some q)) ≡ true) × (not (is_mixed r.op q) ≡ true)
    spelt g q has = and_parts _ (not (is_mixed r.op q)) (parts g q has).1

-- The table of rows that pass is lawful.
pub rows_lawful : (rs : List Row) → are_lawful rs ≡ true → LawfulTable (table_of rs)
rows_lawful [] e = nothing_lawful (table_of []) (λ _. refl)
rows_lawful (r ∷ rs) e =
    let one = and_parts (is_op r) (all (is_apart r) rs && are_lawful rs) e in
    let two = and_parts (all (is_apart r) rs) (are_lawful rs) one.1 in
    lawful_extended (table_of rs) r.function r.op (rows_lawful rs two.1) (op_tested r one.0) (free_tested r rs two.0)

-- What the rows list is what the table lists.
module _ (p : Position) (s : List ℕ) where
  row_listed : (rs : List Row) → are_lawful rs ≡ true → (f : ℕ) → listed_in rs p s ≡ Some f → Listed (table_of rs) p s f
  row_listed [] e f is = let z : ◌≡◌ {A = ℕ} 0 1 = cc in absurd (omega arith)
  row_listed (r ∷ rs) e f is =
      let one = and_parts (is_op r) (all (is_apart r) rs && are_lawful rs) e in
      let two = and_parts (all (is_apart r) rs) (are_lawful rs) one.1 in
      let here = extended_same (table_of rs) r.function r.op in
      ⊎_elim
      (λ h.
      let same : Some r.function ≡ Some f = sym (cond-true (is_listed p s (Some r.op)) (Some r.function) (listed_in rs p s) h) ∙ is in
      let at_f : r.function ≡ f = cc in
      subst (Listed (table_of (r ∷ rs)) p s) at_f (test_listed (table_of (r ∷ rs)) p s r.function (ap (is_listed p s) here ∙ h)))
      (λ h.
      let below = row_listed rs two.1 f (sym (cond-false (is_listed p s (Some r.op)) (Some r.function) (listed_in rs p s) h) ∙ is) in
      let other : r.function ≡ f → ⊥ = λ same. (free_tested r rs two.0).unlisted below.op (ap (table_of rs) same ∙ below.has) in
      record { op = below.op; has = extended_other (table_of rs) r.function r.op f other ∙ below.has; stands = below.stands; spelt = below.spelt })
      (cases_Bool (is_listed p s (Some r.op)))

  row_unlisted : (rs : List Row) → listed_in rs p s ≡ None → (f : ℕ) → Listed (table_of rs) p s f → ⊥
  row_unlisted [] none f h = let has = h.has in let z : ◌≡◌ {A = ℕ} 0 1 = cc in omega arith
  row_unlisted (r ∷ rs) none f h =
      ⊎_elim
      (λ here.
      let clash : Some r.function ≡ None = sym (cond-true (is_listed p s (Some r.op)) (Some r.function) (listed_in rs p s) here) ∙ none in
      let z : ◌≡◌ {A = ℕ} 0 1 = cc in
      omega arith)
      (λ not-here.
      ⊎_elim
      (λ (same, is).
      both_ways (is_listed p s (Some r.op)) not-here (ap (is_listed p s) (ap Some is ∙ sym h.has) ∙ listed_test (table_of (r ∷ rs)) p s f h))
      (λ was.
      row_unlisted rs (sym (cond-false (is_listed p s (Some r.op)) (Some r.function) (listed_in rs p s) not-here) ∙ none) f (record { op = h.op; has = was; stands = h.stands; spelt = h.spelt }))
      (extended_cases (table_of rs) r.function r.op f h.op h.has))
      (cases_Bool (is_listed p s (Some r.op)))

  rows_as : (rs : List Row) → are_lawful rs ≡ true → (found : Option ℕ) → listed_in rs p s ≡ found → listed (table_of rs) p s ≡ found
  rows_as rs e None is = listed_none (table_of rs) p s (row_unlisted rs is)
  rows_as rs e (Some f) is = is_listed_lem (table_of rs) p s (rows_lawful rs e) f (row_listed rs e f is)

  pub rows_listed : (rs : List Row) → are_lawful rs ≡ true → listed (table_of rs) p s ≡ listed_in rs p s
  rows_listed rs e = rows_as rs e (listed_in rs p s) refl
