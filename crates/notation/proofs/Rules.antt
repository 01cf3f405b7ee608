-- The rules of declaring: how their parts make the whole, and that they leave one answer. Assumes nothing.
use Rattle.std.proofs.Common.{◌≡◌, ℕ, true, false, List, is_some, Some, None, Ok, Err, Option, Result, sym, refl, ap, ◌∙◌, subst, inl, inr, arith}
use Rattle.std.proofs.lemmas.Bool.{false≢true, both_ways}
use Rattle.tokens.specs.declared.fault.Fault.{Fault}
use Rattle.tokens.specs.declared.fault.FaultKind.TheVariants.{MalformedDeclaration, UnknownType, WrongFunction, PriorityOutOfRange, MalformedSpelling, FunctionListed, SpellingTaken, MixedLevel}
use Rattle.tokens.specs.Faults.{fault}
use Rattle.tokens.specs.InOrder.{IfSome, Only, Refused, Accepted}
use Rattle.tokens.proofs.Firsts.{if_one, if_some_one}
use Rattle.notation.specs.declared.candidate.Candidate.{Candidate}
use Rattle.notation.specs.declared.declaration.Declaration.{Declaration}
use Rattle.notation.specs.declared.form.Form.{Form}
use Rattle.notation.specs.Declarations.{Fits, InRange, Mixes, Unless, UnlessSome, LineRules, Answer, OperatorRules, TableRules, Declares, Added, extended}
use Rattle.notation.specs.Lines.{Fields, Parted, Number, Said, Says, word_of, said_op}
use Rattle.notation.specs.Operators.{Op, position_of, Spelling}
use Rattle.notation.specs.Tables.{Table, Listed, LawfulTable, listed}
use Rattle.notation.specs.Slots.{op_in}
use Rattle.notation.specs.Views.{declared_op, DeclarationOf, CandidateOf}
use Rattle.notation.specs.Additions.{FreeIn}
use Rattle.notation.proofs.Lines.{parted_one, says_one, word_one}
use Rattle.notation.specs.LookupsLemmas.{listed_is, is_listed_lem}

-- The rules of a line.
module _ {T : Type 0} (line : List ℕ) (otherwise : ℕ → Op → Result T Fault → Type 0) where
  module _ (x : Fields) (parted : Parted line x) where
    pub no_function : ((n : ℕ) → Number x.function n → ⊥) → LineRules line otherwise (Err (fault MalformedDeclaration 0))
    no_function none =
        inr (λ d says. none d.function (subst (λ (y : Fields). Number y.function d.function) (parted_one line says.fields x says.parted parted) says.function), refl)

    pub no_priority : ((n : ℕ) → Number x.priority n → ⊥) → LineRules line otherwise (Err (fault MalformedDeclaration 0))
    no_priority none =
        inr (λ d says. none d.priority (subst (λ (y : Fields). Number y.priority d.priority) (parted_one line says.fields x says.parted parted) says.priority), refl)

    module _ (f p : ℕ) (function : Number x.function f) (priority : Number x.priority p) where
      abbrev said : Said
      said = record { function = f; priority = p; word = x.word; spelling = x.spelling }

      says : Says line said
      says = record { fields = x; parted = parted; function = function; priority = priority; word = refl; spelling = refl }

      pub no_type : ((m : Form) → x.word ≡ word_of m → ⊥) → LineRules line otherwise (Err (fault UnknownType 3))
      no_type none = inl (said, says, inr (none, refl))

      pub line_said : (m : Form) → x.word ≡ word_of m → (r : Result T Fault) → otherwise f (record { priority = p; form = m; spelling = x.spelling }) r → LineRules line otherwise r
      line_said m word r h = inl (said, says, inl (m, word, h))

never_both : {T : Type 0} (x : T) (e : Fault) → ◌≡◌ {A = Result T Fault} (Ok x) (Err e) → ⊥
never_both x e clash = let z : ◌≡◌ {A = ℕ} 0 1 = cc in omega arith

same_fault : {T : Type 0} {e f : Fault} → ◌≡◌ {A = Result T Fault} (Err e) (Err f) → e ≡ f
same_fault is = cc

-- what a declaration that was read says, before the rules after those of a line
module _ (line : List ℕ) {T : Type 0} (otherwise : ℕ → Op → Result T Fault → Type 0) where
  pub line_refused : (e : Fault) → LineRules line DeclarationOf (Err e) → LineRules line otherwise (Err e)
  line_refused e (inl (_, _, inl (_, _, never))) = absurd never
  line_refused e (inl (d, says, inr (none, is))) = inl (d, says, inr (none, ap Err (same_fault is)))
  line_refused e (inr (none, is)) = inr (none, ap Err (same_fault is))

  pub line_then : (d : Declaration) → LineRules line DeclarationOf (Ok d) → (r : Result T Fault) → otherwise d.function (declared_op d) r → LineRules line otherwise r
  line_then d (inl (x, says, inl (m, word, (function, op)))) r h =
      inl (x, says, inl (m, word, subst (λ (o : Op). otherwise x.function o r) op (subst (λ f. otherwise f (declared_op d) r) function h)))
  line_then d (inl (x, _, inr (none, is))) r h = absurd (never_both _ _ is)
  line_then d (inr (none, is)) r h = absurd (never_both _ _ is)

pub line_added : (line : List ℕ) (d : Declaration) → LineRules line DeclarationOf (Ok d) → (t u : Table) → u ≡ extended t d.function (declared_op d) → Added t line u
line_added line d (inl (x, says, inl (m, word, (function, op)))) t u e =
    record {
      said = x;
      form = m;
      says = record { is = says; only = λ y also. says_one line y x also says };
      word = word;
      table = e ∙ (λ i. extended t (function i) (op i));
    }
line_added line d (inl (x, _, inr (none, is))) t u e = absurd (never_both _ _ is)
line_added line d (inr (none, is)) t u e = absurd (never_both _ _ is)

-- The rules of a function and an operator, before those of their place in a table.
module _ (f : ℕ) (o : Op) (otherwise : ℕ → Op → Answer → Type 0) where
  pub operator_refused : (e : Fault) → OperatorRules f o (CandidateOf f o) (Err e) → OperatorRules f o (otherwise f o) (Err e)
  operator_refused e (inl (fits, inl (range, inl (spelling, never)))) = absurd never
  operator_refused e (inl (fits, inl (range, inr (none, is)))) = inl (fits, inl (range, inr (none, ap Err (same_fault is))))
  operator_refused e (inl (fits, inr (none, is))) = inl (fits, inr (none, ap Err (same_fault is)))
  operator_refused e (inr (none, is)) = inr (none, ap Err (same_fault is))

  pub operator_then : (c : Candidate) → OperatorRules f o (CandidateOf f o) (Ok c) → (r : Answer) → otherwise c.function (op_in c.entry) r → OperatorRules f o (otherwise f o) r
  operator_then c (inl (fits, inl (range, inl (spelling, (function, op))))) r h =
      inl (fits, inl (range, inl (spelling, subst (λ (q : Op). otherwise f q r) op (subst (λ g. otherwise g (op_in c.entry) r) function h))))
  operator_then c (inl (fits, inl (range, inr (_, never)))) r h = absurd (never_both _ _ never)
  operator_then c (inl (fits, inr (_, never))) r h = absurd (never_both _ _ never)
  operator_then c (inr (_, never)) r h = absurd (never_both _ _ never)

pub candidate_of : (f : ℕ) (o : Op) (c : Candidate) → OperatorRules f o (CandidateOf f o) (Ok c) → CandidateOf f o (Ok c)
candidate_of f o c (inl (fits, inl (range, inl (spelling, is)))) = is
candidate_of f o c (inl (fits, inl (range, inr (_, never)))) = absurd (never_both _ _ never)
candidate_of f o c (inl (fits, inr (_, never))) = absurd (never_both _ _ never)
candidate_of f o c (inr (_, never)) = absurd (never_both _ _ never)

-- The rules of a table.
some_from : {X : Type 0} (x : Option X) → is_some x ≡ true → (y : X) × (x ≡ Some y)
some_from None e = absurd (false≢true e)
some_from (Some y) e = (y, refl)

module _ (t : Table) (f : ℕ) (o : Op) where
  pub table_free : TableRules t f o (Ok tt) → FreeIn t f o
  table_free (inl (_, _, never)) = absurd (never_both tt _ never)
  table_free (inr (unlisted, inl (_, _, never))) = absurd (never_both tt _ never)
  table_free (inr (unlisted, inr (untaken, inl (_, _, never)))) = absurd (never_both tt _ never)
  table_free (inr (unlisted, inr (untaken, inr (unmixed, _)))) = record { unlisted = unlisted; untaken = untaken; unmixed = unmixed }

  -- by tests of the list
  pub table_listed : is_some (t f) ≡ true → TableRules t f o (Err (fault FunctionListed 1))
  table_listed has = let it = some_from (t f) has in inl (it.0, it.1, refl)

  module _ (unlisted : is_some (t f) ≡ false) where
    not_listed : (q : Op) → t f ≡ Some q → ⊥
    not_listed q has = both_ways (is_some (t f)) unlisted (ap is_some has)

    pub table_taken : is_some (listed t (position_of o.form) o.spelling) ≡ true → TableRules t f o (Err (fault SpellingTaken 4))
    table_taken found =
        let it = some_from (listed t (position_of o.form) o.spelling) found in
        inr (not_listed, inl (it.0, listed_is t (position_of o.form) o.spelling it.0 it.1, refl))

    module _ (lawful : LawfulTable t) (untaken : is_some (listed t (position_of o.form) o.spelling) ≡ false) where
      not_taken : (g : ℕ) → Listed t (position_of o.form) o.spelling g → ⊥
      not_taken g is =
          both_ways (is_some (listed t (position_of o.form) o.spelling)) untaken (ap is_some (is_listed_lem t (position_of o.form) o.spelling lawful g is))

      pub table_mixed : (g : ℕ) → Mixes t o g → TableRules t f o (Err (fault MixedLevel 2))
      table_mixed g it = inr (not_listed, inr (not_taken, inl (g, it, refl)))

      pub table_accepts : ((g : ℕ) → Mixes t o g → ⊥) → TableRules t f o (Ok tt)
      table_accepts unmixed = inr (not_listed, inr (not_taken, inr (unmixed, refl)))

-- All rules leave one answer.
module _ (t : Table) (r s : Answer) where
  same_refused : (f : Fault) → Refused {T = Unit {0}} f r → Refused f s → r ≡ s
  same_refused f p q = p ∙ sym q

  barred_one : {X : Type 0} (P : X → Type 0) (f : Fault) (otherwise : Answer → Type 0) → (otherwise r → otherwise s → r ≡ s) → IfSome P (λ _. Refused f) otherwise r → IfSome P (λ _. Refused f) otherwise s → r ≡ s
  barred_one P f otherwise = if_some_one P (λ _. Refused f) otherwise r s (λ _ _ _ _. same_refused f)

  unless_one : (P : Type 0) (f : Fault) (otherwise : Answer → Type 0) → (otherwise r → otherwise s → r ≡ s) → Unless P f otherwise r → Unless P f otherwise s → r ≡ s
  unless_one P f otherwise one = if_one P otherwise (Refused f) r s one (same_refused f)

  table_one : (f : ℕ) (o : Op) → TableRules t f o r → TableRules t f o s → r ≡ s
  table_one f o =
      barred_one (λ q. t f ≡ Some q) (fault FunctionListed 1) Taken
      (barred_one (Listed t (position_of o.form) o.spelling) (fault SpellingTaken 4) Level (barred_one (Mixes t o) (fault MixedLevel 2) (Accepted tt) (λ p q. p ∙ sym q)))
    where
      Level : Answer → Type 0
      Level = IfSome (Mixes t o) (λ _. Refused (fault MixedLevel 2)) (Accepted tt)

      Taken : Answer → Type 0
      Taken = IfSome (Listed t (position_of o.form) o.spelling) (λ _. Refused (fault SpellingTaken 4)) Level

  operator_one : (f : ℕ) (o : Op) (otherwise : Answer → Type 0) → (otherwise r → otherwise s → r ≡ s) → OperatorRules f o otherwise r → OperatorRules f o otherwise s → r ≡ s
  operator_one f o otherwise one =
      unless_one (Fits f o.form) (fault WrongFunction 1) Range
      (unless_one (InRange o.priority) (fault PriorityOutOfRange 2) Spelt (unless_one (Spelling o.spelling) (fault MalformedSpelling 4) otherwise one))
    where
      Spelt : Answer → Type 0
      Spelt = Unless (Spelling o.spelling) (fault MalformedSpelling 4) otherwise

      Range : Answer → Type 0
      Range = Unless (InRange o.priority) (fault PriorityOutOfRange 2) Spelt

  abbrev Judged : Answer → Said → Form → Type 0
  Judged a d m = OperatorRules d.function (said_op d m) (TableRules t d.function (said_op d m)) a

  abbrev Typed : Answer → Said → Type 0
  Typed a d = UnlessSome (λ m. d.word ≡ word_of m) (fault UnknownType 3) (λ m b. Judged b d m) a

  typed_one : (d : Said) → Typed r d → Typed s d → r ≡ s
  typed_one d =
      if_some_one (λ m. d.word ≡ word_of m) (λ m a. Judged a d m) (Refused (fault UnknownType 3)) r s
      (λ m n p q h k. operator_one d.function (said_op d m) (TableRules t d.function (said_op d m)) (table_one d.function (said_op d m)) h (subst (Judged s d) (word_one n m (sym q ∙ p)) k))
      (same_refused _)

  pub declares_one : (line : List ℕ) → Declares t line r → Declares t line s → r ≡ s
  declares_one line =
      if_some_one (Says line) (λ d a. Typed a d) (Refused (fault MalformedDeclaration 0)) r s
      (λ x y p q h k. typed_one x h (subst (Typed s) (says_one line y x q p) k))
      (same_refused _)

pub declares_only : (t : Table) (line : List ℕ) (r : Answer) → Declares t line r → Only (Declares t line) r
declares_only t line r h = record { is = h; only = λ s k. declares_one t s r line k h }
