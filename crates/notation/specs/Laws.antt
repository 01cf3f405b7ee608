-- The laws of a table hold in one way at most, so that they can stand in a list's type. Assumes nothing.
use Rattle.std.specs.Prelude.{◌≡◌, ℕ, zero, suc, false, ◌⊎◌, List, [], ◌∷◌, length, Some, None, Option, refl}
use Rattle.std.proofs.Common.{sym, ap, ◌∙◌, inl, inr, arith}
use mathlib.Core.HLevel.{⊥_prop, collapsible→set}
use Rattle.std.proofs.Math.Logic.{∥∥₁_elim}
use Rattle.std.proofs.Math.Bridge.{le_prop}
use Rattle.std.proofs.Math.Nat.{ℕ_set}
use base.Stored.{Coded-set, coded_bool}
use Rattle.std.specs.List.{AllByRecursion}
use Rattle.tokens.specs.declared.token.TokenKind.{TokenKind}
use Rattle.tokens.specs.declared.token.TokenKind.TheVariants as K
use Rattle.tokens.specs.Bytes.{is_digit}
use Rattle.tokens.specs.Tokens.{kind_of, WellFormed}
use Rattle.notation.specs.Operators.{Op, operands_of, NoDigitFirst, Spelling}
use Rattle.notation.specs.Tables.{Table, operands_of_function, LawfulOp, LawfulTable}

-- the kinds are told apart by numbers
numbered : Option TokenKind → ℕ
numbered None = 0
numbered (Some K.Word) = 1
numbered (Some K.Symbol) = 2
numbered (Some K.Open) = 3
numbered (Some K.Close) = 4

kind_at : ℕ → Option TokenKind
kind_at zero = None
kind_at (suc zero) = Some K.Word
kind_at (suc (suc zero)) = Some K.Symbol
kind_at (suc (suc (suc zero))) = Some K.Open
kind_at (suc (suc (suc (suc n)))) = Some K.Close

back : (k : Option TokenKind) → kind_at (numbered k) ≡ k
unfolding numbered kind_at
back None = refl
back (Some K.Word) = refl
back (Some K.Symbol) = refl
back (Some K.Open) = refl
back (Some K.Close) = refl

kind_set : IsSet (Option TokenKind)
kind_set =
    collapsible→set (λ j k e. by_number j k (ap numbered e)) (λ j k e f. ap (by_number j k) (ℕ_set (numbered j) (numbered k) (ap numbered e) (ap numbered f)))
  where
    by_number : (j k : Option TokenKind) → numbered j ≡ numbered k → j ≡ k
    by_number j k e = sym (back j) ∙ ap kind_at e ∙ back k

all_one : {X : Type 0} (P : X → Type 0) → ((x : X) → IsProp (P x)) → (xs : List X) → IsProp (AllByRecursion P xs)
all_one P one [] p q = refl
all_one P one (x ∷ xs) p q = λ i. (one x p.0 q.0 i, all_one P one xs p.1 q.1 i)

well_formed_one : (k : TokenKind) (s : List ℕ) → IsProp (WellFormed k s)
well_formed_one k s p q = λ i.
    record {
      some = le_prop p.some q.some i;
      alike = all_one (λ b. kind_of b ≡ Some k) (λ b. kind_set (kind_of b) (Some k)) s p.alike q.alike i;
      alone = λ e. ℕ_set (length s) 1 (p.alone e) (q.alone e) i;
    }

no_digit_one : (s : List ℕ) → IsProp (NoDigitFirst s)
no_digit_one [] p q = refl
no_digit_one (b ∷ bs) p q = Coded-set coded_bool (is_digit b) false p q

-- a spelling is not both a symbol and a word
not_both : (s : List ℕ) → WellFormed K.Symbol s → WellFormed K.Word s → ⊥
not_both [] p q = omega (arith, p.some)
not_both (b ∷ bs) p q = let e : Some K.Symbol ≡ Some K.Word = sym p.alike.0 ∙ q.alike.0 in let z : ◌≡◌ {A = ℕ} 0 1 = cc in omega arith

token_one : (s : List ℕ) → IsProp (WellFormed K.Symbol s ⊎ (WellFormed K.Word s × NoDigitFirst s))
token_one s (inl p) (inl q) = ap inl (well_formed_one K.Symbol s p q)
token_one s (inl p) (inr q) = absurd (not_both s p q.0)
token_one s (inr p) (inl q) = absurd (not_both s q p.0)
token_one s (inr p) (inr q) = λ i. inr (well_formed_one K.Word s p.0 q.0 i, no_digit_one s p.1 q.1 i)

spelling_one : (s : List ℕ) → IsProp (Spelling s)
spelling_one s p q = λ i. record { short = le_prop p.short q.short i; token = token_one s p.token q.token i }

pub op_one : (f : ℕ) (o : Op) → IsProp (LawfulOp f o)
op_one f o p q = λ i.
    record {
      function = le_prop p.function q.function i;
      operands = ℕ_set (operands_of o.form) (operands_of_function f) p.operands q.operands i;
      low = le_prop p.low q.low i;
      high = le_prop p.high q.high i;
      spelling = spelling_one o.spelling p.spelling q.spelling i;
    }

pub lawful_one : (t : Table) → IsProp (LawfulTable t)
lawful_one t p q = λ i.
    record {
      each = λ f o has. op_one f o (p.each f o has) (q.each f o has) i;
      once = λ at s f g x y. ℕ_set f g (p.once at s f g x y) (q.once at s f g x y) i;
      levels = λ f g o r a b level right left. ⊥_prop (p.levels f g o r a b level right left) (q.levels f g o r a b level right left) i;
    }

-- the laws, from a list's type
pub lawful_in : (t : Table) → ∥ LawfulTable t ∥₁ → LawfulTable t
lawful_in t h = ∥∥₁_elim h (lawful_one t) (λ laws. laws)
