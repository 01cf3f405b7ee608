-- What the well-formed tokens are: the two brackets, and spellings of the kind of their first byte. Assumes nothing.
use Rattle.std.proofs.Common.{◌≡◌, ℕ, Bool, true, false, cond, eqb, ◌⊎◌, List, [], ◌∷◌, Some, codes, refl, ap, subst, inl, inr, ⊎_elim, arith}
use Rattle.std.proofs.lemmas.Bool.{cases_Bool, or_cases, eqb-true}
use Rattle.tokens.specs.declared.byte.ByteClass.TheVariants as C
use Rattle.tokens.specs.declared.token.TokenKind.{TokenKind}
use Rattle.tokens.specs.declared.token.TokenKind.TheVariants.{Word, Symbol, Open, Close}
use Rattle.tokens.specs.Bytes.{is_in, is_word_byte, is_symbol_byte}
use Rattle.tokens.specs.Tokens.{kind_in, kind_of, WellFormed}
use Rattle.grammar.specs.Reading.{kind_of_spelling}

-- which test of a byte's class holds, by its kind
abbrev Tested : TokenKind → Bool → Bool → Bool → Bool → Type 0
Tested Word w s o c = w ≡ true
Tested Symbol w s o c = w ≡ false
Tested Open w s o c = o ≡ true
Tested Close w s o c = c ≡ true

tested : (w s o c b : Bool) (k : TokenKind) → kind_in (cond w C.Word (cond s C.Symbol (cond o C.Open (cond c C.Close (cond b C.Space C.Unlawful))))) ≡ Some k → Tested k w s o c
tested true s o c b k e = let same : Word ≡ k = cc in subst (λ (j : TokenKind). Tested j true s o c) same refl
tested false true o c b k e = let same : Symbol ≡ k = cc in subst (λ (j : TokenKind). Tested j false true o c) same refl
tested false false true c b k e = let same : Open ≡ k = cc in subst (λ (j : TokenKind). Tested j false false true c) same refl
tested false false false true b k e = let same : Close ≡ k = cc in subst (λ (j : TokenKind). Tested j false false false true) same refl
tested false false false false true k e = cc
tested false false false false false k e = cc

byte_tested : (b : ℕ) (k : TokenKind) → kind_of b ≡ Some k → Tested k (is_word_byte b) (is_symbol_byte b) (is_in (codes "(") b) (is_in (codes ")") b)
unfolding kind_of
byte_tested b k e = tested (is_word_byte b) (is_symbol_byte b) (is_in (codes "(") b) (is_in (codes ")") b) (is_in (codes " ") b) k e

-- the kind of a spelling is the kind of token that it is
pub word_kind : (s : List ℕ) → WellFormed Word s → kind_of_spelling s ≡ Word
unfolding kind_of_spelling
word_kind [] h = absurd (omega (arith, h.some))
word_kind (b ∷ s) h = ap (λ (v : Bool). cond v Word Symbol) (byte_tested b Word h.alike.0)

pub symbol_kind : (s : List ℕ) → WellFormed Symbol s → kind_of_spelling s ≡ Symbol
unfolding kind_of_spelling
symbol_kind [] h = absurd (omega (arith, h.some))
symbol_kind (b ∷ s) h = ap (λ (v : Bool). cond v Word Symbol) (byte_tested b Symbol h.alike.0)

only_one : (x b : ℕ) → is_in (x ∷ []) b ≡ true → b ≡ x
only_one x b e = ⊎_elim (eqb-true b x) (λ h. cc) (or_cases (eqb b x) false e)

-- a bracket is its one byte
pub opening_is : (w : List ℕ) → WellFormed Open w → w ≡ codes "("
opening_is [] h = absurd (omega (arith, h.some))
opening_is (b ∷ []) h = ap (λ x. x ∷ []) (only_one 40 b (byte_tested b Open h.alike.0))
opening_is (b ∷ c ∷ w) h = absurd (omega (arith, h.alone refl))

pub closing_is : (w : List ℕ) → WellFormed Close w → w ≡ codes ")"
closing_is [] h = absurd (omega (arith, h.some))
closing_is (b ∷ []) h = ap (λ x. x ∷ []) (only_one 41 b (byte_tested b Close h.alike.0))
closing_is (b ∷ c ∷ w) h = absurd (omega (arith, h.alone refl))

-- a spelling is a word or a symbol
pub kind_cases : (s : List ℕ) → (kind_of_spelling s ≡ Word) ⊎ (kind_of_spelling s ≡ Symbol)
unfolding kind_of_spelling
kind_cases [] = inr refl
kind_cases (b ∷ s) = ⊎_elim (λ e. inl (ap (λ (v : Bool). cond v Word Symbol) e)) (λ e. inr (ap (λ (v : Bool). cond v Word Symbol) e)) (cases_Bool (is_word_byte b))
