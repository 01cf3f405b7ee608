-- The kind of a spelling, told by the class of its first byte.
use Rattle.std.proofs.Common.{◌≡◌, ℕ, ◌<◌, ◌≤◌, Bool, true, false, cond, List, [], ◌∷◌, length, codes, slice_index_or, refl, arith}
use Rattle.tokens.specs.declared.byte.ByteClass.{ByteClass}
use Rattle.tokens.specs.declared.byte.ByteClass.TheVariants as C
use Rattle.tokens.specs.declared.token.TokenKind.TheVariants.{Word, Symbol}
use Rattle.tokens.specs.Bytes.{is_word_byte, is_symbol_byte, class_of, is_in}
use Rattle.grammar.specs.Reading.{kind_of_spelling}

-- the class that five tests on a byte give it
abbrev class : Bool → Bool → Bool → Bool → Bool → ByteClass
class w s o c p = cond w C.Word (cond s C.Symbol (cond o C.Open (cond c C.Close (cond p C.Space C.Unlawful))))

of_word : (w s o c p : Bool) → C.Word ≡ class w s o c p → Word ≡ cond w Word Symbol
of_word true s o c p h = refl
of_word false true o c p h = absurd cc
of_word false false true c p h = absurd cc
of_word false false false true p h = absurd cc
of_word false false false false true h = absurd cc
of_word false false false false false h = absurd cc

of_other : (w s o c p : Bool) → (class w s o c p ≡ C.Word → ⊥) → Symbol ≡ cond w Word Symbol
of_other true s o c p h = absurd (h refl)
of_other false s o c p h = refl

pub kind_word : (s : List ℕ) (d : ℕ) → 1 ≤ length s → C.Word ≡ class_of (slice_index_or s 0 d) → Word ≡ kind_of_spelling s
unfolding kind_of_spelling
kind_word [] d few h = absurd (omega arith)
kind_word (b ∷ bs) d few h = of_word (is_word_byte b) (is_symbol_byte b) (is_in (codes "(") b) (is_in (codes ")") b) (is_in (codes " ") b) h

pub kind_other : (s : List ℕ) (d : ℕ) → 1 ≤ length s → (class_of (slice_index_or s 0 d) ≡ C.Word → ⊥) → Symbol ≡ kind_of_spelling s
unfolding kind_of_spelling
kind_other [] d few h = absurd (omega arith)
kind_other (b ∷ bs) d few h = of_other (is_word_byte b) (is_symbol_byte b) (is_in (codes "(") b) (is_in (codes ")") b) (is_in (codes " ") b) h

pub kind_none : (s : List ℕ) → length s < 1 → kind_of_spelling s ≡ Symbol
unfolding kind_of_spelling
kind_none [] h = refl
kind_none (b ∷ bs) h = absurd (omega arith)
