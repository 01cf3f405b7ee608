-- An expression that passes no limit is within all of them.
use Rattle.std.proofs.Common.{◌≡◌, ℕ, zero, suc, ◌+◌, ◌<◌, ◌≤◌, ◌⊎◌, List, [], ◌∷◌, length, None, Err, refl, ap, inl, inr, ⊎_elim, arith}
use Rattle.std.specs.List.{AllByRecursion}
use Rattle.std.proofs.lemmas.Bool.{cases_lt}
use Rattle.tokens.specs.declared.byte.ByteClass.{ByteClass}
use Rattle.tokens.specs.declared.byte.ByteClass.TheVariants as C
use Rattle.tokens.specs.declared.fault.Fault.{Fault}
use Rattle.tokens.specs.declared.token.TokenKind.{TokenKind}
use Rattle.tokens.specs.declared.token.TokenKind.TheVariants as K
use Rattle.tokens.specs.Bytes.{class_of}
use Rattle.tokens.specs.InOrder.{Nth, First}
use Rattle.tokens.specs.Limits.{Unlawful, Lawful, LongWord, FirstUnlawful, TokenTooMany, LongWordIn, Limits, WithinLimits}
use Rattle.tokens.specs.Tokens.{Placed, tokens_of}
use Rattle.tokens.proofs.Firsts.{nth_inside}

-- either no element of the list passes the test, or there is a first that does
module _ {X : Type 0} (P : X → Type 0) (tell : (x : X) → P x ⊎ (P x → ⊥)) where
  first_later : (xs : List X) (x : X) → (P x → ⊥) → ((i : ℕ) × (y : X) × First P xs i y) → (i : ℕ) × (y : X) × First P (x ∷ xs) i y
  first_later xs x none (i, y, first) = (
    i + 1,
    y,
    record {
      nth = record { earlier = x ∷ first.nth.earlier; later = first.nth.later; split = ap (λ (l : List X). x ∷ l) first.nth.split; index = omega (arith, first.nth.index) };
      here = first.here;
      none = (none, first.none);
    },
  )

  first_or_none : (xs : List X) → AllByRecursion (λ y. P y → ⊥) xs ⊎ ((i : ℕ) × (y : X) × First P xs i y)
  first_or_none [] = inl tt
  first_or_none (x ∷ xs) =
      ⊎_elim
      (λ here. inr (0, x, record { nth = record { earlier = []; later = xs; split = refl; index = refl }; here = here; none = tt }))
      (λ none. ⊎_elim (λ all. inl (none, all)) (λ later. inr (first_later xs x none later)) (first_or_none xs))
      (tell x)

nth_there : {X : Type 0} (xs : List X) (i : ℕ) → i < length xs → (x : X) × Nth xs i x
nth_there [] i lt = absurd (omega arith)
nth_there (x ∷ xs) zero lt = (x, record { earlier = []; later = xs; split = refl; index = refl })
nth_there (x ∷ xs) (suc i) lt =
    let (y, nth) = nth_there xs i (omega arith) in
    (y, record { earlier = x ∷ nth.earlier; later = nth.later; split = ap (λ (l : List _). x ∷ l) nth.split; index = omega (arith, nth.index) })

unlawful_or : (c : ByteClass) → (c ≡ C.Unlawful) ⊎ (c ≡ C.Unlawful → ⊥)
unlawful_or C.Word = inr (λ e. absurd cc)
unlawful_or C.Symbol = inr (λ e. absurd cc)
unlawful_or C.Open = inr (λ e. absurd cc)
unlawful_or C.Close = inr (λ e. absurd cc)
unlawful_or C.Space = inr (λ e. absurd cc)
unlawful_or C.Unlawful = inl refl

word_or : (k : TokenKind) → (k ≡ K.Word) ⊎ (k ≡ K.Word → ⊥)
word_or K.Word = inl refl
word_or K.Symbol = inr (λ e. absurd cc)
word_or K.Open = inr (λ e. absurd cc)
word_or K.Close = inr (λ e. absurd cc)

long_or : (t : Placed) → LongWord t ⊎ (LongWord t → ⊥)
long_or t =
    ⊎_elim
    (λ word. ⊎_elim (λ long. inl (word, long)) (λ short. inr (λ h. omega (arith, h.1))) (cases_lt 16 (length t.bytes)))
    (λ other. inr (λ h. other h.0))
    (word_or t.kind)

module _ (text : List ℕ) (none : (f : Fault) → Limits text (Err f) → ⊥) where
  short : length text ≤ 4096
  short = ⊎_elim (λ over. absurd (none _ (inl (over, refl)))) (λ h. h) (cases_lt 4096 (length text))

  not_over : 4096 < length text → ⊥
  not_over over = omega (arith, short)

  lawful : AllByRecursion Lawful text
  lawful =
      ⊎_elim (λ all. all) (λ (i, b, first). absurd (none _ (inr (not_over, inl (i, (b, first), refl)))))
      (first_or_none Unlawful (λ b. unlawful_or (class_of b)) text)

  no_unlawful : (p : ℕ) → FirstUnlawful text p → ⊥
  no_unlawful p first = none _ (inr (not_over, inl (p, first, refl)))

  few : length (tokens_of text) ≤ 1024
  few =
      ⊎_elim
      (λ over. let (t, nth) = nth_there (tokens_of text) 1024 over in absurd (none _ (inr (not_over, inr (no_unlawful, inl (t.place, (t, nth, refl), refl))))))
      (λ h. h)
      (cases_lt 1024 (length (tokens_of text)))

  not_many : (p : ℕ) → TokenTooMany text p → ⊥
  not_many p (t, nth, at) = omega (arith, nth_inside (tokens_of text) 1024 t nth, few)

  words : LongWordIn (tokens_of text) None
  words =
      ⊎_elim (λ all. all)
      (λ (i, t, first). absurd (none _ (inr (not_over, inr (no_unlawful, inr (not_many, inl (t.place, (i, t, first, refl), refl)))))))
      (first_or_none LongWord long_or (tokens_of text))

  pub within : WithinLimits text
  within = record { bytes = short; lawful = lawful; tokens = few; words = words }
