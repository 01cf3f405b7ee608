-- A text is a spelling if it is cut into one token, a symbol or a word. Assumes nothing.
use Rattle.std.proofs.Common.{◌≡◌, ℕ, ◌≤◌, eqb, ◌⊎◌, List, [], ◌∷◌, ◌++◌, length, Decides, sym, refl, ap, ◌∙◌, subst, inl, inr, ⊎_elim, append-nil, arith}
use Rattle.std.proofs.lemmas.List.{length-append, nil_from_length}
use Rattle.std.proofs.lemmas.Bool.{eqb-true, eq-eqb}
use Rattle.tokens.specs.declared.token.TokenKind.{TokenKind}
use Rattle.tokens.specs.declared.token.TokenKind.TheVariants as K
use Rattle.tokens.specs.Tokens.{Placed, WellFormed, CutInto, Tokens}
use Rattle.notation.specs.Operators.{NoDigitFirst, Spelling}

module _ (text : List ℕ) (all : List Placed) (tokens : Tokens text all) where
  -- a text that is one token is cut into that
  alone : (k : TokenKind) → WellFormed k text → record { kind = k; place = 0; bytes = text } ∷ [] ≡ all
  alone k h = tokens.only _ ([], [], sym (append-nil text), tt, refl, h, tt, tt)

  pub no_token : all ≡ [] → Spelling text → ⊥
  no_token none s = ⊎_elim (λ h. clash K.Symbol h) (λ h. clash K.Word h.0) s.token
    where
      clash : (k : TokenKind) → WellFormed k text → ⊥
      clash k h = omega (arith, ap length (alone k h ∙ none))

  module _ (t : Placed) (ts : List Placed) (first : all ≡ t ∷ ts) where
    -- the first token of a spelling is the whole of it
    spelt : Spelling text → (t.bytes ≡ text) × ((t.kind ≡ K.Symbol) ⊎ ((t.kind ≡ K.Word) × NoDigitFirst text))
    spelt s =
        ⊎_elim
        (λ h. let e = alone K.Symbol h ∙ first in (cc, inl cc))
        (λ h. let e = alone K.Word h.0 ∙ first in (cc, inr (cc, h.1)))
        s.token

    -- a token as long as the text is the whole of it
    whole : length t.bytes ≡ length text → (t.bytes ≡ text) × WellFormed t.kind text
    whole long = is_whole (subst (CutInto 0 text) first tokens.cut)
      where
        is_whole : CutInto 0 text (t ∷ ts) → (t.bytes ≡ text) × WellFormed t.kind text
        is_whole (gap, rest, parts, _, _, formed, _, _) =
            let sizes = ap length parts ∙ length-append gap (t.bytes ++ rest) in
            let more = length-append t.bytes rest in
            let no_gap : gap ≡ [] = nil_from_length gap (omega arith) in
            let no-rest : rest ≡ [] = nil_from_length rest (omega arith) in
            let same : t.bytes ≡ text = sym (parts ∙ (λ i. no_gap i ++ (t.bytes ++ no-rest i)) ∙ append-nil t.bytes) in
            (same, subst (WellFormed t.kind) same formed)

    pub not_whole : (length t.bytes ≡ length text → ⊥) → Spelling text → ⊥
    not_whole short s = short (ap length (spelt s).0)

    pub bracket : (t.kind ≡ K.Open) ⊎ (t.kind ≡ K.Close) → Spelling text → ⊥
    bracket is s =
        ⊎_elim
        (λ e. ⊎_elim (λ d. let z : ◌≡◌ {A = ℕ} 0 1 = cc in omega arith) (λ d. let f = d.0 in let z : ◌≡◌ {A = ℕ} 0 1 = cc in omega arith) (spelt s).1)
        (λ e. ⊎_elim (λ d. let z : ◌≡◌ {A = ℕ} 0 1 = cc in omega arith) (λ d. let f = d.0 in let z : ◌≡◌ {A = ℕ} 0 1 = cc in omega arith) (spelt s).1)
        is

    pub symbol_decides : length text ≤ 12 → t.kind ≡ K.Symbol → Decides (eqb (length t.bytes) (length text)) (Spelling text)
    symbol_decides short kind =
        (λ e. record { short = short; token = inl (subst (λ (k : TokenKind). WellFormed k text) kind (whole (eqb-true _ _ e)).1) }, λ s. eq-eqb _ _ (ap length (spelt s).0))
