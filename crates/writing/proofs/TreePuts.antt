-- The Puts of a bracketed tree, from those of its parts.
use Rattle.std.proofs.Common.{◌≡◌, ℕ, [], ◌∷◌, ◌++◌, Some, Option, Ok, Err, Result, subst, arith}
use Rattle.tokens.specs.declared.fault.Fault.{Fault}
use Rattle.tokens.specs.declared.token.TokenKind.{TokenKind}
use Rattle.notation.specs.Operators.{Op}
use Rattle.notation.specs.Tables.{Table}
use Rattle.grammar.specs.Trees.{Bracketed}
use Rattle.grammar.specs.Trees.Bracketed.{pair, prefixed, postfixed, infixed}
use Rattle.grammar.specs.Weights.{operator_in}
use Rattle.grammar.specs.Reading.{opening, closing, sign, sign_of}
use Rattle.writing.specs.declared.put_kind.PutKind.TheVariants as P
use Rattle.writing.specs.Outlets.{Rule}
use Rattle.writing.specs.Puts.{Labelled, label, labelled, PutsTo}
use Rattle.writing.specs.Written.{PutsTokens}
use Rattle.writing.proofs.Sequences.{tokens_from, list_then, list_refused, from_tokens, to_tokens, from_one, some_labelled}

module _ {H : Type 0} (rule : Rule H) (t : Table) where
  -- a `(`, a `)`, and an operator's sign
  abbrev pub PutsOne : Option TokenKind → Labelled → H → H → Result TokenKind Fault → Type 0
  PutsOne last x before after r = PutsTo x.token.kind (tokens_from rule last (x ∷ []) before) after r

  pub sign_put : (f : ℕ) (o : Op) (last : Option TokenKind) (before after : H) (r : Result TokenKind Fault) → o ≡ operator_in t f
      → PutsOne last (label P.Operator (sign o.spelling)) before after r → PutsOne last (label P.Operator (sign_of t f)) before after r
  sign_put f o last before after r e = subst (λ (q : Op). PutsOne last (label P.Operator (sign q.spelling)) before after r) e

  module _ (last : Option TokenKind) (before : H) where
    pub pair_puts : (b : Bracketed) (o e : TokenKind) (opened inside after : H) (r : Result TokenKind Fault)
        → PutsOne last (label P.Open opening) before opened (Ok o)
        → PutsTokens rule t (Some o) b opened inside (Ok e)
        → PutsOne (Some e) (label P.Close closing) inside after r
        → PutsTokens rule t last (pair b) before after r
    pair_puts b o e opened inside after r first second third =
        to_tokens rule t last (pair b) before after r
        (list_then rule last (label P.Open opening ∷ []) (labelled t b ++ (label P.Close closing ∷ [])) o before opened after r (omega arith)
        (from_one rule last (label P.Open opening) before opened (Ok o) first)
        (list_then rule (Some o) (labelled t b) (label P.Close closing ∷ []) e opened inside after r (some_labelled rule t b)
        (from_tokens rule t (Some o) b opened inside (Ok e) second)
        (from_one rule (Some e) (label P.Close closing) inside after r third)))

    pub pair_unopened : (b : Bracketed) (opened after : H) (x : Fault) → PutsOne last (label P.Open opening) before opened (Err x) → PutsTokens rule t last (pair b) before after (Err x)
    pair_unopened b opened after x first =
        to_tokens rule t last (pair b) before after (Err x)
        (list_refused rule last (label P.Open opening ∷ []) (labelled t b ++ (label P.Close closing ∷ [])) before opened after x (omega arith)
        (from_one rule last (label P.Open opening) before opened (Err x) first))

    pub pair_unfilled : (b : Bracketed) (o : TokenKind) (opened inside after : H) (x : Fault)
        → PutsOne last (label P.Open opening) before opened (Ok o) → PutsTokens rule t (Some o) b opened inside (Err x) → PutsTokens rule t last (pair b) before after (Err x)
    pair_unfilled b o opened inside after x first second =
        to_tokens rule t last (pair b) before after (Err x)
        (list_then rule last (label P.Open opening ∷ []) (labelled t b ++ (label P.Close closing ∷ [])) o before opened after (Err x) (omega arith)
        (from_one rule last (label P.Open opening) before opened (Ok o) first)
        (list_refused rule (Some o) (labelled t b) (label P.Close closing ∷ []) opened inside after x (some_labelled rule t b)
        (from_tokens rule t (Some o) b opened inside (Err x) second)))

    module _ (f : ℕ) where
      abbrev S : Labelled
      S = label P.Operator (sign_of t f)

      pub prefixed_puts : (b : Bracketed) (s : TokenKind) (signed after : H) (r : Result TokenKind Fault)
          → PutsOne last S before signed (Ok s) → PutsTokens rule t (Some s) b signed after r → PutsTokens rule t last (prefixed f b) before after r
      prefixed_puts b s signed after r first second =
          to_tokens rule t last (prefixed f b) before after r
          (list_then rule last (S ∷ []) (labelled t b) s before signed after r (omega arith)
          (from_one rule last S before signed (Ok s) first) (from_tokens rule t (Some s) b signed after r second))

      pub prefixed_unsigned : (b : Bracketed) (signed after : H) (x : Fault) → PutsOne last S before signed (Err x) → PutsTokens rule t last (prefixed f b) before after (Err x)
      prefixed_unsigned b signed after x first =
          to_tokens rule t last (prefixed f b) before after (Err x)
          (list_refused rule last (S ∷ []) (labelled t b) before signed after x (omega arith) (from_one rule last S before signed (Err x) first))

      pub postfixed_puts : (a : Bracketed) (e : TokenKind) (left after : H) (r : Result TokenKind Fault)
          → PutsTokens rule t last a before left (Ok e) → PutsOne (Some e) S left after r → PutsTokens rule t last (postfixed f a) before after r
      postfixed_puts a e left after r first second =
          to_tokens rule t last (postfixed f a) before after r
          (list_then rule last (labelled t a) (S ∷ []) e before left after r (some_labelled rule t a)
          (from_tokens rule t last a before left (Ok e) first) (from_one rule (Some e) S left after r second))

      pub postfixed_unfilled : (a : Bracketed) (left after : H) (x : Fault) → PutsTokens rule t last a before left (Err x) → PutsTokens rule t last (postfixed f a) before after (Err x)
      postfixed_unfilled a left after x first =
          to_tokens rule t last (postfixed f a) before after (Err x)
          (list_refused rule last (labelled t a) (S ∷ []) before left after x (some_labelled rule t a) (from_tokens rule t last a before left (Err x) first))

      pub infixed_puts : (a b : Bracketed) (e s : TokenKind) (left signed after : H) (r : Result TokenKind Fault)
          → PutsTokens rule t last a before left (Ok e) → PutsOne (Some e) S left signed (Ok s) → PutsTokens rule t (Some s) b signed after r
          → PutsTokens rule t last (infixed f a b) before after r
      infixed_puts a b e s left signed after r first second third =
          to_tokens rule t last (infixed f a b) before after r
          (list_then rule last (labelled t a) (S ∷ labelled t b) e before left after r (some_labelled rule t a)
          (from_tokens rule t last a before left (Ok e) first)
          (list_then rule (Some e) (S ∷ []) (labelled t b) s left signed after r (omega arith)
          (from_one rule (Some e) S left signed (Ok s) second) (from_tokens rule t (Some s) b signed after r third)))

      pub infixed_unfilled : (a b : Bracketed) (left after : H) (x : Fault) → PutsTokens rule t last a before left (Err x) → PutsTokens rule t last (infixed f a b) before after (Err x)
      infixed_unfilled a b left after x first =
          to_tokens rule t last (infixed f a b) before after (Err x)
          (list_refused rule last (labelled t a) (S ∷ labelled t b) before left after x (some_labelled rule t a) (from_tokens rule t last a before left (Err x) first))

      pub infixed_unsigned : (a b : Bracketed) (e : TokenKind) (left signed after : H) (x : Fault)
          → PutsTokens rule t last a before left (Ok e) → PutsOne (Some e) S left signed (Err x) → PutsTokens rule t last (infixed f a b) before after (Err x)
      infixed_unsigned a b e left signed after x first second =
          to_tokens rule t last (infixed f a b) before after (Err x)
          (list_then rule last (labelled t a) (S ∷ labelled t b) e before left after (Err x) (some_labelled rule t a)
          (from_tokens rule t last a before left (Ok e) first)
          (list_refused rule (Some e) (S ∷ []) (labelled t b) left signed after x (omega arith) (from_one rule (Some e) S left signed (Err x) second)))
