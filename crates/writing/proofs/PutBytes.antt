-- The bytes of Puts, one after another, are the text.
use Rattle.std.proofs.Common.{◌≡◌, ℕ, cond, Bool, true, false, List, [], ◌∷◌, ◌++◌, codes, map, Some, None, Option, refl, sym, ap, ◌∙◌}
use Rattle.std.proofs.lemmas.List.{append_assoc}
use Rattle.tokens.specs.Tokens.{Lexeme, together}
use Rattle.tokens.specs.Spacing.{between, spaced_after}
use Rattle.tokens.specs.declared.token.TokenKind.{TokenKind}
use Rattle.grammar.specs.Writing.{write}
use Rattle.writing.specs.declared.put_kind.PutKind.TheVariants as P
use Rattle.writing.specs.Puts.{Put, Labelled, labelled, put, token_puts, blank_between, bytes_put, PutsAreTheLine}
use Rattle.writing.proofs.Sequences.{labelled_map}

bytes_append : (ps qs : List Put) → bytes_put (ps ++ qs) ≡ bytes_put ps ++ bytes_put qs
bytes_append [] qs = refl
bytes_append (p ∷ ps) qs = ap (λ (xs : List ℕ). p.bytes ++ xs) (bytes_append ps qs) ∙ sym (append_assoc p.bytes (bytes_put ps) (bytes_put qs))

abbrev token : Labelled → Lexeme
token x = x.token

blank : (last : Option TokenKind) (k : TokenKind) → bytes_put (blank_between last k) ≡ between last k
blank None k = refl
blank (Some j) k = space (together j k) where
  space : (v : Bool) → bytes_put (cond v (put P.Blank (codes " ") ∷ []) []) ≡ cond v (codes " ") []
  space true = refl
  space false = refl

tokens_bytes : (last : Option TokenKind) (xs : List Labelled) → bytes_put (token_puts last xs) ≡ spaced_after last (map token xs)
tokens_bytes last [] = refl
tokens_bytes last (x ∷ xs) =
    let k = x.token.kind in
    bytes_append (blank_between last k) (put x.kind x.token.bytes ∷ token_puts (Some k) xs)
    ∙ ap (λ (ys : List ℕ). ys ++ (x.token.bytes ++ bytes_put (token_puts (Some k) xs))) (blank last k)
    ∙ ap (λ (ys : List ℕ). between last k ++ (x.token.bytes ++ ys)) (tokens_bytes (Some k) xs)

pub puts_are_the_line : PutsAreTheLine
puts_are_the_line t digits tree =
    let tokens = labelled t (write t tree) in
    ap (λ (ys : List ℕ). digits ++ (9 ∷ ys))
    (bytes_append (token_puts None tokens) (put P.LineEnd (10 ∷ []) ∷ [])
    ∙ ap (λ (ys : List ℕ). ys ++ (10 ∷ [])) (tokens_bytes None tokens ∙ ap (spaced_after None) (labelled_map t (write t tree))))
