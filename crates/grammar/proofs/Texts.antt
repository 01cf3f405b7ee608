-- The tokens of a lawful bracketed tree are well formed, so their spaced text has them and reads.
use Rattle.std.proofs.Common.{◌≡◌, ℕ, Bool, true, false, cond, List, [], ◌∷◌, ◌++◌, Some, None, codes, Option, sym, refl, subst, inr, arith}
use Rattle.std.specs.List.{AllByRecursion}
use Rattle.std.proofs.ByRecursion.{All-append, All-weaker}
use Rattle.tokens.specs.declared.token.TokenKind.{TokenKind}
use Rattle.tokens.specs.Limits.{Lawful as LawfulByte}
use Rattle.tokens.specs.Spacing.{between as gap, spaced_after}
use Rattle.tokens.specs.Tokens.{Lexeme, kind_of, together}
use Rattle.tokens.proofs.Cuts.{separator_none}
use Rattle.tokens.proofs.Spaces.{spacing_keeps_tokens}
use Rattle.notation.specs.Operators.Fixity.{prefix, postfix, between}
use Rattle.notation.specs.Tables.{Table, LawfulTable}
use Rattle.grammar.specs.Trees.{Tree, Bracketed}
use Rattle.grammar.specs.Trees.Bracketed.{named, pair, prefixed, postfixed, infixed}
use Rattle.grammar.specs.Lawful.{Lawful}
use Rattle.grammar.specs.Reading.{opening, closing, Formed, sign_of, lexemes, ReadsTokens, ReadsSpaced, SpacedTokensRead}
use Rattle.grammar.proofs.Tables.{sign_formed}

-- the bytes of a token may stand in an expression
kind_lawful : (b : ℕ) (k : TokenKind) → kind_of b ≡ Some k → LawfulByte b
kind_lawful b k e unlawful = let none = separator_none b (inr unlawful) in cc

space_lawful : (s : Bool) → AllByRecursion LawfulByte (cond s (codes " ") [])
space_lawful true = (λ e. cc, tt)
space_lawful false = tt

gap_lawful : (last : Option TokenKind) (k : TokenKind) → AllByRecursion LawfulByte (gap last k)
gap_lawful None k = tt
gap_lawful (Some j) k = space_lawful (together j k)

spaced_lawful : (last : Option TokenKind) (xs : List Lexeme) → AllByRecursion Formed xs → AllByRecursion LawfulByte (spaced_after last xs)
spaced_lawful last [] h = tt
spaced_lawful last (x ∷ xs) h =
    All-append LawfulByte (gap last x.kind) (x.bytes ++ spaced_after (Some x.kind) xs) (gap_lawful last x.kind)
    (All-append LawfulByte x.bytes (spaced_after (Some x.kind) xs)
    (All-weaker (λ b. kind_of b ≡ Some x.kind) LawfulByte (λ b e. kind_lawful b x.kind e) x.bytes h.0.alike)
    (spaced_lawful (Some x.kind) xs h.1))

-- brackets are well formed
pub opening_formed : Formed opening
unfolding kind_of
opening_formed = record { some = omega arith; alike = (refl, tt); alone = λ _. refl }

pub closing_formed : Formed closing
unfolding kind_of
closing_formed = record { some = omega arith; alike = (refl, tt); alone = λ _. refl }

module _ (t : Table) (lawful : LawfulTable t) where
  pub lexemes_formed : (b : Bracketed) → Lawful t b → AllByRecursion Formed (lexemes t b)
  lexemes_formed (named w) l = (l.word, tt)
  lexemes_formed (pair b) l = (opening_formed, All-append Formed (lexemes t b) (closing ∷ []) (lexemes_formed b l) (closing_formed, tt))
  lexemes_formed (prefixed f b) (x, a, l) = (sign_formed t lawful f prefix x, lexemes_formed b l)
  lexemes_formed (postfixed f b) (x, a, l) = All-append Formed (lexemes t b) (sign_of t f ∷ []) (lexemes_formed b l) (sign_formed t lawful f postfix x, tt)
  lexemes_formed (infixed f b c) (x, a, d, l, m) =
      All-append Formed (lexemes t b) (sign_of t f ∷ lexemes t c) (lexemes_formed b l) (sign_formed t lawful f between x, lexemes_formed c m)

  pub spaces : (xs : List Lexeme) (tree : Tree) → ReadsTokens t xs tree → ReadsSpaced t xs tree
  spaces xs tree r =
      let formed = subst (AllByRecursion Formed) r.tokens (lexemes_formed r.bracketed r.lawful) in
      let cut = spacing_keeps_tokens xs formed in
      record { formed = formed; cut = cut; reads = record { bytes = spaced_lawful None xs formed; reading = subst (λ (l : List Lexeme). ReadsTokens t l tree) (sym cut) r } }

pub spaced_tokens_read : SpacedTokensRead
spaced_tokens_read t lawful = spaces t lawful
