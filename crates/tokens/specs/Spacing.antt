-- The spacing rule: one space stands between two tokens exactly when both are words or both are symbols.
use Rattle.std.specs.Prelude.{◌≡◌, ℕ, ◌+◌, cond, List, [], ◌∷◌, ◌++◌, map, Some, None, codes, Option}
use Rattle.std.specs.List.{AllByRecursion}
use Rattle.tokens.specs.declared.token.TokenKind.{TokenKind}
use Rattle.tokens.specs.declared.token.TokenKind.TheVariants.{Word, Symbol, Open, Close}
use Rattle.tokens.specs.Tokens.{Lexeme, lexeme, tokens_of, together, WellFormed}

-- what stands between a token, if there is one before, and the next
abbrev pub between : Option TokenKind → TokenKind → List ℕ
between None k = []
between (Some j) k = cond (together j k) (codes " ") []

-- the tokens with their spaces, after a token of kind `last` if there is one
abbrev pub spaced_after : Option TokenKind → List Lexeme → List ℕ
spaced_after last [] = []
spaced_after last (t ∷ ts) = between last t.kind ++ (t.bytes ++ spaced_after (Some t.kind) ts)

abbrev pub spaced : List Lexeme → List ℕ
spaced ts = spaced_after None ts

-- the tokens of a text without their places, and the text that has them by the spacing rule
abbrev pub lexemes_of : List ℕ → List Lexeme
lexemes_of text = map lexeme (tokens_of text)

abbrev pub respaced : List ℕ → List ℕ
respaced text = spaced (lexemes_of text)

-- The law: cutting the spaced text of well-formed tokens gives those tokens back.
abbrev pub SpacingKeepsTokens : Type 0
SpacingKeepsTokens = (ts : List Lexeme) → AllByRecursion (λ t. WellFormed t.kind t.bytes) ts → lexemes_of (spaced ts) ≡ ts

-- the pairs of brackets of a text: its closing brackets
abbrev pub closes : TokenKind → ℕ
closes Word = 0
closes Symbol = 0
closes Open = 0
closes Close = 1

abbrev pub pairs_among : List Lexeme → ℕ
pairs_among [] = 0
pairs_among (t ∷ ts) = closes t.kind + pairs_among ts

abbrev pub pairs_of : List ℕ → ℕ
pairs_of text = pairs_among (lexemes_of text)
