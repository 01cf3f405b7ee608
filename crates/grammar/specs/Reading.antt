-- Reading: a text reads as a tree if some lawful bracketed tree has exactly its tokens and erases to the tree.
use Rattle.std.specs.Prelude.{◌≡◌, ℕ, cond, List, [], ◌∷◌, ◌++◌, codes}
use Rattle.std.specs.List.{AllByRecursion}
use Rattle.tokens.specs.declared.token.TokenKind.{TokenKind}
use Rattle.tokens.specs.declared.token.TokenKind.TheVariants.{Word, Symbol, Open, Close}
use Rattle.tokens.specs.Bytes.{is_word_byte}
use Rattle.tokens.specs.Limits.{Lawful as LawfulByte}
use Rattle.tokens.specs.Spacing.{spaced, lexemes_of}
use Rattle.tokens.specs.Tokens.{Lexeme, WellFormed}
use Rattle.notation.specs.Tables.{Table, LawfulTable}
use Rattle.grammar.specs.Trees.{Tree, Bracketed, erase}
use Rattle.grammar.specs.Trees.Bracketed.{named, pair, prefixed, postfixed, infixed}
use Rattle.grammar.specs.Weights.{operator_in}
use Rattle.grammar.specs.Lawful.{Lawful}

-- the tokens of names, brackets and operators; a spelling is a word if it begins with a word byte, else a symbol
abbrev pub word : List ℕ → Lexeme
word w = record { kind = Word; bytes = w }

abbrev pub opening : Lexeme
opening = record { kind = Open; bytes = codes "(" }

abbrev pub closing : Lexeme
closing = record { kind = Close; bytes = codes ")" }

unfoldable pub kind_of_spelling : List ℕ → TokenKind
kind_of_spelling [] = Symbol
kind_of_spelling (b ∷ bs) = cond (is_word_byte b) Word Symbol

abbrev pub sign : List ℕ → Lexeme
sign s = record { kind = kind_of_spelling s; bytes = s }

-- the token is well formed: it is its own one token where it is cut
abbrev pub Formed : Lexeme → Type 0
Formed x = WellFormed x.kind x.bytes

module _ (t : Table) where
  abbrev pub sign_of : ℕ → Lexeme
  sign_of f = sign (operator_in t f).spelling

  -- the tokens of a bracketed tree, in order
  abbrev pub lexemes : Bracketed → List Lexeme
  lexemes (named w) = word w ∷ []
  lexemes (pair b) = opening ∷ (lexemes b ++ (closing ∷ []))
  lexemes (prefixed f b) = sign_of f ∷ lexemes b
  lexemes (postfixed f a) = lexemes a ++ (sign_of f ∷ [])
  lexemes (infixed f a b) = lexemes a ++ (sign_of f ∷ lexemes b)

  -- the tokens read as the tree
  pub record ReadsTokens (ts : List Lexeme) (tree : Tree) : Type 0 where
    pub bracketed : Bracketed
    pub lawful : Lawful t bracketed
    pub tokens : lexemes bracketed ≡ ts
    pub erased : erase bracketed ≡ tree

  -- the text reads as the tree: its bytes may stand in an expression, and its tokens read as the tree
  pub record Reads (text : List ℕ) (tree : Tree) : Type 0 where
    pub bytes : AllByRecursion LawfulByte text
    pub reading : ReadsTokens (lexemes_of text) tree

-- The laws, for every lawful table: a list of tokens has at most one lawful bracketed tree, so a text reads as at
-- most one tree.
abbrev pub AtMostOneBracketedTree : Type 0
AtMostOneBracketedTree = (t : Table) → LawfulTable t → (a b : Bracketed) → Lawful t a → Lawful t b → lexemes t a ≡ lexemes t b → a ≡ b

abbrev pub AtMostOneTree : Type 0
AtMostOneTree = (t : Table) → LawfulTable t → (text : List ℕ) (x y : Tree) → Reads t text x → Reads t text y → x ≡ y

-- Tokens that read are those of a text that reads: they are well formed, and their spaced text has them and reads.
pub record ReadsSpaced (t : Table) (xs : List Lexeme) (tree : Tree) : Type 0 where
  pub formed : AllByRecursion Formed xs
  pub cut : lexemes_of (spaced xs) ≡ xs
  pub reads : Reads t (spaced xs) tree

abbrev pub SpacedTokensRead : Type 0
SpacedTokensRead = (t : Table) → LawfulTable t → (xs : List Lexeme) (tree : Tree) → ReadsTokens t xs tree → ReadsSpaced t xs tree
