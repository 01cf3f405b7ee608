-- What the tokens of a text are: its longest runs of word bytes and of symbol bytes, and each bracket by itself.
use Rattle.std.specs.Prelude.{◌≡◌, ℕ, ◌+◌, ◌<◌, Bool, true, false, cond, ◌&&◌, ◌||◌, ◌⊎◌, List, [], ◌∷◌, ◌++◌, length, Some, None, Option, ◌==◌, ◌≢◌}
use Rattle.std.specs.List.{AllByRecursion}
use Rattle.tokens.specs.declared.byte.ByteClass.{ByteClass}
use Rattle.tokens.specs.declared.byte.ByteClass.TheVariants as C
use Rattle.tokens.specs.declared.token.Token.{Token}
use Rattle.tokens.specs.declared.token.Token.TheVariants as T
use Rattle.tokens.specs.declared.token.TokenKind.{TokenKind}
use Rattle.tokens.specs.declared.token.TokenKind.TheVariants.{Word, Symbol, Open, Close}
use Rattle.tokens.specs.Bytes.{class_of}

-- a token without its place, and with it: the number of bytes before it
pub record Lexeme : Type 0 where
  pub kind : TokenKind
  pub bytes : List ℕ

pub record Placed : Type 0 where
  pub kind : TokenKind
  pub place : ℕ
  pub bytes : List ℕ

abbrev pub lexeme : Placed → Lexeme
lexeme t = record { kind = t.kind; bytes = t.bytes }

-- what a token of the code stands for
abbrev pub placed : Token → Placed
placed (T.Word p bs) = record { kind = Word; place = p; bytes = bs.now }
placed (T.Symbol p bs) = record { kind = Symbol; place = p; bytes = bs.now }
placed (T.Open p bs) = record { kind = Open; place = p; bytes = bs.now }
placed (T.Close p bs) = record { kind = Close; place = p; bytes = bs.now }

-- the kind of token that a byte of the class belongs to, if any
abbrev pub kind_in : ByteClass → Option TokenKind
kind_in C.Word = Some Word
kind_in C.Symbol = Some Symbol
kind_in C.Open = Some Open
kind_in C.Close = Some Close
kind_in C.Space = None
kind_in C.Unlawful = None

unfoldable pub kind_of : ℕ → Option TokenKind
kind_of b = kind_in (class_of b)

abbrev pub is_word : TokenKind → Bool
is_word Word = true
is_word Symbol = false
is_word Open = false
is_word Close = false

abbrev pub is_symbol : TokenKind → Bool
is_symbol Word = false
is_symbol Symbol = true
is_symbol Open = false
is_symbol Close = false

-- both are words, or both are symbols: side by side they would run together
abbrev pub together : TokenKind → TokenKind → Bool
together j k = (is_word j && is_word k) || (is_symbol j && is_symbol k)

-- The definition. A byte of kind k at place p, before the tokens ts of what follows it, belongs to
-- the first of them if that begins right after it and the two run together; else it begins one of its own.
abbrev pub joined : TokenKind → ℕ → ℕ → List Placed → List Placed
joined k p b [] = record { kind = k; place = p; bytes = b ∷ [] } ∷ []
joined k p b (t ∷ ts) =
    cond (together k t.kind && t.place == p + 1)
    (record { kind = k; place = p; bytes = b ∷ t.bytes } ∷ ts)
    (record { kind = k; place = p; bytes = b ∷ [] } ∷ t ∷ ts)

abbrev pub before : Option TokenKind → ℕ → ℕ → List Placed → List Placed
before None p b ts = ts
before (Some k) p b ts = joined k p b ts

-- the tokens of the bytes, the first of which stands at p
unfoldable pub tokens_from : ℕ → List ℕ → List Placed
tokens_from p [] = []
tokens_from p (b ∷ bs) = before (kind_of b) p b (tokens_from (p + 1) bs)

abbrev pub tokens_of : List ℕ → List Placed
tokens_of text = tokens_from 0 text

-- The same in the words of the subject.
-- a byte between tokens: a space, or a byte that no expression may have
abbrev pub Separator : ℕ → Type 0
Separator b = (class_of b ≡ C.Space) ⊎ (class_of b ≡ C.Unlawful)

-- the bytes are one token of kind k: all of that kind, and just one if it is a bracket
pub record WellFormed (k : TokenKind) (bytes : List ℕ) : Type 0 where
  pub some : 0 < length bytes
  pub alike : AllByRecursion (λ b. kind_of b ≡ Some k) bytes
  pub alone : together k k ≡ false → length bytes ≡ 1

-- a token of kind k that ends before these bytes cannot be longer
abbrev pub Longest : TokenKind → List ℕ → Type 0
Longest k [] = Unit {0}
Longest k (b ∷ bs) = kind_of b ≡ Some k → together k k ≢ true

-- The text, from place p on, is cut into the tokens: they come in order, each well formed, as long as it can be,
-- and at its place, and before, between and after them are separators only.
abbrev pub CutInto : ℕ → List ℕ → List Placed → Type 0
CutInto p text [] = AllByRecursion Separator text
CutInto p text (t ∷ ts) =
    (gap : List ℕ) × (rest : List ℕ)
    × (text ≡ gap ++ (t.bytes ++ rest)) × AllByRecursion Separator gap × (t.place ≡ p + length gap)
    × WellFormed t.kind t.bytes × Longest t.kind rest × CutInto (p + length gap + length t.bytes) rest ts

-- the tokens of a text are what it is cut into, and it is cut into nothing else
pub record Tokens (text : List ℕ) (ts : List Placed) : Type 0 where
  pub cut : CutInto 0 text ts
  pub only : (us : List Placed) → CutInto 0 text us → us ≡ ts
