-- The limits of an expression as a whole.
use Rattle.std.specs.Prelude.{◌≡◌, ℕ, ◌<◌, ◌≤◌, List, length, Some, None, Option, Result}
use Rattle.std.specs.List.{AllByRecursion}
use Rattle.tokens.specs.declared.byte.ByteClass.TheVariants as C
use Rattle.tokens.specs.declared.fault.Fault.{Fault}
use Rattle.tokens.specs.declared.fault.FaultKind.TheVariants.{ExpressionTooLong, UnlawfulByte, TooManyTokens, WordTooLong}
use Rattle.tokens.specs.declared.token.TokenKind.TheVariants.{Word}
use Rattle.tokens.specs.Bytes.{class_of}
use Rattle.tokens.specs.Faults.{fault}
use Rattle.tokens.specs.InOrder.{If, IfSome, Refused, Accepted, Nth, First}
use Rattle.tokens.specs.Tokens.{Placed, tokens_of}

-- a byte that may stand in an expression
abbrev pub Unlawful : ℕ → Type 0
Unlawful b = class_of b ≡ C.Unlawful

abbrev pub Lawful : ℕ → Type 0
Lawful b = Unlawful b → ⊥

abbrev pub LongWord : Placed → Type 0
LongWord t = (t.kind ≡ Word) × (16 < length t.bytes)

-- the first unlawful byte is at p
abbrev pub FirstUnlawful : List ℕ → ℕ → Type 0
FirstUnlawful text p = (b : ℕ) × First Unlawful text p b

-- the 1,025th token is at p
abbrev pub TokenTooMany : List ℕ → ℕ → Type 0
TokenTooMany text p = (t : Placed) × Nth (tokens_of text) 1024 t × (p ≡ t.place)

-- the place of the first word of over 16 bytes among the tokens, or that there is none
abbrev pub LongWordIn : List Placed → Option ℕ → Type 0
LongWordIn ts None = AllByRecursion (λ t. LongWord t → ⊥) ts
LongWordIn ts (Some p) = (i : ℕ) × (t : Placed) × First LongWord ts i t × (p ≡ t.place)

abbrev pub FirstLongWord : List ℕ → ℕ → Type 0
FirstLongWord text p = LongWordIn (tokens_of text) (Some p)

abbrev pub TokenLimits : List ℕ → Result (Unit {0}) Fault → Type 0
TokenLimits text =
    IfSome (TokenTooMany text) (λ p. Refused (fault TooManyTokens p))
    (IfSome (FirstLongWord text) (λ p. Refused (fault WordTooLong p)) (Accepted tt))

-- The first limit that the expression passes decides: over 4,096 bytes; an unlawful byte; over 1,024 tokens;
-- a word of over 16 bytes.
abbrev pub Limits : List ℕ → Result (Unit {0}) Fault → Type 0
Limits text =
    If (4096 < length text) (Refused (fault ExpressionTooLong 4096))
    (IfSome (FirstUnlawful text) (λ p. Refused (fault UnlawfulByte p)) (TokenLimits text))

-- the expression passes none of them
pub record WithinLimits (text : List ℕ) : Type 0 where
  pub bytes : length text ≤ 4096
  pub lawful : AllByRecursion Lawful text
  pub tokens : length (tokens_of text) ≤ 1024
  pub words : LongWordIn (tokens_of text) None
