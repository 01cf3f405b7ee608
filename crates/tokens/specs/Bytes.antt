-- The bytes of an expression, by class.
use Rattle.std.specs.Prelude.{ℕ, Bool, false, cond, ◌&&◌, ◌||◌, List, [], ◌∷◌, codes, ◌==◌, nat_le}
use Rattle.tokens.specs.declared.byte.ByteClass.{ByteClass}
use Rattle.tokens.specs.declared.byte.ByteClass.TheVariants.{Word, Symbol, Open, Close, Space, Unlawful}

-- the byte is in the list
abbrev pub is_in : List ℕ → ℕ → Bool
is_in [] b = false
is_in (x ∷ xs) b = b == x || is_in xs b

abbrev pub is_digit : ℕ → Bool
is_digit b = nat_le 48 b && nat_le b 57

abbrev pub is_letter : ℕ → Bool
is_letter b = (nat_le 97 b && nat_le b 122) || (nat_le 65 b && nat_le b 90)

-- letters, digits and the underscore
abbrev pub is_word_byte : ℕ → Bool
is_word_byte b = is_letter b || is_digit b || is_in (codes "_") b

-- the twenty-two symbol bytes
abbrev pub is_symbol_byte : ℕ → Bool
is_symbol_byte b = is_in (codes "!#$%&*+,-./:;<=>?@\\^|~") b

-- a byte that is none of those below is unlawful in an expression
abbrev pub class_of : ℕ → ByteClass
class_of b =
    cond (is_word_byte b) Word
    (cond (is_symbol_byte b) Symbol (cond (is_in (codes "(") b) Open (cond (is_in (codes ")") b) Close (cond (is_in (codes " ") b) Space Unlawful))))
