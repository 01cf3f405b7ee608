-- What a line says: function, priority, type and spelling, parted by single spaces.
use Rattle.std.specs.Prelude.{◌≡◌, ℕ, ◌+◌, ◌-◌, ◌*◌, ◌^◌, ◌≤◌, true, List, [], ◌∷◌, ◌++◌, length, codes, ◌≢◌, Result, MatchResult}
use Rattle.std.specs.List.{AllByRecursion}
use denote.Ref.{Bor}
use Rattle.tokens.specs.declared.fault.FaultKind.{FaultKind}
use Rattle.tokens.specs.declared.fault.FaultKind.TheVariants.{UnknownType}
use Rattle.tokens.specs.Bytes.{is_digit}
use Rattle.notation.specs.declared.form.Form.{Form}
use Rattle.notation.specs.declared.form.Form.TheVariants.{Fx, Fy, Xf, Yf, Xfx, Xfy, Yfx}
use Rattle.notation.specs.Operators.{Op}

-- a field has some bytes, and no space, byte 32, among them
pub record Field (bytes : List ℕ) : Type 0 where
  pub some : 1 ≤ length bytes
  pub spaceless : AllByRecursion (λ b. b ≢ 32) bytes

-- the four fields of a line
pub record Fields : Type 0 where
  pub function : List ℕ
  pub priority : List ℕ
  pub word : List ℕ
  pub spelling : List ℕ

pub record Parted (line : List ℕ) (x : Fields) : Type 0 where
  pub whole : line ≡ x.function ++ (32 ∷ (x.priority ++ (32 ∷ (x.word ++ (32 ∷ x.spelling)))))
  pub function : Field x.function
  pub priority : Field x.priority
  pub word : Field x.word
  pub spelling : Field x.spelling

-- the value of decimal digits, 48 being the byte of the digit 0
abbrev pub decimal : List ℕ → ℕ
decimal [] = 0
decimal (d ∷ ds) = (d - 48) * 10 ^ length ds + decimal ds

-- a number has one to four digits
pub record Number (digits : List ℕ) (n : ℕ) : Type 0 where
  pub some : 1 ≤ length digits
  pub few : length digits ≤ 4
  pub each : AllByRecursion (λ b. is_digit b ≡ true) digits
  pub value : n ≡ decimal digits

-- What a line says: two numbers, and the other two fields as they stand.
pub record Said : Type 0 where
  pub function : ℕ
  pub priority : ℕ
  pub word : List ℕ
  pub spelling : List ℕ

pub record Says (line : List ℕ) (d : Said) : Type 0 where
  pub fields : Fields
  pub parted : Parted line fields
  pub function : Number fields.function d.function
  pub priority : Number fields.priority d.priority
  pub word : d.word ≡ fields.word
  pub spelling : d.spelling ≡ fields.spelling

-- the word of each type
abbrev pub word_of : Form → List ℕ
word_of Fx = codes "fx"
word_of Fy = codes "fy"
word_of Xf = codes "xf"
word_of Yf = codes "yf"
word_of Xfx = codes "xfx"
word_of Xfy = codes "xfy"
word_of Yfx = codes "yfx"

-- the result is the type that the word names, or the refusal of a word that names none
abbrev pub Names : Bor (List ℕ) → Result Form FaultKind → Type 0
Names word r = MatchResult r (λ m. word.now ≡ word_of m) (λ e. (e ≡ UnknownType) × ((m : Form) → word.now ≢ word_of m))

-- the operator that a line declares, its word being that of the type
abbrev pub said_op : Said → Form → Op
said_op d m = record { priority = d.priority; form = m; spelling = d.spelling }
