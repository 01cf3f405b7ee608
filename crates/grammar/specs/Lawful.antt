-- Lawful bracketed trees: each operator admits the operands beside it, and each name is a name.
use Rattle.std.specs.Prelude.{◌≡◌, ℕ, ◌≤◌, List, length, Some, None}
use Rattle.tokens.specs.Tokens.{WellFormed}
use Rattle.tokens.specs.declared.token.TokenKind.TheVariants as K
use Rattle.notation.specs.declared.form.Position.TheVariants.{Before, After}
use Rattle.notation.specs.Operators.Fixity.{prefix, postfix, between}
use Rattle.notation.specs.Tables.{Table, listed}
use Rattle.grammar.specs.Trees.{Bracketed}
use Rattle.grammar.specs.Trees.Bracketed.{named, pair, prefixed, postfixed, infixed}
use Rattle.grammar.specs.Weights.{fixity_in, AdmitsLeft, AdmitsRight}

-- a name is a word of 1 to 16 bytes that is listed in neither position
pub record Name (t : Table) (w : List ℕ) : Type 0 where
  pub word : WellFormed K.Word w
  pub short : length w ≤ 16
  pub before : listed t Before w ≡ None
  pub after : listed t After w ≡ None

abbrev pub Lawful : Table → Bracketed → Type 0
Lawful t (named w) = Name t w
Lawful t (pair b) = Lawful t b
Lawful t (prefixed f b) = (fixity_in t f ≡ Some prefix) × AdmitsRight t f b × Lawful t b
Lawful t (postfixed f a) = (fixity_in t f ≡ Some postfix) × AdmitsLeft t f a × Lawful t a
Lawful t (infixed f a b) = (fixity_in t f ≡ Some between) × AdmitsLeft t f a × AdmitsRight t f b × Lawful t a × Lawful t b
