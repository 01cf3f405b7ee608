-- Names: what the sixteen bytes of a name say.
use Rattle.std.specs.Prelude.{◌≡◌, ℕ, ◌≤◌, cond, List, [], ◌∷◌, length, ◌==◌}
use Rattle.tokens.specs.Tokens.{WellFormed}
use Rattle.tokens.specs.declared.token.TokenKind.TheVariants as K
use Rattle.rack.specs.declared.name.Name.{Name}
use Rattle.rack.specs.Nodes.{padded}

-- a word of 1 to 16 bytes
pub record ShortWord (w : List ℕ) : Type 0 where
  pub word : WellFormed K.Word w
  pub short : length w ≤ 16

-- a name is proper if its bytes are such a word and zeros after it
abbrev pub ProperName : Name → Type 0
ProperName n = (w : List ℕ) × ShortWord w × (n.bytes ≡ padded w)

-- the bytes before the first zero
abbrev pub spelt : List ℕ → List ℕ
spelt [] = []
spelt (b ∷ bs) = cond (b == 0) [] (b ∷ spelt bs)

-- The laws: a word is spelt by the name that it makes, and a proper name is made by the word that it spells.
abbrev pub WordsAreSpelt : Type 0
WordsAreSpelt = (w : List ℕ) → ShortWord w → spelt (padded w) ≡ w

abbrev pub NamesArePadded : Type 0
NamesArePadded = (n : Name) → ProperName n → ShortWord (spelt n.bytes) × (padded (spelt n.bytes) ≡ n.bytes)
