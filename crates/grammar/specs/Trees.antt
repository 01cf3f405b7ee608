-- Trees, and bracketed trees: a tree as a text shows it, with its pairs of brackets.
use Rattle.std.specs.Prelude.{ℕ, ◌+◌, List}

-- a name by its bytes, a function with its one operand, or a function with its two
pub data Tree : Type 0 where
  name : List ℕ → Tree
  one : ℕ → Tree → Tree
  two : ℕ → Tree → Tree → Tree

-- a name, a pair of brackets round one bracketed tree, or a function whose operator stands before its operand,
-- after it, or between two
pub data Bracketed : Type 0 where
  named : List ℕ → Bracketed
  pair : Bracketed → Bracketed
  prefixed : ℕ → Bracketed → Bracketed
  postfixed : ℕ → Bracketed → Bracketed
  infixed : ℕ → Bracketed → Bracketed → Bracketed

-- the tree, once the pairs are removed
abbrev pub erase : Bracketed → Tree
erase (named w) = name w
erase (pair b) = erase b
erase (prefixed f b) = one f (erase b)
erase (postfixed f b) = one f (erase b)
erase (infixed f a b) = two f (erase a) (erase b)

-- how many pairs there are
abbrev pub pairs : Bracketed → ℕ
pairs (named w) = 0
pairs (pair b) = 1 + pairs b
pairs (prefixed f b) = pairs b
pairs (postfixed f b) = pairs b
pairs (infixed f a b) = pairs a + pairs b
