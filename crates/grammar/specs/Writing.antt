-- The writing rule: from the operands upward, a pair goes round an operand exactly when its weight towards the operator,
-- with the pairs already inside it, is outside the limit.
use Rattle.std.specs.Prelude.{◌≡◌, ℕ, ◌≤◌, Bool, true, false, ◌↔◌, List, Some, None, Option}
use Rattle.std.specs.List.{AllByRecursion}
use Rattle.tokens.specs.Spacing.{spaced, lexemes_of, pairs_of}
use Rattle.notation.specs.Operators.{Op, Fixity, operands_of}
use Rattle.notation.specs.Operators.Fixity.{prefix, postfix, between}
use Rattle.notation.specs.Tables.{Table, LawfulTable}
use Rattle.grammar.specs.Trees.{Tree, Bracketed, erase, pairs}
use Rattle.grammar.specs.Trees.Tree.{name, one, two}
use Rattle.grammar.specs.Trees.Bracketed.{named, pair, prefixed, postfixed, infixed}
use Rattle.grammar.specs.Weights.{fixity_in, admits_left, admits_right}
use Rattle.grammar.specs.Lawful.{Name, Lawful}
use Rattle.grammar.specs.Reading.{Formed, lexemes, Reads}

-- the operand as it stands if it is admitted, else in a pair
abbrev pub paired : Bool → Bracketed → Bracketed
paired true b = b
paired false b = pair b

module _ (t : Table) where
  abbrev pub as_left : ℕ → Bracketed → Bracketed
  as_left f a = paired (admits_left t f a) a

  abbrev pub as_right : ℕ → Bracketed → Bracketed
  as_right f b = paired (admits_right t f b) b

  -- a function with its one operand; only a prefix or a postfix operator is written so
  abbrev pub write_one : Option Fixity → ℕ → Bracketed → Bracketed
  write_one None f b = prefixed f (as_right f b)
  write_one (Some prefix) f b = prefixed f (as_right f b)
  write_one (Some postfix) f a = postfixed f (as_left f a)
  write_one (Some between) f b = prefixed f (as_right f b)

  -- the bracketed tree that is written for a tree, and its text
  abbrev pub write : Tree → Bracketed
  write (name w) = named w
  write (one f x) = write_one (fixity_in t f) f (write x)
  write (two f x y) = infixed f (as_left f (write x)) (as_right f (write y))

  abbrev pub written : Tree → List ℕ
  written tree = spaced (lexemes t (write tree))

  -- a tree can be written if each name is a name, and each function has an operator with that many operands
  pub record HasOperator (f n : ℕ) : Type 0 where
    pub op : Op
    pub has : t f ≡ Some op
    pub takes : operands_of op.form ≡ n

  abbrev pub Writable : Tree → Type 0
  Writable (name w) = Name t w
  Writable (one f x) = HasOperator f 1 × Writable x
  Writable (two f x y) = HasOperator f 2 × Writable x × Writable y

  -- n is the fewest pairs of brackets in a text that reads as the tree
  pub record Fewest (tree : Tree) (n : ℕ) : Type 0 where
    pub text : List ℕ
    pub reads : Reads t text tree
    pub pairs : pairs_of text ≡ n
    pub least : (other : List ℕ) → Reads t other tree → n ≤ pairs_of other

-- The laws, for every lawful table. What is written for a tree is lawful and erases to it; its text has the same tokens,
-- reads as the tree, and has the fewest pairs.
pub record Written (t : Table) (tree : Tree) : Type 0 where
  pub lawful : Lawful t (write t tree)
  pub erased : erase (write t tree) ≡ tree
  pub formed : AllByRecursion Formed (lexemes t (write t tree))
  pub cut : lexemes_of (written t tree) ≡ lexemes t (write t tree)
  pub reads : Reads t (written t tree) tree
  pub count : pairs_of (written t tree) ≡ pairs (write t tree)
  pub fewest : Fewest t tree (pairs (write t tree))

abbrev pub WritesFewest : Type 0
WritesFewest = (t : Table) → LawfulTable t → (tree : Tree) → Writable t tree → Written t tree

-- The fewest pairs are one number.
abbrev pub OneFewest : Type 0
OneFewest = (t : Table) (tree : Tree) (m n : ℕ) → Fewest t tree m → Fewest t tree n → m ≡ n

-- A tree can be written exactly if some text reads as it.
abbrev pub WritableIsReadable : Type 0
WritableIsReadable = (t : Table) → LawfulTable t → (tree : Tree) → Writable t tree ↔ ((text : List ℕ) × Reads t text tree)
