-- The rack's rules, node by node, and the tree that lies at a node.
use Rattle.std.specs.Prelude.{◌≡◌, ℕ, ◌+◌, ◌-◌, ◌<◌, ◌≤◌, ◌⊎◌, List, get_or, slice_index_or}
use Rattle.tokens.specs.InOrder.{Only}
use Rattle.notation.specs.Tables.{Table, LawfulTable}
use Rattle.grammar.specs.Trees.{Tree}
use Rattle.grammar.specs.Trees.Tree.{name, one, two}
use Rattle.grammar.specs.Reading.{Reads}
use Rattle.rack.specs.declared.node.Item.{Item}
use Rattle.rack.specs.declared.node.Item.TheVariants as I
use Rattle.rack.specs.declared.node.Node.{Node}
use Rattle.rack.specs.Nodes.{size, name_node, function_node, blank, room, LiesFrom, SameBelow}
use Rattle.rack.specs.Names.{ShortWord, ProperName}

-- the trees that a rack can hold: names are words of 1 to 16 bytes, functions 0 to 31 have one operand, 32 to 63 two
abbrev pub ProperTree : Tree → Type 0
ProperTree (name w) = ShortWord w
ProperTree (one f t) = (f < 32) × ProperTree t
ProperTree (two f s t) = (32 ≤ f) × (f < 64) × ProperTree s × ProperTree t

module _ (rack : List Node) where
  abbrev pub item_at : ℕ → Item
  item_at i = (get_or rack i blank).item

  abbrev pub size_at : ℕ → ℕ
  size_at i = (get_or rack i blank).size

  -- the function f at i heads a tree of n nodes: its one operand's root is right before it
  pub record HasOne (i f n : ℕ) : Type 0 where
    pub function : f < 32
    pub operand : 0 < i
    pub whole : n ≡ size_at (i - 1) + 1

  -- or the root of its second operand is right before it, and that of its first right before the second's nodes
  pub record HasTwo (i f n : ℕ) : Type 0 where
    pub low : 32 ≤ f
    pub high : f < 64
    pub operands : size_at (i - 1) < i
    pub whole : n ≡ size_at (i - 1 - size_at (i - 1)) + size_at (i - 1) + 1

  -- what stands at i heads a tree of n nodes, as the nodes before it tell
  abbrev pub Heads : ℕ → Item → ℕ → Type 0
  Heads i (I.Name w) n = ProperName w × (n ≡ 1)
  Heads i (I.Function f) n = HasOne i f n ⊎ HasTwo i f n

  -- the node at i obeys the rules: it holds the size of the tree that it heads
  abbrev pub Sound : ℕ → Type 0
  Sound i = Heads i (item_at i) (size_at i)

  abbrev pub SoundBelow : ℕ → Type 0
  SoundBelow n = (i : ℕ) → i < n → Sound i

  -- the node at i is the first up to the root that breaks the rules
  pub record FirstUnsound (root i : ℕ) : Type 0 where
    pub up_to : i ≤ root
    pub broken : Sound i → ⊥
    pub earlier : SoundBelow i

  -- the tree lies in the rack with its root at i
  abbrev pub Lies : ℕ → Tree → Type 0
  Lies i (name w) = ShortWord w × (slice_index_or rack i blank ≡ name_node w)
  Lies i (one f t) = (f < 32) × (size t ≤ i) × (slice_index_or rack i blank ≡ function_node f (size t + 1)) × Lies (i - 1) t
  Lies i (two f s t) =
      (32 ≤ f) × (f < 64) × (size s + size t ≤ i) × (slice_index_or rack i blank ≡ function_node f (size s + size t + 1))
      × Lies (i - 1 - size t) s × Lies (i - 1) t

-- The laws. Where all nodes up to a root are sound, exactly one tree lies there.
abbrev pub OneTreeLies : Type 0
OneTreeLies = (rack : List Node) (root : ℕ) → SoundBelow rack (root + 1) → (tree : Tree) × Only (Lies rack root) tree

-- Its nodes are consecutive and end at the root: they are those of the tree in postorder.
pub record EndsAt (rack : List Node) (root : ℕ) (tree : Tree) : Type 0 where
  pub proper : ProperTree tree
  pub begins : size tree ≤ root + 1
  pub nodes : root < room rack → LiesFrom rack (root + 1 - size tree) tree

abbrev pub LiesConsecutively : Type 0
LiesConsecutively = (rack : List Node) (root : ℕ) (tree : Tree) → Lies rack root tree → EndsAt rack root tree

-- The other way round, a tree whose nodes were put down from a place on lies at the last of them, and they are sound
-- if those before are.
abbrev pub LiesWherePut : Type 0
LiesWherePut = (rack : List Node) (from : ℕ) (tree : Tree) → ProperTree tree → LiesFrom rack from tree → Lies rack (from + size tree - 1) tree

abbrev pub SoundWherePut : Type 0
SoundWherePut = (rack : List Node) (from : ℕ) (tree : Tree) → ProperTree tree → LiesFrom rack from tree → SoundBelow rack from → SoundBelow rack (from + size tree)

-- Nodes from n on matter neither to the soundness of those below n nor to the trees that lie there.
abbrev pub LaterNodesDoNotMatter : Type 0
LaterNodesDoNotMatter =
    (n : ℕ) (before after : List Node) → SameBelow n before after
    → (SoundBelow before n → SoundBelow after n) × ((i : ℕ) (tree : Tree) → i < n → Lies before i tree → Lies after i tree)

-- What a text reads as, a rack can hold.
abbrev pub ReadTreesAreProper : Type 0
ReadTreesAreProper = (t : Table) → LawfulTable t → (text : List ℕ) (tree : Tree) → Reads t text tree → ProperTree tree
