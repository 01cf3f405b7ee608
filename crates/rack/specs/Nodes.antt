-- Nodes: how a tree lies in a rack, operands in order and the operator after them.
use Rattle.std.specs.Prelude.{◌≡◌, ℕ, ◌+◌, ◌-◌, ◌<◌, ◌≤◌, min, List, [], ◌∷◌, ◌++◌, length, replicate, slice_index_or}
use Rattle.grammar.specs.Trees.{Tree}
use Rattle.grammar.specs.Trees.Tree.{name, one, two}
use Rattle.rack.specs.declared.name.Name.{Name}
use Rattle.rack.specs.declared.node.Item.TheVariants as I
use Rattle.rack.specs.declared.node.Node.{Node}

-- a name lies as sixteen bytes, the unused ones 0
abbrev pub padded : List ℕ → List ℕ
padded w = w ++ replicate (16 - length w) 0

abbrev pub name_of : List ℕ → Name
name_of w = record { bytes = padded w }

-- the number of nodes of a tree
abbrev pub size : Tree → ℕ
size (name w) = 1
size (one f t) = size t + 1
size (two f s t) = size s + size t + 1

abbrev pub name_node : List ℕ → Node
name_node w = record { item = I.Name (name_of w); size = 1 }

-- the node of a function, the last of a tree of n nodes
abbrev pub function_node : ℕ → ℕ → Node
function_node f n = record { item = I.Function f; size = n }

-- a tree's nodes in postorder
abbrev pub nodes_of : Tree → List Node
nodes_of (name w) = name_node w ∷ []
nodes_of (one f t) = nodes_of t ++ (function_node f (size t + 1) ∷ [])
nodes_of (two f s t) = nodes_of s ++ (nodes_of t ++ (function_node f (size s + size t + 1) ∷ []))

-- what is read where a rack has no node
abbrev pub blank : Node
blank = record { item = I.Function 0; size = 0 }

-- the nodes that a rack lends: its first 4,096
abbrev pub room : List Node → ℕ
room rack = min (length rack) 4096

-- the tree's nodes are those of the rack from `from` on, all of them within its room
pub record LiesFrom (rack : List Node) (from : ℕ) (tree : Tree) : Type 0 where
  pub within : from + size tree ≤ room rack
  pub nodes : (i : ℕ) → i < size tree → slice_index_or rack (from + i) blank ≡ slice_index_or (nodes_of tree) i blank

-- the rack is as long as it was, and its first n nodes are as they were
pub record SameBelow (n : ℕ) (before after : List Node) : Type 0 where
  pub long : length after ≡ length before
  pub same : (i : ℕ) (d : Node) → i < n → slice_index_or after i d ≡ slice_index_or before i d
