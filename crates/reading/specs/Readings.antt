-- What a call of Read answers and leaves.
use Rattle.std.specs.Prelude.{◌≡◌, ℕ, ◌+◌, ◌-◌, ◌<◌, List, Ok, Err, Result}
use Rattle.tokens.specs.declared.fault.Fault.{Fault}
use Rattle.tokens.specs.declared.fault.FaultKind.TheVariants.{RackFull}
use Rattle.tokens.specs.Faults.{fault}
use Rattle.tokens.specs.InOrder.{IfSome, Refused, Accepted}
use Rattle.tokens.specs.Limits.{Limits}
use Rattle.notation.specs.Tables.{Table}
use Rattle.grammar.specs.Trees.{Tree}
use Rattle.grammar.specs.Reading.{Reads}
use Rattle.grammar.specs.Refusals.{Answered}
use Rattle.rack.specs.declared.node.Node.{Node}
use Rattle.rack.specs.Nodes.{size, room, LiesFrom, SameBelow}
use Rattle.reading.specs.Outside.{SameOutside}

-- a text under a table, and a rack of which `fill` nodes are in use
module _ (t : Table) (text : List ℕ) (rack : List Node) (fill : ℕ) where
  -- the text reads as the tree, which has more nodes than are free
  pub record NoRoom (tree : Tree) : Type 0 where
    pub reads : Reads t text tree
    pub few : room rack - fill < size tree

  -- What the text comes to. The first of these that applies decides: a limit that the expression passes; that it does
  -- not read, with the fault of its verdict; that its tree has more nodes than are free. Else it is its tree.
  abbrev pub Outcome : Result Tree Fault → Type 0
  Outcome =
      IfSome (λ f. Limits text (Err f)) Refused
      (IfSome (λ f. Answered t text (Err f)) Refused
      (IfSome NoRoom (λ tree. Refused (fault RackFull fill))
      (λ r. (tree : Tree) × Reads t text tree × Accepted tree r)))

  -- a tree is put behind the nodes in use: its root, which is its last node, is answered, and the fill is raised by its size
  pub record TreeAdded (tree : Tree) (answer : Result ℕ Fault) (after : List Node) (used : ℕ) : Type 0 where
    pub root : answer ≡ Ok (fill + size tree - 1)
    pub raised : used ≡ fill + size tree
    pub lies : LiesFrom after fill tree

  -- a fault is answered, and the fill is as it was
  pub record NothingAdded (f : Fault) (answer : Result ℕ Fault) (after : List Node) (used : ℕ) : Type 0 where
    pub told : answer ≡ Err f
    pub same : used ≡ fill

  abbrev pub Leaves : Result Tree Fault → Result ℕ Fault → List Node → ℕ → Type 0
  Leaves (Ok tree) = TreeAdded tree
  Leaves (Err f) = NothingAdded f

  -- The call: what the text comes to decides the answer and what is left. The nodes that were in use are as they were.
  pub record ReadsInto (answer : Result ℕ Fault) (after : List Node) (used : ℕ) : Type 0 where
    pub outcome : Result Tree Fault
    pub comes : Outcome outcome
    pub leaves : Leaves outcome answer after used
    pub kept : SameOutside fill rack after

  -- That is the one answer, the one fill after it, and the one list of nodes in use; nodes from the new fill up are free.
  pub record OnlyReading (answer : Result ℕ Fault) (after : List Node) (used : ℕ) : Type 0 where
    pub is : ReadsInto answer after used
    pub only : (other : Result ℕ Fault) (nodes : List Node) (n : ℕ) → ReadsInto other nodes n → (other ≡ answer) × (n ≡ used) × SameBelow used after nodes
