-- Calls on the tree at a root: what each of them refuses first, and what it may then rely on.
use Rattle.std.specs.Prelude.{◌≡◌, ℕ, ◌+◌, ◌<◌, ◌≤◌, ◌⊎◌, List, Result}
use Rattle.tokens.specs.declared.fault.Fault.{Fault}
use Rattle.tokens.specs.declared.fault.FaultKind.TheVariants.{NoSuchRoot, MalformedRack}
use Rattle.tokens.specs.Faults.{fault}
use Rattle.tokens.specs.InOrder.{If, IfSome, Only, Refused}
use Rattle.grammar.specs.Trees.{Tree}
use Rattle.rack.specs.declared.node.Node.{Node}
use Rattle.rack.specs.Nodes.{size, room}
use Rattle.rack.specs.Racks.{SoundBelow, FirstUnsound, Lies}

module _ (rack : List Node) where
  -- the root is not among the nodes in use, or past the rack's room
  abbrev pub NoRoot : ℕ → ℕ → Type 0
  NoRoot used root = (used ≤ root) ⊎ (room rack ≤ root)

  -- What is answered: first that there is no such root, then the first node up to the root that breaks the rules, and
  -- else what `rule` says of the tree that lies there.
  abbrev pub AtTree : {T : Type 0} → ℕ → ℕ → (Tree → Result T Fault → Type 0) → Result T Fault → Type 0
  AtTree used root rule =
      If (NoRoot used root) (Refused (fault NoSuchRoot 0))
      (IfSome (FirstUnsound rack root) (λ i. Refused (fault MalformedRack i)) (λ r. (tree : Tree) × Lies rack root tree × rule tree r))

  -- what holds where neither is refused: one tree lies at the root, and has n nodes
  pub record Rooted (used root n : ℕ) : Type 0 where
    pub in_use : root < used
    pub within : root < room rack
    pub sound : SoundBelow rack (root + 1)
    pub tree : Tree
    pub lies : Only (Lies rack root) tree
    pub nodes : n ≡ size tree
    pub some : 0 < n
    pub begins : n ≤ root + 1
