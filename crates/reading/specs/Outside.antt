-- What a rack keeps while nodes are put from some place on.
use Rattle.std.specs.Prelude.{◌≡◌, ℕ, ◌≤◌, List, slice_index_or}
use Rattle.rack.specs.declared.node.Node.{Node}
use Rattle.rack.specs.Nodes.{room, SameBelow}

-- the rack is as long as it was; its first n nodes, and those past its room, are as they were
pub record SameOutside (n : ℕ) (before after : List Node) : Type 0 where
  pub below : SameBelow n before after
  pub beyond : (i : ℕ) (d : Node) → room before ≤ i → slice_index_or after i d ≡ slice_index_or before i d
