-- The first of some nodes that cannot be written.
use Rattle.std.specs.Prelude.{◌≡◌, ℕ, ◌+◌, ◌<◌, List, length, Some, None}
use Rattle.tokens.specs.declared.fault.Fault.{Fault}
use Rattle.notation.specs.Tables.{Table}
use Rattle.rack.specs.declared.node.Node.{Node}
use Rattle.rack.specs.Racks.{item_at}
use Rattle.writing.specs.Lines.{unwritable}

-- all of the nodes can be written
abbrev pub NoneIn : Table → List Node → Type 0
NoneIn t nodes = (i : ℕ) → i < length nodes → unwritable t (item_at nodes i) ≡ None

-- the fault is that of the first that cannot, where the nodes begin at this place
pub record FirstIn (t : Table) (nodes : List Node) (start : ℕ) (f : Fault) : Type 0 where
  pub index : ℕ
  pub within : index < length nodes
  pub place : f.place ≡ start + index
  pub why : unwritable t (item_at nodes index) ≡ Some f.kind
  pub earlier : (i : ℕ) → i < index → unwritable t (item_at nodes i) ≡ None
