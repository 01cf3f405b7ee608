use Rattle.std.proofs.Common.{◌≡◌, ℕ, ◌<◌, None}
use Rattle.rack.specs.Racks.{item_at}
use Rattle.writing.specs.Lines.{unwritable}
use Rattle.writing.proofs.writable.check_writable.Given as goal

-- the nodes that were looked at can be written
abbrev pub invariant-loop-index : goal.invariant-loop-index
invariant-loop-index g l = (i : ℕ) → i < l.index → unwritable (g.N.Notation.table l.notation) (item_at l.nodes i) ≡ None
