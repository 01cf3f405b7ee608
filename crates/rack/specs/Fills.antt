-- The fill: what the calls that change it answer.
use Rattle.std.specs.Prelude.{ℕ, ◌+◌, ◌<◌, List, Result}
use Rattle.tokens.specs.declared.fault.Fault.{Fault}
use Rattle.tokens.specs.declared.fault.FaultKind.TheVariants.{MarkAboveFill, RackFull}
use Rattle.tokens.specs.Faults.{fault}
use Rattle.tokens.specs.InOrder.{If, Refused, Accepted}
use Rattle.rack.specs.declared.node.Node.{Node}
use Rattle.rack.specs.Nodes.{room}

-- a mark above the fill is refused
abbrev pub TakesBack : ℕ → ℕ → Result (Unit {0}) Fault → Type 0
TakesBack used mark = If (used < mark) (Refused (fault MarkAboveFill 0)) (Accepted tt)

-- so are nodes for which the rack has no room beside those in use
abbrev pub Raises : List Node → ℕ → ℕ → Result (Unit {0}) Fault → Type 0
Raises rack used nodes = If (room rack < used + nodes) (Refused (fault RackFull used)) (Accepted tt)
