-- What is answered of the shape of a tree's text.
use Rattle.std.specs.Prelude.{ℕ, ◌<◌, Result}
use Rattle.tokens.specs.declared.fault.Fault.{Fault}
use Rattle.tokens.specs.declared.fault.FaultKind.TheVariants.{TooFewValues}
use Rattle.tokens.specs.Faults.{fault}
use Rattle.tokens.specs.InOrder.{If, Refused, Accepted}
use Rattle.notation.specs.Tables.{Table}
use Rattle.grammar.specs.Trees.{Tree}
use Rattle.grammar.specs.Writing.{write}
use Rattle.rack.specs.Nodes.{size}
use Rattle.writing.specs.declared.shape.Shape.{Shape}
use Rattle.writing.specs.Shapes.{shape_of}

-- a list of n shapes may be too short for the tree; else it is the shape of what the writing rule gives the tree
abbrev pub ShapeAnswered : Table → ℕ → Tree → Result Shape Fault → Type 0
ShapeAnswered t n tree = If (n < size tree) (Refused (fault TooFewValues 0)) (Accepted (shape_of t (write t tree)))
