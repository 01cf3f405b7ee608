-- What a tree in a rack is written with: its nodes, and the shapes of the texts of their trees.
use Rattle.std.specs.Prelude.{◌≡◌, ℕ, ◌<◌, ◌≤◌, List, length, Some, Option, slice_index_or, Result}
use Rattle.tokens.specs.declared.fault.Fault.{Fault}
use Rattle.tokens.specs.declared.token.TokenKind.{TokenKind}
use Rattle.tokens.specs.declared.token.TokenKind.TheVariants as K
use Rattle.notation.specs.Tables.{Table}
use Rattle.grammar.specs.Trees.{Tree, Bracketed}
use Rattle.grammar.specs.Reading.{lexemes}
use Rattle.grammar.specs.Writing.{write, Writable}
use Rattle.rack.specs.declared.node.Node.{Node}
use Rattle.rack.specs.Racks.{Lies, SoundBelow}
use Rattle.writing.specs.declared.shape.Shape.{Shape}
use Rattle.writing.specs.Outlets.{Rule}
use Rattle.writing.specs.Puts.{labelled, token_puts, put_all, PutsTo}
use Rattle.writing.specs.Shapes.{last_kind, shape_of}

-- The nodes obey the rules, the trees that they head can be written, and the shape of the text of each stands at its place.
pub record ToWrite (t : Table) (nodes : List Node) (shapes : List Shape) : Type 0 where
  pub sound : SoundBelow nodes (length nodes)
  pub long : length nodes ≤ length shapes
  pub writable : (i : ℕ) (tree : Tree) → i < length nodes → Lies nodes i tree → Writable t tree
  pub shaped : (i : ℕ) (tree : Tree) (d : Shape) → i < length nodes → Lies nodes i tree → slice_index_or shapes i d ≡ shape_of t (write t tree)

-- The tokens of the bracketed tree are put, after one of kind `last` if there is one; the kind of the last is answered.
abbrev pub PutsTokens : {H : Type 0} → Rule H → Table → Option TokenKind → Bracketed → H → H → Result TokenKind Fault → Type 0
PutsTokens rule t last b before after = PutsTo (last_kind K.Word (lexemes t b)) (put_all rule (token_puts last (labelled t b)) (Some before)) after
