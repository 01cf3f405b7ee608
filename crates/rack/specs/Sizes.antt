-- How large a tree can be.
use Rattle.std.specs.Prelude.{ℕ, ◌≤◌, List, length}
use Rattle.tokens.specs.Tokens.{tokens_of}
use Rattle.notation.specs.Tables.{Table}
use Rattle.grammar.specs.Trees.{Tree}
use Rattle.grammar.specs.Reading.{Reads}
use Rattle.rack.specs.Nodes.{size}

-- A tree has no more nodes than the text that reads as it has tokens.
abbrev pub NoMoreNodesThanTokens : Type 0
NoMoreNodesThanTokens = (t : Table) (text : List ℕ) (tree : Tree) → Reads t text tree → size tree ≤ length (tokens_of text)
