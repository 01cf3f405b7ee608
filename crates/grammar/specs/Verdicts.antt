-- Verdicts: a text reads as a tree, or it fails at a token, or it fails at its end.
use Rattle.std.specs.Prelude.{◌≡◌, ℕ, List, [], ◌∷◌, ◌++◌, map}
use Rattle.std.specs.List.{AllByRecursion}
use Rattle.tokens.specs.InOrder.{Only}
use Rattle.tokens.specs.Limits.{Lawful as LawfulByte}
use Rattle.tokens.specs.Spacing.{lexemes_of}
use Rattle.tokens.specs.Tokens.{Placed, lexeme, tokens_of}
use Rattle.notation.specs.Tables.{Table, LawfulTable}
use Rattle.grammar.specs.Trees.{Tree}
use Rattle.grammar.specs.Reading.{Reads}
use Rattle.grammar.specs.Beginnings.{Live, Dead}

-- a failing token comes with the tokens before it
pub data Verdict : Type 0 where
  reads : Tree → Verdict
  fails_at : List Placed → Placed → Verdict
  fails_at_end : Verdict

module _ (t : Table) (text : List ℕ) where
  -- some text that begins with the tokens before x reads, and none that begins with those and x
  pub record FailsAt (front : List Placed) (x : Placed) : Type 0 where
    pub rest : List Placed
    pub split : tokens_of text ≡ front ++ (x ∷ rest)
    pub live : Live t (map lexeme front)
    pub dead : Dead t (map lexeme front ++ (lexeme x ∷ []))

  -- some text that begins with all the tokens reads, but this one does not
  pub record FailsAtEnd : Type 0 where
    pub live : Live t (lexemes_of text)
    pub unread : (tree : Tree) → Reads t text tree → ⊥

  abbrev pub Holds : Verdict → Type 0
  Holds (reads tree) = Reads t text tree
  Holds (fails_at front x) = FailsAt front x
  Holds fails_at_end = FailsAtEnd

-- The law: of a text whose bytes may stand in an expression one verdict holds, and no other.
abbrev pub OneVerdict : Type 0
OneVerdict = (t : Table) → LawfulTable t → (text : List ℕ) → AllByRecursion LawfulByte text → (v : Verdict) × Only (Holds t text) v
