-- Beginnings: which lists of tokens begin a text that reads, and which begin none.
use Rattle.std.specs.Prelude.{◌≡◌, ℕ, ◌↔◌, List, ◌++◌, ◌≢◌}
use Rattle.std.specs.List.{AllByRecursion}
use Rattle.tokens.specs.Spacing.{lexemes_of}
use Rattle.tokens.specs.Tokens.{Lexeme}
use Rattle.notation.specs.Tables.{Table, LawfulTable}
use Rattle.grammar.specs.Trees.{Tree}
use Rattle.grammar.specs.Reading.{Formed, ReadsTokens, Reads}
use Rattle.grammar.specs.Machine.{start, run}
use Rattle.grammar.specs.Machine.State.{refused}

module _ (t : Table) where
  -- some tokens that begin so read
  pub record LiveTokens (front : List Lexeme) : Type 0 where
    pub more : List Lexeme
    pub tree : Tree
    pub reads : ReadsTokens t (front ++ more) tree

  -- some text whose tokens begin so reads
  pub record Live (front : List Lexeme) : Type 0 where
    pub text : List ℕ
    pub more : List Lexeme
    pub tree : Tree
    pub begins : lexemes_of text ≡ front ++ more
    pub reads : Reads t text tree

  -- no text whose tokens begin so reads
  abbrev pub Dead : List Lexeme → Type 0
  Dead front = Live front → ⊥

-- The laws, for every lawful table. A beginning is live among texts exactly if it is among lists of tokens.
abbrev pub TextsLiveAsTokens : Type 0
TextsLiveAsTokens = (t : Table) → LawfulTable t → (front : List Lexeme) → Live t front ↔ LiveTokens t front

-- What the machine refuses is dead, and what it does not refuse, of well-formed tokens, is live.
abbrev pub RefusedIsDead : Type 0
RefusedIsDead = (t : Table) → LawfulTable t → (front : List Lexeme) → run t start front ≡ refused → Dead t front

abbrev pub UnrefusedIsLive : Type 0
UnrefusedIsLive = (t : Table) → LawfulTable t → (front : List Lexeme) → AllByRecursion Formed front → (run t start front ≢ refused) → Live t front
