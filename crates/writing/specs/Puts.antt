-- The Puts of a line, and what they make of a holding.
use Rattle.std.specs.Prelude.{◌≡◌, ℕ, cond, List, [], ◌∷◌, ◌++◌, Some, None, codes, Option, Ok, Err, Result}
use Rattle.tokens.specs.declared.fault.Fault.{Fault}
use Rattle.tokens.specs.declared.fault.FaultKind.TheVariants.{OutletRefused}
use Rattle.tokens.specs.declared.token.TokenKind.{TokenKind}
use Rattle.tokens.specs.Faults.{fault}
use Rattle.tokens.specs.Tokens.{Lexeme, together}
use Rattle.notation.specs.Tables.{Table}
use Rattle.grammar.specs.Trees.{Tree, Bracketed}
use Rattle.grammar.specs.Trees.Bracketed.{named, pair, prefixed, postfixed, infixed}
use Rattle.grammar.specs.Reading.{word, opening, closing, sign_of}
use Rattle.grammar.specs.Writing.{write, written}
use Rattle.writing.specs.declared.put_kind.PutKind.{PutKind}
use Rattle.writing.specs.declared.put_kind.PutKind.TheVariants.{Margin, Tab, Name, Operator, Open, Close, Blank, LineEnd}
use Rattle.writing.specs.Outlets.{Rule}

-- what is put: bytes of a kind
pub record Put : Type 0 where
  pub kind : PutKind
  pub bytes : List ℕ

abbrev pub put : PutKind → List ℕ → Put
put k bs = record { kind = k; bytes = bs }

-- a token, and the kind of the Put that carries it
pub record Labelled : Type 0 where
  pub kind : PutKind
  pub token : Lexeme

abbrev pub label : PutKind → Lexeme → Labelled
label k x = record { kind = k; token = x }

-- the tokens of a bracketed tree, each with the kind of its Put
module _ (t : Table) where
  abbrev pub labelled : Bracketed → List Labelled
  labelled (named w) = label Name (word w) ∷ []
  labelled (pair b) = label Open opening ∷ (labelled b ++ (label Close closing ∷ []))
  labelled (prefixed f b) = label Operator (sign_of t f) ∷ labelled b
  labelled (postfixed f a) = labelled a ++ (label Operator (sign_of t f) ∷ [])
  labelled (infixed f a b) = labelled a ++ (label Operator (sign_of t f) ∷ labelled b)

-- a blank between two tokens where the spacing rule has a space, after a token of kind `last` if there is one
abbrev pub blank_between : Option TokenKind → TokenKind → List Put
blank_between None k = []
blank_between (Some j) k = cond (together j k) (put Blank (codes " ") ∷ []) []

-- tokens, each whole in one Put, with their blanks
abbrev pub token_puts : Option TokenKind → List Labelled → List Put
token_puts last [] = []
token_puts last (x ∷ xs) = blank_between last x.token.kind ++ (put x.kind x.token.bytes ∷ token_puts (Some x.token.kind) xs)

-- the Puts of a line with these digits and this tree
abbrev pub line_puts : Table → List ℕ → Tree → List Put
line_puts t digits tree =
    put Margin digits ∷ (put Tab (codes "\t") ∷ (token_puts None (labelled t (write t tree)) ++ (put LineEnd (codes "\n") ∷ [])))

-- the bytes of Puts, one after another
abbrev pub bytes_put : List Put → List ℕ
bytes_put [] = []
bytes_put (p ∷ ps) = p.bytes ++ bytes_put ps

module _ {H : Type 0} (rule : Rule H) where
  -- what the rule makes of a holding by Puts, one after another; none if it refuses one of them
  abbrev pub put_all : List Put → Option H → Option H
  put_all [] h = h
  put_all (p ∷ ps) None = None
  put_all (p ∷ ps) (Some h) = put_all ps (rule h p.kind p.bytes)

-- a call that puts: it answers x and leaves what the rule makes, or answers that the outlet refused
abbrev pub PutsTo : {H X : Type 0} → X → Option H → H → Result X Fault → Type 0
PutsTo x (Some h) after r = (r ≡ Ok x) × (after ≡ h)
PutsTo x None after r = r ≡ Err (fault OutletRefused 0)

-- The law: their bytes are the line, digits, a tab, the text that the writing rule gives the tree, and a line feed.
abbrev pub PutsAreTheLine : Type 0
PutsAreTheLine = (t : Table) (digits : List ℕ) (tree : Tree) → bytes_put (line_puts t digits tree) ≡ digits ++ (9 ∷ (written t tree ++ (10 ∷ [])))
