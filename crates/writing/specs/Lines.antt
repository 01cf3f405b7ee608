-- A line: what is refused before anything is put, and what is answered.
use Rattle.std.specs.Prelude.{◌≡◌, ℕ, ◌+◌, ◌-◌, ◌<◌, ◌≤◌, ◌⊎◌, true, cond, ◌||◌, List, length, is_some, Some, None, Option, Ok, Err, Result, ◌≢◌}
use Rattle.std.specs.List.{AllByRecursion}
use Rattle.tokens.specs.Bytes.{is_digit}
use Rattle.tokens.specs.declared.fault.Fault.{Fault}
use Rattle.tokens.specs.declared.fault.FaultKind.{FaultKind}
use Rattle.tokens.specs.declared.fault.FaultKind.TheVariants.{FunctionAbsent, NameListed, MalformedLine, TextTooLong, OutletRefused}
use Rattle.tokens.specs.Faults.{fault}
use Rattle.tokens.specs.InOrder.{If, IfSome, Refused}
use Rattle.notation.specs.declared.form.Position.TheVariants.{Before, After}
use Rattle.notation.specs.Tables.{Table, listed}
use Rattle.grammar.specs.Trees.{Tree, pairs}
use Rattle.grammar.specs.Reading.{lexemes}
use Rattle.grammar.specs.Writing.{write, written}
use Rattle.rack.specs.declared.node.Item.{Item}
use Rattle.rack.specs.declared.node.Item.TheVariants as I
use Rattle.rack.specs.declared.node.Node.{Node}
use Rattle.rack.specs.Names.{spelt}
use Rattle.rack.specs.Nodes.{size}
use Rattle.rack.specs.Racks.{item_at}
use Rattle.rack.specs.Roots.{AtTree}
use Rattle.writing.specs.Outlets.{Rule}
use Rattle.writing.specs.Puts.{line_puts, put_all}

-- the digits of a line are 1 to 8
pub record Digits (ds : List ℕ) : Type 0 where
  pub some : 1 ≤ length ds
  pub few : length ds ≤ 8
  pub each : AllByRecursion (λ b. is_digit b ≡ true) ds

-- why what stands at a node cannot be written, if it cannot: its function has no operator, or its name is listed
abbrev pub unwritable : Table → Item → Option FaultKind
unwritable t (I.Name n) = cond (is_some (listed t Before (spelt n.bytes)) || is_some (listed t After (spelt n.bytes))) (Some NameListed) None
unwritable t (I.Function f) = cond (is_some (t f)) None (Some FunctionAbsent)

-- the first such node of the tree at the root, in the order of its nodes, and why
pub record FirstUnwritable (t : Table) (rack : List Node) (root : ℕ) (tree : Tree) (f : Fault) : Type 0 where
  pub begins : root + 1 - size tree ≤ f.place
  pub up_to : f.place ≤ root
  pub why : unwritable t (item_at rack f.place) ≡ Some f.kind
  pub earlier : (i : ℕ) → root + 1 - size tree ≤ i → i < f.place → unwritable t (item_at rack i) ≡ None

-- the text that the writing rule gives the tree has more than 4,096 bytes or more than 1,024 tokens
abbrev pub TextPasses : Table → Tree → Type 0
TextPasses t tree = (4096 < length (written t tree)) ⊎ (1024 < length (lexemes t (write t tree)))

-- what is answered where the Puts of the line make this of the holding: its pairs, or that the outlet refused one of them
abbrev pub PutAnswered : {H : Type 0} → ℕ → Option H → Result ℕ Fault → Type 0
PutAnswered n (Some h) r = r ≡ Ok n
PutAnswered n None r = r ≡ Err (fault OutletRefused 0)

-- What is answered, by the first of these that applies: digits that are not 1 to 8, no such root, a node up to it that
-- breaks the rack's rules, a node of the tree that cannot be written, a text that is too long, an outlet that refuses; else
-- the pairs of the text.
module _ {H : Type 0} (rule : Rule H) (t : Table) (digits : List ℕ) (rack : List Node) (used root : ℕ) (before : H) where
  abbrev pub OfTree : Tree → Result ℕ Fault → Type 0
  OfTree tree =
      IfSome (FirstUnwritable t rack root tree) Refused
      (If (TextPasses t tree) (Refused (fault TextTooLong 0)) (PutAnswered (pairs (write t tree)) (put_all rule (line_puts t digits tree) (Some before))))

  abbrev pub LineAnswered : Result ℕ Fault → Type 0
  LineAnswered = If (Digits digits → ⊥) (Refused (fault MalformedLine 0)) (AtTree rack used root OfTree)

-- What is kept after a call: a line that came to its Puts kept the holding before them, and one that was refused before
-- them left what was kept.
abbrev pub KeptAfter : {H : Type 0} → Result ℕ Fault → H → H → H → Type 0
KeptAfter (Ok n) kept holding after = after ≡ holding
KeptAfter (Err f) kept holding after = ((f.kind ≡ OutletRefused) × (after ≡ holding)) ⊎ ((f.kind ≢ OutletRefused) × (after ≡ kept))
