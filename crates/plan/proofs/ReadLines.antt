-- What reading a line's expression answers, from what the reader promises.
use Rattle.std.proofs.Common.{◌≡◌, ℕ, ◌≤◌, List, Ok, Err, Result, subst, inl, inr, arith}
use Rattle.tokens.specs.declared.fault.Fault.{Fault}
use Rattle.tokens.specs.Limits.{Limits, WithinLimits}
use Rattle.notation.specs.Tables.{Table}
use Rattle.grammar.specs.Trees.{Tree}
use Rattle.grammar.specs.Reading.{Reads}
use Rattle.grammar.specs.Refusals.{Answered}
use Rattle.rack.specs.declared.node.Node.{Node}
use Rattle.rack.specs.Nodes.{room}
use Rattle.rack.proofs.Sizes.{no_more_nodes_than_tokens}
use Rattle.reading.specs.Readings.{Outcome, Leaves, ReadsInto, NoRoom}
use Rattle.plan.specs.Plans.{ExpressionFault}
use Rattle.plan.proofs.Unpassed.{within}

module _ (t : Table) (text : List ℕ) (rack after : List Node) (used : ℕ) (large : 4096 ≤ room rack) where
  accepted : (r : Result Tree Fault) (root : ℕ) → Outcome t text rack 0 r → Leaves t text rack 0 r (Ok root) after used → WithinLimits text × ((tree : Tree) × Reads t text tree)
  accepted (Ok tree) root (inl (f, _, is)) h = absurd cc
  accepted (Ok tree) root (inr (none, inl (f, _, is))) h = absurd cc
  accepted (Ok tree) root (inr (none, inr (_, inl (x, _, is)))) h = absurd cc
  accepted (Ok tree) root (inr (none, inr (_, inr (_, (x, reads, _))))) h = (within text none, (x, reads))
  accepted (Err f) root comes h = let e = h.told in absurd cc

  pub line_accepted : (root : ℕ) → ReadsInto t text rack 0 (Ok root) after used → WithinLimits text × ((tree : Tree) × Reads t text tree)
  line_accepted root h = accepted h.outcome root h.comes h.leaves

  -- the rack has room for every tree of a text within the limits
  no_room : (tree : Tree) → ((f : Fault) → Limits text (Err f) → ⊥) → NoRoom t text rack 0 tree → ⊥
  no_room tree none h = omega (arith, h.few, no_more_nodes_than_tokens t text tree h.reads, (within text none).tokens)

  told : (x g f : Fault) → ◌≡◌ {A = Result Tree Fault} (Err g) (Err x) → ◌≡◌ {A = Result ℕ Fault} (Err f) (Err g) → x ≡ f
  told x g f p q = let e : g ≡ x = cc in let d : f ≡ g = cc in cc

  refused : (r : Result Tree Fault) (f : Fault) → Outcome t text rack 0 r → Leaves t text rack 0 r (Err f) after used → ExpressionFault t text f
  refused (Ok tree) f comes h = let e = h.root in absurd cc
  refused (Err g) f (inl (x, limit, is)) h =
      let e : x ≡ f = told x g f is h.told in inl (subst (λ y. Limits text (Err y)) e limit)
  refused (Err g) f (inr (none, inl (x, answered, is))) h =
      let e : x ≡ f = told x g f is h.told in inr (within text none, subst (λ y. Answered t text (Err y)) e answered)
  refused (Err g) f (inr (none, inr (_, inl (x, few, is)))) h = absurd (no_room x none few)
  refused (Err g) f (inr (none, inr (_, inr (_, (x, _, is))))) h = absurd cc

  pub line_refused : (f : Fault) → ReadsInto t text rack 0 (Err f) after used → ExpressionFault t text f
  line_refused f h = refused h.outcome f h.comes h.leaves
