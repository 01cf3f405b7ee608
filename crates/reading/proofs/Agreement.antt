-- Two calls of Read with the same arguments answer the same and leave the same.
use Rattle.std.proofs.Common.{◌≡◌, ℕ, ◌+◌, ◌-◌, ◌<◌, List, length, get_or, Ok, Err, Result, sym, ap, ◌∙◌, subst, ⊎_elim, arith}
use Rattle.std.proofs.lemmas.List.{get_or_default}
use Rattle.std.proofs.lemmas.Bool.{cases_lt}
use Rattle.tokens.specs.declared.fault.Fault.{Fault}
use Rattle.tokens.specs.declared.fault.FaultKind.TheVariants.{RackFull}
use Rattle.tokens.specs.Faults.{fault}
use Rattle.tokens.specs.InOrder.{IfSome, Refused, Accepted}
use Rattle.tokens.specs.Limits.{Limits}
use Rattle.tokens.proofs.Checks.{limits_one}
use Rattle.tokens.proofs.Firsts.{if_some_one}
use Rattle.notation.specs.Tables.{Table, LawfulTable}
use Rattle.grammar.specs.Trees.{Tree}
use Rattle.grammar.specs.Reading.{Reads}
use Rattle.grammar.specs.Refusals.{answer, Answered}
use Rattle.grammar.proofs.Uniqueness.{at_most_one_tree}
use Rattle.grammar.proofs.Verdicts.{one_verdict_at_most}
use Rattle.rack.specs.declared.node.Node.{Node}
use Rattle.rack.specs.Nodes.{size, blank, LiesFrom, SameBelow}
use Rattle.reading.specs.Outside.{SameOutside}
use Rattle.reading.specs.Readings.{NoRoom, Outcome, Leaves, ReadsInto, OnlyReading}

module _ (t : Table) (lawful : LawfulTable t) (text : List ℕ) (rack : List Node) (fill : ℕ) where
  -- a text comes to one thing
  one_limit : (f g : Fault) → Limits text (Err f) → Limits text (Err g) → f ≡ g
  one_limit f g p q = let same = limits_one text (Err f) (Err g) p q in cc

  one_fault : (f g : Fault) → Answered t text (Err f) → Answered t text (Err g) → f ≡ g
  one_fault f g (v, h, e) (w, k, d) = let same = ap (answer t text) (one_verdict_at_most t lawful text v w h k) in cc

  one_outcome : (r s : Result Tree Fault) → Outcome t text rack fill r → Outcome t text rack fill s → r ≡ s
  one_outcome r s =
      let accepted : Result Tree Fault → Type 0 = λ v. (tree : Tree) × Reads t text tree × Accepted tree v in
      let roomy : Result Tree Fault → Type 0 = IfSome (NoRoom t text rack fill) (λ tree. Refused (fault RackFull fill)) accepted in
      if_some_one (λ f. Limits text (Err f)) Refused (IfSome (λ f. Answered t text (Err f)) Refused roomy) r s
      (λ f g p q e d. e ∙ ap Err (one_limit f g p q) ∙ sym d)
      (if_some_one (λ f. Answered t text (Err f)) Refused roomy r s
      (λ f g p q e d. e ∙ ap Err (one_fault f g p q) ∙ sym d)
      (if_some_one (NoRoom t text rack fill) (λ tree. Refused (fault RackFull fill)) accepted r s
      (λ x y p q e d. e ∙ sym d)
      (λ (x, p, e) (y, q, d). e ∙ ap Ok (at_most_one_tree t lawful text x y p q) ∙ sym d)))

  -- the nodes in use after a tree was put are one list
  both_long : (a b : List Node) → SameOutside fill rack a → SameOutside fill rack b → length b ≡ length a
  both_long a b p q = q.below.long ∙ sym p.below.long

  node_of : (tree : Tree) (a b : List Node) → LiesFrom a fill tree → LiesFrom b fill tree → (j : ℕ) (d : Node) → j < size tree → get_or b (fill + j) d ≡ get_or a (fill + j) d
  node_of tree a b p q j d h =
      let in-a = p.within in
      let in_b = q.within in
      get_or_default b (fill + j) d blank (omega arith) ∙ q.nodes j h ∙ sym (p.nodes j h) ∙ get_or_default a (fill + j) blank d (omega arith)

  same_nodes : (tree : Tree) (a b : List Node) → LiesFrom a fill tree → LiesFrom b fill tree → SameOutside fill rack a → SameOutside fill rack b → SameBelow (fill + size tree) a b
  same_nodes tree a b p q h k =
      record {
        long = both_long a b h k;
        same = λ i d lt. ⊎_elim (λ below. k.below.same i d below ∙ sym (h.below.same i d below))
            (λ above. let at : fill + (i - fill) ≡ i = omega arith in subst (λ m. get_or b m d ≡ get_or a m d) at (node_of tree a b p q (i - fill) d (omega arith))) (cases_lt i fill);
      }

  left_same : (o : Result Tree Fault) (r s : Result ℕ Fault) (a b : List Node) (m n : ℕ) → Leaves t text rack fill o r a m → Leaves t text rack fill o s b n → SameOutside fill rack a → SameOutside fill rack b → (s ≡ r) × (n ≡ m) × SameBelow m a b
  left_same (Ok tree) r s a b m n p q h k =
      (q.root ∙ sym p.root, q.raised ∙ sym p.raised, subst (λ j. SameBelow j a b) (sym p.raised) (same_nodes tree a b p.lies q.lies h k))
  left_same (Err f) r s a b m n p q h k =
      (q.told ∙ sym p.told, q.same ∙ sym p.same, subst (λ j. SameBelow j a b) (sym p.same) (record { long = both_long a b h k; same = λ i d lt. k.below.same i d lt ∙ sym (h.below.same i d lt) }))

  pub only_reading : (r : Result ℕ Fault) (a : List Node) (m : ℕ) → ReadsInto t text rack fill r a m → OnlyReading t text rack fill r a m
  only_reading r a m p =
      record {
        is = p;
        only = λ s b n q.
            let same = one_outcome q.outcome p.outcome q.comes p.comes in
            left_same p.outcome r s a b m n p.leaves (subst (λ (o : Result Tree Fault). Leaves t text rack fill o s b n) same q.leaves) p.kept q.kept;
      }
