-- A call on the tree at a root that asks another: it answers the same refusals, and else by a rule of its own.
use Rattle.std.proofs.Common.{◌≡◌, ℕ, ◌<◌, ◌≤◌, List, Ok, Result, sym, ap, ◌∙◌, inl, inr, ⊎_elim, arith}
use Rattle.std.proofs.lemmas.Bool.{cases_lt}
use Rattle.tokens.specs.InOrder.{Only, Refused, Accepted}
use Rattle.tokens.specs.Faults.{fault}
use Rattle.tokens.specs.declared.fault.Fault.{Fault}
use Rattle.tokens.specs.declared.fault.FaultKind.TheVariants.{TooFewValues}
use Rattle.tokens.proofs.Firsts.{if_one}
use Rattle.notation.specs.Tables.{Table, LawfulTable}
use Rattle.grammar.specs.Trees.{Tree}
use Rattle.grammar.specs.Writing.{write}
use Rattle.rack.specs.declared.node.Node.{Node}
use Rattle.rack.specs.Nodes.{size, room}
use Rattle.rack.specs.Racks.{Lies}
use Rattle.rack.specs.Reckoning.{ValueOf}
use Rattle.rack.specs.Roots.{NoRoot, AtTree}
use Rattle.rack.proofs.Answering.{at_tree_only, accepted_one}
use Rattle.rack.proofs.Lying.{begins}
use Rattle.rack.proofs.Postorder.{proper_tree}
use Rattle.writing.specs.declared.shape.Shape.{Shape}
use Rattle.writing.specs.Shapes.{shapes, shape_of}
use Rattle.writing.specs.ShapeAnswers.{ShapeAnswered}
use Rattle.writing.proofs.Weighed.{weighed}

module _ (rack : List Node) (used root : ℕ) where
  pub within : (NoRoot rack used root → ⊥) → root < room rack
  within has = ⊎_elim (λ lt. lt) (λ out. absurd (has (inr out))) (cases_lt root (room rack))

  pub own_only : {T : Type 0} (rule own : Tree → Result T Fault → Type 0) (r : Result T Fault)
      → ((tree : Tree) → root < room rack → Lies rack root tree → rule tree r → own tree r)
      → ((tree : Tree) (p q : Result T Fault) → own tree p → own tree q → p ≡ q)
      → AtTree rack used root rule r → Only (AtTree rack used root own) r
  own_only rule own r answers one_answer h =
      at_tree_only rack used root own one_answer r
      (⊎_elim inl
      (λ (has, rest). inr (has, ⊎_elim inl (λ (sound, (tree, l, k)). inr (sound, (tree, l, answers tree (within has) l k))) rest))
      h)

  shape_one : (t : Table) (n : ℕ) (tree : Tree) (r s : Result Shape Fault) → ShapeAnswered t n tree r → ShapeAnswered t n tree s → r ≡ s
  shape_one t n tree r s =
      if_one (n < size tree) (Refused (fault TooFewValues 0)) (Accepted (shape_of t (write t tree))) r s
      (λ p q. p ∙ sym q) (accepted_one (shape_of t (write t tree)) r s)

  pub shape_only : (t : Table) → LawfulTable t → (n : ℕ) (r : Result Shape Fault) → AtTree rack used root (ValueOf (shapes t) n) r → Only (AtTree rack used root (ShapeAnswered t n)) r
  shape_only t lawful n r =
      own_only (ValueOf (shapes t) n) (ShapeAnswered t n) r
      (λ tree lt l h.
      let small : size tree ≤ 4096 = omega (arith, begins rack root tree l) in
      ⊎_elim inl (λ (enough, is). inr (enough, is ∙ ap Ok (weighed t lawful tree (proper_tree rack root tree l) small).0)) h)
      (shape_one t n)
