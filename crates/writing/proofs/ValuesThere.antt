-- Among the values of a tree's nodes, each is that of the part that lies at its node.
use Rattle.std.proofs.Common.{◌≡◌, ℕ, ◌+◌, ◌-◌, ◌<◌, ◌≤◌, List, slice_index_or, refl, ap, ◌∙◌, subst, ⊎_elim, arith}
use Rattle.std.proofs.lemmas.Bool.{cases_lt}
use Rattle.grammar.specs.Trees.{Tree}
use Rattle.grammar.specs.Trees.Tree.{name, one, two}
use Rattle.rack.specs.declared.node.Node.{Node}
use Rattle.rack.specs.Nodes.{size, nodes_of}
use Rattle.rack.specs.Racks.{ProperTree, Lies}
use Rattle.rack.specs.Reckoning.{Meaning, fold, values_of}
use Rattle.rack.proofs.Lying.{lies_one, size_some}
use Rattle.rack.proofs.Standing.{stand_whole}
use Rattle.rack.proofs.Valuing.{StandsFrom, value_root, operand_left, first_left, second_right, lies_alone}

module _ {V : Type 0} (m : Meaning V) (nodes : List Node) (values : List V) (j : ℕ) (d : V) (part : Tree) (there : Lies nodes j part) where
  -- the part at a tree's root is the tree
  value_last : (from i : ℕ) (t : Tree) → from + size t ≡ i + 1 → Lies nodes i t → StandsFrom m nodes values from t → i ≡ j → slice_index_or values j d ≡ fold m part
  value_last from i t at l h here =
      value_root m d values from j t (omega arith) (h d) ∙ ap (fold m) (lies_one nodes j t part (subst (λ k. Lies nodes k t) here l) there)

  -- and that at another of its nodes is a part of an operand
  value_within : (from i : ℕ) (t : Tree) → from + size t ≡ i + 1 → Lies nodes i t → StandsFrom m nodes values from t → from ≤ j → j < i + 1 → slice_index_or values j d ≡ fold m part
  value_within from i (name w) at l h low high = value_last from i (name w) at l h (omega arith)
  value_within from i (one f t) at l h low high =
      ⊎_elim
      (λ less. value_within from (i - 1) t (omega (arith, l.1, size_some t)) l.3 (operand_left m nodes values from f t h) low (omega arith))
      (λ last. value_last from i (one f t) at l h (omega arith))
      (cases_lt j i)
  value_within from i (two f s t) at l h low high =
      ⊎_elim
      (λ first. value_within from (i - 1 - size t) s (omega (arith, l.2, size_some s)) l.4 (first_left m nodes values from f s t h) low (omega (arith, l.2, size_some s)))
      (λ later.
      ⊎_elim
      (λ less. value_within (from + size s) (i - 1) t (omega (arith, l.2, size_some s)) l.5 (second_right m nodes values from (from + size s) f s t refl h) later (omega arith))
      (λ last. value_last from i (two f s t) at l h (omega arith))
      (cases_lt j i))
      (cases_lt j (from + size s))

pub value_there : {V : Type 0} (m : Meaning V) (tree part : Tree) (i : ℕ) (d : V) → ProperTree tree → i < size tree → Lies (nodes_of tree) i part → slice_index_or (values_of m tree) i d ≡ fold m part
value_there m tree part i d proper lt there =
    value_within m (nodes_of tree) (values_of m tree) i d part there 0 (size tree - 1) tree (omega (arith, size_some tree)) (lies_alone tree proper) (λ e. stand_whole e (values_of m tree)) (omega arith) (omega arith)
