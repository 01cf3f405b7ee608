-- Reckoning: a value worked out over a tree, from its names upwards.
use Rattle.std.specs.Prelude.{◌≡◌, ℕ, ◌-◌, ◌<◌, ◌≤◌, List, [], ◌∷◌, ◌++◌, drop, Result, slice_index_or}
use Rattle.tokens.specs.declared.fault.Fault.{Fault}
use Rattle.tokens.specs.declared.fault.FaultKind.TheVariants.{TooFewValues}
use Rattle.tokens.specs.Faults.{fault}
use Rattle.tokens.specs.InOrder.{If, Refused, Accepted}
use Rattle.grammar.specs.Trees.{Tree}
use Rattle.grammar.specs.Trees.Tree.{name, one, two}
use Rattle.rack.specs.declared.node.Item.{Item}
use Rattle.rack.specs.declared.node.Item.TheVariants as I
use Rattle.rack.specs.declared.node.Node.{Node}
use Rattle.rack.specs.Names.{spelt}
use Rattle.rack.specs.Nodes.{size}
use Rattle.rack.specs.Racks.{size_at, Lies}

-- the rules: the value of a name, and of a function with the value of its one operand or those of its two
pub record Meaning (V : Type 0) : Type 0 where
  pub named : List ℕ → V
  pub single : ℕ → V → V
  pub double : ℕ → V → V → V

module _ {V : Type 0} (m : Meaning V) where
  -- the value of a tree
  abbrev pub fold : Tree → V
  fold (name w) = m.named w
  fold (one f t) = m.single f (fold t)
  fold (two f s t) = m.double f (fold s) (fold t)

  -- the values of the trees that its nodes head, in the order of the nodes
  abbrev pub values_of : Tree → List V
  values_of (name w) = fold (name w) ∷ []
  values_of (one f t) = values_of t ++ (fold (one f t) ∷ [])
  values_of (two f s t) = values_of s ++ (values_of t ++ (fold (two f s t) ∷ []))

  -- what is answered of a tree: a list of n values may be too short for it
  abbrev pub ValueOf : ℕ → Tree → Result V Fault → Type 0
  ValueOf n tree = If (n < size tree) (Refused (fault TooFewValues 0)) (Accepted (fold tree))

  -- the list begins with the values of the tree at the root, and is else as it was before
  abbrev pub Valued : List Node → ℕ → List V → List V → Type 0
  Valued rack root before after = (tree : Tree) → Lies rack root tree → after ≡ values_of tree ++ drop (size tree) before

  -- the value v of the node at i comes by the rules from its item and the values of the nodes before it
  abbrev pub ComesFrom : List Node → ℕ → Item → List V → V → Type 0
  ComesFrom nodes i (I.Name n) values v = v ≡ m.named (spelt n.bytes)
  ComesFrom nodes i (I.Function f) values v =
      (f < 32 → (d : V) → v ≡ m.single f (slice_index_or values (i - 1) d))
      × (32 ≤ f → (d : V) → v ≡ m.double f (slice_index_or values (i - 1 - size_at nodes (i - 1)) d) (slice_index_or values (i - 1) d))
