-- The nodes of a tree that lies in a rack are consecutive.
use Rattle.std.proofs.Common.{◌≡◌, ℕ, ◌+◌, ◌-◌, List, [], ◌∷◌, ◌++◌, length, take, drop, refl, ap, ◌∙◌, arith}
use Rattle.std.proofs.lemmas.List.{length-append, length_push, take_at}
use Rattle.std.proofs.lemmas.List.Prefix.{at_from_reads}
use Rattle.grammar.specs.Trees.{Tree}
use Rattle.grammar.specs.Trees.Tree.{name, one, two}
use Rattle.rack.specs.declared.node.Node.{Node}
use Rattle.rack.specs.Nodes.{size, name_node, function_node, nodes_of, blank, LiesFrom}
use Rattle.rack.specs.Racks.{ProperTree, Lies, EndsAt}
use Rattle.rack.proofs.Lying.{size_some, begins, inside}
use Rattle.rack.proofs.Standing.{Stand, stand_join, stand_left, stand_right, stand_one, one_stands}

pub nodes_long : (t : Tree) → length (nodes_of t) ≡ size t
nodes_long (name w) = refl
nodes_long (one f t) = length_push (nodes_of t) (function_node f (size t + 1)) ∙ ap (λ n. n + 1) (nodes_long t)
nodes_long (two f s t) =
    omega (arith, length-append (nodes_of s) (nodes_of t ++ (function_node f (size s + size t + 1) ∷ [])), length_push (nodes_of t) (function_node f (size s + size t + 1)), nodes_long s, nodes_long t)

module _ (rack : List Node) where
  pub lies_stand : (from i : ℕ) (t : Tree) → from + size t ≡ i + 1 → Lies rack i t → Stand blank rack from (nodes_of t)
  lies_stand from i (name w) at (short, is) = stand_one blank rack from i (name_node w) (omega arith) is
  lies_stand from i (one f t) at (f<, fits, is, l) =
      let n = nodes_long t in
      stand_join blank rack from (nodes_of t) (function_node f (size t + 1) ∷ [])
      (lies_stand from (i - 1) t (omega (arith, size_some t)) l)
      (stand_one blank rack (from + length (nodes_of t)) i (function_node f (size t + 1)) (omega arith) is)
  lies_stand from i (two f s t) at (f≥, f<, fits, is, l, m) =
      let n = nodes_long s in
      let k = nodes_long t in
      let root = function_node f (size s + size t + 1) in
      stand_join blank rack from (nodes_of s) (nodes_of t ++ (root ∷ []))
      (lies_stand from (i - 1 - size t) s (omega (arith, size_some s)) l)
      (stand_join blank rack (from + length (nodes_of s)) (nodes_of t) (root ∷ [])
      (lies_stand (from + length (nodes_of s)) (i - 1) t (omega (arith, size_some t)) m)
      (stand_one blank rack (from + length (nodes_of s) + length (nodes_of t)) i root (omega arith) is))

  pub stand_lies : (from i : ℕ) (t : Tree) → from + size t ≡ i + 1 → ProperTree t → Stand blank rack from (nodes_of t) → Lies rack i t
  stand_lies from i (name w) at short h = (short, one_stands blank rack from i (name_node w) (omega arith) h)
  stand_lies from i (one f t) at (f<, proper) h =
      let n = nodes_long t in
      let root = function_node f (size t + 1) in (
        f<,
        omega arith,
        one_stands blank rack (from + length (nodes_of t)) i root (omega arith) (stand_right blank rack from (nodes_of t) (root ∷ []) h),
        stand_lies from (i - 1) t (omega (arith, size_some t)) proper (stand_left blank rack from (nodes_of t) (root ∷ []) h),
      )
  stand_lies from i (two f s t) at (f≥, f<, p, q) h =
      let n = nodes_long s in
      let k = nodes_long t in
      let root = function_node f (size s + size t + 1) in
      let rest = stand_right blank rack from (nodes_of s) (nodes_of t ++ (root ∷ [])) h in
      let later = from + length (nodes_of s) in (
        f≥,
        f<,
        omega arith,
        one_stands blank rack (later + length (nodes_of t)) i root (omega arith) (stand_right blank rack later (nodes_of t) (root ∷ []) rest),
        stand_lies from (i - 1 - size t) s (omega (arith, size_some s)) p (stand_left blank rack from (nodes_of s) (nodes_of t ++ (root ∷ [])) h),
        stand_lies later (i - 1) t (omega (arith, size_some t)) q (stand_left blank rack later (nodes_of t) (root ∷ []) rest),
      )

  pub proper_tree : (i : ℕ) (t : Tree) → Lies rack i t → ProperTree t
  proper_tree i (name w) l = l.0
  proper_tree i (one f t) l = (l.0, proper_tree (i - 1) t l.3)
  proper_tree i (two f s t) l = (l.0, l.1, proper_tree (i - 1 - size t) s l.4, proper_tree (i - 1) t l.5)

pub lies_consecutively : (rack : List Node) (root : ℕ) (tree : Tree) → Lies rack root tree → EndsAt rack root tree
lies_consecutively rack root tree l =
    let few = begins rack root tree l in
    let from = root + 1 - size tree in
    record {
      proper = proper_tree rack root tree l;
      begins = few;
      nodes = λ lt. record { within = omega arith; nodes = λ i less. lies_stand rack from root tree (omega arith) l i (omega (arith, nodes_long tree)) };
    }

pub lies_where_put : (rack : List Node) (from : ℕ) (tree : Tree) → ProperTree tree → LiesFrom rack from tree → Lies rack (from + size tree - 1) tree
lies_where_put rack from tree proper put =
    stand_lies rack from (from + size tree - 1) tree (omega (arith, size_some tree)) proper (λ k lt. put.nodes k (omega (arith, nodes_long tree)))

-- the part of the rack that ends at the root is the list of the tree's nodes
pub lies_part : (rack : List Node) (root : ℕ) (tree : Tree) → Lies rack root tree → take (size tree) (drop (root + 1 - size tree) rack) ≡ nodes_of tree
lies_part rack root tree l =
    let few = begins rack root tree l in
    let long = nodes_long tree in
    let from = root + 1 - size tree in
    ap (take (size tree)) (at_from_reads blank rack (nodes_of tree) from (omega (arith, inside rack root tree l)) (lies_stand rack from root tree (omega arith) l))
    ∙ take_at (nodes_of tree) (drop (from + length (nodes_of tree)) rack) (size tree) long
