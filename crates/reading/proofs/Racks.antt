-- What a rack holds while an expression is read: the nodes put so far, as far as there is room, and else what it held
-- before. Assumes nothing.
use Rattle.std.proofs.Common.{◌≡◌, ℕ, ◌+◌, ◌<◌, ◌≤◌, Bool, true, false, cond, ltb, ◌≢◌, List, [], ◌∷◌, ◌++◌, length, get_or, set, sym, refl, ap, ◌∙◌, ⊎_elim, arith}
use Rattle.std.proofs.lemmas.List.{length-append, length_push, length-set, get_or-set_same, get_or-set_other, get_or_append_left, get_or_push}
use Rattle.std.proofs.lemmas.Bool.{cases_lt, ltb-true, ltb-false}
use Rattle.grammar.specs.Trees.{Tree}
use Rattle.grammar.specs.Trees.Tree.{name, one, two}
use Rattle.rack.specs.declared.node.Node.{Node}
use Rattle.rack.specs.Nodes.{size, function_node, nodes_of, blank, room, LiesFrom}
use Rattle.reading.specs.Outside.{SameOutside}
use Rattle.reading.specs.Yard.{stored}

pub length-nodes : (t : Tree) → length (nodes_of t) ≡ size t
length-nodes (name w) = refl
length-nodes (one f t) = length_push (nodes_of t) (function_node f (size t + 1)) ∙ ap (λ n. n + 1) (length-nodes t)
length-nodes (two f s t) =
    let node = function_node f (size s + size t + 1) in
    omega (arith, length-append (nodes_of s) (nodes_of t ++ (node ∷ [])), length_push (nodes_of t) node, length-nodes s, length-nodes t)

pub some_nodes : (t : Tree) → 1 ≤ size t
some_nodes (name w) = omega arith
some_nodes (one f t) = omega arith
some_nodes (two f s t) = omega arith

-- the same outside of some nodes, and then outside of some of these
pub same_outside : (n m : ℕ) (a b c : List Node) → n ≤ m → SameOutside n a b → SameOutside m b c → SameOutside n a c
same_outside n m a b c le p q =
    let long = p.below.long in
    record {
      below = record { long = q.below.long ∙ long; same = λ i d h. q.below.same i d (omega arith) ∙ p.below.same i d h };
      beyond = λ i d h. q.beyond i d (omega arith) ∙ p.beyond i d h;
    }

pub nothing_changed : (n : ℕ) (rack : List Node) → SameOutside n rack rack
nothing_changed n rack = record { below = record { long = refl; same = λ i d h. refl }; beyond = λ i d h. refl }

set_outside : (rack : List Node) (n : ℕ) (node : Node) → n < room rack → SameOutside n rack (set rack n node)
set_outside rack n node lt =
    record {
      below = record { long = length-set rack n node; same = λ i d h. let other : i ≢ n = omega arith in get_or-set_other rack n i node d other };
      beyond = λ i d h. let other : i ≢ n = omega arith in get_or-set_other rack n i node d other;
    }

-- the rack was `old` and is `new`; the nodes `out` were put from `mark` on, and the next goes to n
pub record Holding (old new : List Node) (mark n : ℕ) (out : List Node) : Type 0 where
  pub next : n ≡ mark + length out
  pub put : (i : ℕ) → i < length out → mark + i < room new → get_or new (mark + i) blank ≡ get_or out i blank
  pub outside : SameOutside mark old new

module _ (old : List Node) (mark : ℕ) where
  pub nothing_put : Holding old old mark mark []
  nothing_put = record { next = omega arith; put = λ i h r. absurd (omega arith); outside = nothing_changed mark old }

  module _ (rack : List Node) (n : ℕ) (out : List Node) (node : Node) (h : Holding old rack mark n out) where
    -- the node has its place
    put_here : n < room rack → Holding old (set rack n node) mark (n + 1) (out ++ (node ∷ []))
    put_here lt =
        let long = length_push out node in
        let same = length-set rack n node in
        let next = h.next in
        record {
          next = omega arith;
          put = λ i b r. ⊎_elim
              (λ before. let other : mark + i ≢ n = omega arith in get_or-set_other rack n (mark + i) node blank other ∙ h.put i before (omega arith) ∙ sym (get_or_append_left out (node ∷ []) blank i before))
              (λ after.
              let here : mark + i ≡ n = omega arith in
              let last : length out ≡ i = omega arith in
              ap (λ j. get_or (set rack n node) j blank) here ∙ get_or-set_same rack n node blank (omega arith) ∙ sym (get_or_push out node blank i last))
              (cases_lt i (length out));
          outside = same_outside mark n old rack (set rack n node) (omega arith) h.outside (set_outside rack n node lt);
        }

    -- the rack has no room for it
    put_nowhere : room rack ≤ n → Holding old rack mark (n + 1) (out ++ (node ∷ []))
    put_nowhere full =
        let long = length_push out node in
        let next = h.next in
        record {
          next = omega arith;
          put = λ i b r. let before : i < length out = omega arith in h.put i before r ∙ sym (get_or_append_left out (node ∷ []) blank i before);
          outside = h.outside;
        }

    by_test : (b : Bool) → ltb n (room rack) ≡ b → Holding old (cond b (set rack n node) rack) mark (n + 1) (out ++ (node ∷ []))
    by_test true e = put_here (ltb-true n (room rack) e)
    by_test false e = put_nowhere (ltb-false n (room rack) e)

    pub one_put : Holding old (stored rack n node) mark (n + 1) (out ++ (node ∷ []))
    one_put = by_test (ltb n (room rack)) refl

  -- a tree that was put as a whole
  pub tree_lies : (rack : List Node) (n : ℕ) (t : Tree) → Holding old rack mark n (nodes_of t) → n ≤ room old → LiesFrom rack mark t
  tree_lies rack n t h fits =
      let long = length-nodes t in
      let next = h.next in
      let as_long = h.outside.below.long in
      record { within = omega arith; nodes = λ i b. h.put i (omega arith) (omega arith) }
