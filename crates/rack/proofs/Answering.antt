-- A call on the tree at a root has one answer, and when it has which.
use Rattle.std.proofs.Common.{◌≡◌, ℕ, ◌+◌, ◌-◌, ◌<◌, List, take, drop, Ok, Err, Result, sym, ap, ◌∙◌, subst, inl, inr, ⊎_elim, arith}
use Rattle.std.proofs.lemmas.Bool.{cases_order}
use Rattle.tokens.specs.InOrder.{IfSome, Only, Refused, Accepted}
use Rattle.tokens.specs.Faults.{fault}
use Rattle.tokens.specs.declared.fault.Fault.{Fault}
use Rattle.tokens.specs.declared.fault.FaultKind.TheVariants.{NoSuchRoot, MalformedRack}
use Rattle.tokens.proofs.Firsts.{if_one, if_some_one}
use Rattle.grammar.specs.Trees.{Tree}
use Rattle.rack.specs.declared.node.Node.{Node}
use Rattle.rack.specs.Nodes.{size, nodes_of, room}
use Rattle.rack.specs.Racks.{size_at, SoundBelow, FirstUnsound, Lies}
use Rattle.rack.specs.Roots.{NoRoot, AtTree, Rooted}
use Rattle.rack.proofs.Postorder.{lies_part}
use Rattle.rack.proofs.Lying.{size_some, root_size, begins, lies_one, one_tree_lies}

module _ (rack : List Node) where
  not_before : (root i j : ℕ) → FirstUnsound rack root i → FirstUnsound rack root j → i < j → ⊥
  not_before root i j p q lt = p.broken (q.earlier i lt)

  first_unsound_one : (root i j : ℕ) → FirstUnsound rack root i → FirstUnsound rack root j → i ≡ j
  first_unsound_one root i j p q =
      ⊎_elim (λ e. e) (⊎_elim (λ lt. absurd (not_before root i j p q lt)) (λ lt. absurd (not_before root j i q p lt))) (cases_order i j)

  none_unsound : (root : ℕ) → SoundBelow rack (root + 1) → (i : ℕ) → FirstUnsound rack root i → ⊥
  none_unsound root sound i first = first.broken (sound i (omega (arith, first.up_to)))

  module _ {T : Type 0} (used root : ℕ) (rule : Tree → Result T Fault → Type 0) where
    -- an answer by the rule of the tree that lies there
    pub at_tree : (NoRoot rack used root → ⊥) → SoundBelow rack (root + 1) → (r : Result T Fault) → ((tree : Tree) → Lies rack root tree → rule tree r) → AtTree rack used root rule r
    at_tree has sound r h = let t = one_tree_lies rack root sound in inr (has, inr (none_unsound root sound, (t.0, t.1.is, h t.0 t.1.is)))

    -- no two answers are right where the rule leaves but one of each tree
    pub at_tree_one : ((tree : Tree) (r s : Result T Fault) → rule tree r → rule tree s → r ≡ s) → (r s : Result T Fault) → AtTree rack used root rule r → AtTree rack used root rule s → r ≡ s
    at_tree_one one_answer r s =
        if_one (NoRoot rack used root) (Refused (fault NoSuchRoot 0)) (IfSome (FirstUnsound rack root) (λ i. Refused (fault MalformedRack i)) (λ q. (tree : Tree) × Lies rack root tree × rule tree q)) r s (λ p q. p ∙ sym q)
        (if_some_one (FirstUnsound rack root) (λ i. Refused (fault MalformedRack i)) (λ q. (tree : Tree) × Lies rack root tree × rule tree q) r s
        (λ i j p q e f. e ∙ ap (λ n. Err (fault MalformedRack n)) (first_unsound_one root i j p q) ∙ sym f)
        (λ (t, l, p) (u, m, q). one_answer t r s p (subst (λ (x : Tree). rule x s) (lies_one rack root u t m l) q)))

    pub at_tree_only : ((tree : Tree) (r s : Result T Fault) → rule tree r → rule tree s → r ≡ s) → (r : Result T Fault) → AtTree rack used root rule r → Only (AtTree rack used root rule) r
    at_tree_only one_answer r h = record { is = h; only = λ s k. at_tree_one one_answer s r k h }

  -- the size that a root's node holds is its tree's
  pub rooted : (used root : ℕ) → root < used → root < room rack → SoundBelow rack (root + 1) → Rooted rack used root (size_at rack root)
  rooted used root in_use within sound =
      let t = one_tree_lies rack root sound in
      let n = root_size rack root t.0 t.1.is in
      record { in_use = in_use; within = within; sound = sound; tree = t.0; lies = t.1; nodes = n; some = omega (arith, size_some t.0); begins = omega (arith, begins rack root t.0 t.1.is) }

pub accepted_one : {T : Type 0} (x : T) (r s : Result T Fault) → Accepted x r → Accepted x s → r ≡ s
accepted_one x r s p q = p ∙ sym q

-- a root that is in use, with all nodes up to it sound
module _ (rack : List Node) (used root : ℕ) (in_use : root < used) (within : root < room rack) (sound : SoundBelow rack (root + 1)) where
  pub has_root : NoRoot rack used root → ⊥
  has_root out = ⊎_elim (λ h. omega arith) (λ h. omega arith) out

  pub size_only : Only (AtTree rack used root (λ tree. Accepted (size tree))) (Ok (size_at rack root))
  size_only =
      at_tree_only rack used root (λ tree. Accepted (size tree)) (λ tree r s. accepted_one (size tree) r s) (Ok (size_at rack root))
      (at_tree rack used root (λ tree. Accepted (size tree)) has_root sound (Ok (size_at rack root)) (λ tree l. ap Ok (root_size rack root tree l)))

-- a root that was not refused
module _ (rack : List Node) (used root n : ℕ) (rooted : Rooted rack used root n) where
  -- any tree there has n nodes, and they are the part of the rack that ends at the root
  pub rooted_size : (t : Tree) → Lies rack root t → n ≡ size t
  rooted_size t l = rooted.nodes ∙ ap size (sym (rooted.lies.only t l))

  pub rooted_part : (t : Tree) → Lies rack root t → take (root + 1 - (root + 1 - n)) (drop (root + 1 - n) rack) ≡ nodes_of t
  rooted_part t l =
      let s = rooted_size t l in
      let long : root + 1 - (root + 1 - n) ≡ size t = omega (arith, rooted.begins) in
      (λ j. take (long j) (drop (root + 1 - s j) rack)) ∙ lies_part rack root t l

  -- what a call answers by its rule for the tree
  pub rooted_only : {T : Type 0} (rule : Tree → Result T Fault → Type 0) → ((tree : Tree) (r s : Result T Fault) → rule tree r → rule tree s → r ≡ s) → (r : Result T Fault) → ((tree : Tree) → Lies rack root tree → rule tree r) → Only (AtTree rack used root rule) r
  rooted_only rule one_answer r h =
      at_tree_only rack used root rule one_answer r (at_tree rack used root rule (has_root rack used root rooted.in_use rooted.within rooted.sound) rooted.sound r h)

-- A call that asks another first answers from what that answered: the same refusals, and else by its own rule for the tree.
module _ {S T : Type 0} (rack : List Node) (used root : ℕ) (rule : Tree → Result S Fault → Type 0) (own : Tree → Result T Fault → Type 0) where
  pub at_changed : (r : Result S Fault) (s : Result T Fault) → ((f : Fault) → r ≡ Err f → s ≡ Err f) → ((tree : Tree) → Lies rack root tree → rule tree r → own tree s) → AtTree rack used root rule r → AtTree rack used root own s
  at_changed r s refusals answers =
      ⊎_elim
      (λ (out, is). inl (out, refusals (fault NoSuchRoot 0) is))
      (λ (has, rest).
      inr (
        has,
        ⊎_elim
            (λ (i, first, is). inl (i, first, refusals (fault MalformedRack i) is))
            (λ (sound, (tree, l, h)). inr (sound, (tree, l, answers tree l h)))
            rest,
      ))
