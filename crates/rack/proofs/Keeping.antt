-- Sound nodes stay sound: a tree's nodes are, and what comes later does not matter.
use Rattle.std.proofs.Common.{◌≡◌, ℕ, ◌+◌, ◌-◌, ◌<◌, true, not, eqb, List, length, get_or, take, Some, None, Option, MatchOption, sym, refl, ap, ◌∙◌, subst, inl, inr, ⊎_elim, arith}
use Rattle.std.specs.Option.{option_eq}
use Rattle.std.proofs.lemmas.Bool.{cases_lt}
use Rattle.std.proofs.lemmas.Bool.Decides.{nat_tests}
use Rattle.std.proofs.lemmas.List.{get_or-take, length-take, length-take-le}
use Rattle.grammar.specs.Trees.{Tree}
use Rattle.grammar.specs.Trees.Tree.{name, one, two}
use Rattle.rack.specs.declared.node.Item.{Item}
use Rattle.rack.specs.declared.node.Item.TheVariants as I
use Rattle.rack.specs.declared.node.Node.{Node}
use Rattle.rack.specs.Nodes.{size, blank, LiesFrom, SameBelow}
use Rattle.rack.specs.Racks.{ProperTree, item_at, size_at, Heads, Sound, SoundBelow, Lies}
use Rattle.rack.proofs.Lying.{size_some, root_size, name_item, one_item, two_item}
use Rattle.rack.proofs.Postorder.{lies_where_put}

module _ (rack : List Node) where
  -- the root of a tree is sound, and so are the roots of its operands
  root_sound : (i : ℕ) (t : Tree) → Lies rack i t → Sound rack i
  root_sound i (name w) l = subst (λ (x : Item). Heads rack i x (size_at rack i)) (sym (name_item rack i w l)) ((w, l.0, refl), root_size rack i (name w) l)
  root_sound i (one f t) l =
      let n = root_size rack (i - 1) t l.3 in
      let k = root_size rack i (one f t) l in
      subst (λ (x : Item). Heads rack i x (size_at rack i)) (sym (one_item rack i f t l)) (inl (record { function = l.0; operand = omega (arith, size_some t, l.1); whole = omega arith }))
  root_sound i (two f s t) l =
      let n = root_size rack (i - 1) t l.5 in
      let m : size_at rack (i - 1 - size_at rack (i - 1)) ≡ size s = ap (λ j. size_at rack (i - 1 - j)) n ∙ root_size rack (i - 1 - size t) s l.4 in
      let k = root_size rack i (two f s t) l in
      subst (λ (x : Item). Heads rack i x (size_at rack i)) (sym (two_item rack i f s t l)) (inr (record { low = l.0; high = l.1; operands = omega (arith, size_some s, l.2); whole = omega arith }))

  pub tree_sound : (i : ℕ) (t : Tree) → Lies rack i t → (j : ℕ) → i < j + size t → j < i + 1 → Sound rack j
  tree_sound i (name w) l j from to = let at : i ≡ j = omega arith in subst (Sound rack) at (root_sound i (name w) l)
  tree_sound i (one f t) l j from to =
      ⊎_elim
      (λ less. tree_sound (i - 1) t l.3 j (omega (arith, l.1)) (omega arith))
      (λ last. let at : i ≡ j = omega arith in subst (Sound rack) at (root_sound i (one f t) l))
      (cases_lt j i)
  tree_sound i (two f s t) l j from to =
      ⊎_elim
      (λ first. tree_sound (i - 1 - size t) s l.4 j (omega (arith, l.2, size_some s)) (omega arith))
      (λ later.
      ⊎_elim
      (λ less. tree_sound (i - 1) t l.5 j (omega (arith, l.2)) (omega arith))
      (λ last. let at : i ≡ j = omega arith in subst (Sound rack) at (root_sound i (two f s t) l))
      (cases_lt j i))
      (cases_lt j (i - size t))

pub sound_where_put : (rack : List Node) (from : ℕ) (tree : Tree) → ProperTree tree → LiesFrom rack from tree → SoundBelow rack from → SoundBelow rack (from + size tree)
sound_where_put rack from tree proper put sound i lt =
    ⊎_elim
    (sound i)
    (λ later. tree_sound rack (from + size tree - 1) tree (lies_where_put rack from tree proper put) i (omega arith) (omega (arith, size_some tree)))
    (cases_lt i from)

-- what stands at a place heads one tree at most, and only the nodes before it matter
heads_one : (rack : List Node) (i : ℕ) (x : Item) (m n : ℕ) → Heads rack i x m → Heads rack i x n → m ≡ n
heads_one rack i (I.Name w) m n p q = p.1 ∙ sym q.1
heads_one rack i (I.Function f) m n (inl p) (inl q) = p.whole ∙ sym q.whole
heads_one rack i (I.Function f) m n (inl p) (inr q) = absurd (omega arith)
heads_one rack i (I.Function f) m n (inr p) (inl q) = absurd (omega arith)
heads_one rack i (I.Function f) m n (inr p) (inr q) = p.whole ∙ sym q.whole

heads_same : (before after : List Node) (i : ℕ) → ((k : ℕ) → k < i → size_at before k ≡ size_at after k) → (x : Item) (n : ℕ) → Heads before i x n → Heads after i x n
heads_same before after i same (I.Name w) n h = h
heads_same before after i same (I.Function f) n (inl h) =
    let operand = same (i - 1) (omega arith) in
    inl (record { function = h.function; operand = h.operand; whole = omega arith })
heads_same before after i same (I.Function f) n (inr h) =
    let second = same (i - 1) (omega arith) in
    let first = same (i - 1 - size_at before (i - 1)) (omega arith) ∙ ap (λ k. size_at after (i - 1 - k)) second in
    inr (record { low = h.low; high = h.high; operands = omega arith; whole = omega arith })

-- the node at i is not sound if the nodes before it tell another size than its own, or none
other_size : (r : Option ℕ) (P : ℕ → Type 0) (n : ℕ) → MatchOption r ((k : ℕ) → P k → ⊥) P → ((k : ℕ) → P k → k ≡ n) → true ≡ not (option_eq eqb r (Some n)) → P n → ⊥
other_size None P n h same other p = h n p
other_size (Some m) P n h same other p = let e : m ≡ n = same m h in grind (arith, nat_tests)

pub unsound_here : (rack : List Node) (n i : ℕ) (r : Option ℕ) → i < length (take n rack) → let front = take i rack in let x = get_or (take n rack) i blank in MatchOption r ((k : ℕ) → Heads front (length front) x.item k → ⊥) (λ k. Heads front (length front) x.item k) → true ≡ not (option_eq eqb r (Some x.size)) → Sound rack i → ⊥
unsound_here rack n i r lt h other sound =
    let front = take i rack in
    let x = get_or (take n rack) i blank in
    let few = length-take n rack in
    let at : length front ≡ i = length-take-le i rack (omega arith) in
    let same = λ (k : ℕ) (less : k < i). ap (λ (y : Node). y.size) (sym (get_or-take i rack k blank less)) in
    let here = heads_same rack front i same x.item x.size (subst (λ (y : Node). Heads rack i y.item y.size) (sym (get_or-take n rack i blank (omega arith))) sound) in
    let heads = subst (λ (k : ℕ). Heads front k x.item x.size) (sym at) here in
    other_size r (Heads front (length front) x.item) x.size h (λ k p. heads_one front (length front) x.item k x.size p heads) other heads

module _ (n : ℕ) (before after : List Node) (same : SameBelow n before after) where
  same_node : (i : ℕ) → i < n → get_or before i blank ≡ get_or after i blank
  same_node i lt = sym (same.same i blank lt)

  size_same : (i : ℕ) → i < n → size_at before i ≡ size_at after i
  size_same i lt = ap (λ (x : Node). x.size) (same_node i lt)

  sound_same : SoundBelow before n → SoundBelow after n
  sound_same sound i lt = subst (λ (x : Item). Heads after i x (size_at after i)) (ap (λ (x : Node). x.item) (same_node i lt)) (subst (Heads after i (item_at before i)) (size_same i lt) (heads_same before after i (λ k less. size_same k (omega arith)) (item_at before i) (size_at before i) (sound i lt)))

  lies_same : (i : ℕ) (t : Tree) → i < n → Lies before i t → Lies after i t
  lies_same i (name w) lt l = (l.0, sym (same_node i lt) ∙ l.1)
  lies_same i (one f t) lt l = (l.0, l.1, sym (same_node i lt) ∙ l.2, lies_same (i - 1) t (omega arith) l.3)
  lies_same i (two f s t) lt l =
      (l.0, l.1, l.2, sym (same_node i lt) ∙ l.3, lies_same (i - 1 - size t) s (omega arith) l.4, lies_same (i - 1) t (omega arith) l.5)

  pub later_nodes : (SoundBelow before n → SoundBelow after n) × ((i : ℕ) (tree : Tree) → i < n → Lies before i tree → Lies after i tree)
  later_nodes = (sound_same, lies_same)
