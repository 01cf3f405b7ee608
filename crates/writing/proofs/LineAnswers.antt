-- What is answered of a line: each case has one answer, and when it has which.
use Rattle.std.proofs.Common.{◌≡◌, ℕ, ◌+◌, ◌-◌, ◌<◌, ◌≤◌, List, length, Some, None, Option, Ok, Err, Result, IfOk, MatchResult, is_err, true, false, take, drop, refl, sym, ap, subst, ◌∙◌, inl, inr, ⊎_elim, arith}
use Rattle.std.proofs.lemmas.Bool.{cases_order}
use Rattle.tokens.specs.InOrder.{If, Only, Refused}
use Rattle.tokens.specs.Faults.{fault}
use Rattle.tokens.specs.declared.fault.Fault.{Fault}
use Rattle.tokens.specs.declared.fault.FaultKind.{FaultKind}
use Rattle.tokens.specs.declared.fault.FaultKind.TheVariants.{TextTooLong, NoSuchRoot, OutletRefused}
use Rattle.tokens.proofs.Firsts.{if_one, if_some_one}
use Rattle.notation.specs.Tables.{Table, LawfulTable}
use Rattle.grammar.specs.Trees.{Tree, pairs}
use Rattle.grammar.specs.Writing.{write, Fewest}
use Rattle.grammar.proofs.Writings.{pairs_lexemes, writes_fewest}
use Rattle.rack.specs.declared.node.Node.{Node}
use Rattle.rack.specs.Nodes.{size, nodes_of, room}
use Rattle.rack.specs.Racks.{item_at, size_at, Lies}
use Rattle.rack.specs.Roots.{AtTree}
use Rattle.rack.proofs.Answering.{at_tree_only, at_changed}
use Rattle.rack.proofs.Lying.{begins, root_size, size_some, lies_one}
use Rattle.rack.proofs.Postorder.{nodes_long, lies_consecutively, lies_part, proper_tree}
use Rattle.rack.proofs.Valuing.{lies_alone}
use Rattle.writing.specs.declared.shape.Shape.{Shape}
use Rattle.writing.specs.Lines.{Digits, unwritable, FirstUnwritable, TextPasses, PutAnswered, OfTree, LineAnswered, KeptAfter}
use Rattle.writing.specs.Outlets.{Rule}
use Rattle.writing.specs.Puts.{line_puts, put_all, PutsTo}
use Rattle.writing.specs.ShapeAnswers.{ShapeAnswered}
use Rattle.writing.specs.Shapes.{shape_of}
use Rattle.writing.specs.Unwritables.{FirstIn, NoneIn}
use Rattle.writing.proofs.Answered.{within}
use Rattle.writing.proofs.Writables.{all_writable}

put_one : {H : Type 0} (n : ℕ) (o : Option H) (r s : Result ℕ Fault) → PutAnswered n o r → PutAnswered n o s → r ≡ s
put_one n (Some h) r s p q = p ∙ sym q
put_one n None r s p q = p ∙ sym q

same_kind : (a b : FaultKind) (u v : Option FaultKind) → u ≡ Some a → v ≡ Some b → u ≡ v → a ≡ b
same_kind a b u v p q e = cc

not_none : (a : FaultKind) (u : Option FaultKind) → u ≡ None → u ≡ Some a → ⊥
not_none a u p q = absurd cc

module _ (t : Table) (rack : List Node) (root : ℕ) (tree : Tree) where
  not_before : (f g : Fault) → FirstUnwritable t rack root tree f → FirstUnwritable t rack root tree g → f.place < g.place → ⊥
  not_before f g p q lt = not_none f.kind (unwritable t (item_at rack f.place)) (q.earlier f.place p.begins lt) p.why

  unwritable_place : (f g : Fault) → FirstUnwritable t rack root tree f → FirstUnwritable t rack root tree g → f.place ≡ g.place
  unwritable_place f g p q =
      ⊎_elim (λ e. e) (⊎_elim (λ lt. absurd (not_before f g p q lt)) (λ lt. absurd (not_before g f q p lt))) (cases_order f.place g.place)

  pub unwritable_one : (f g : Fault) → FirstUnwritable t rack root tree f → FirstUnwritable t rack root tree g → f ≡ g
  unwritable_one f g p q =
      let e = unwritable_place f g p q in
      let k = same_kind f.kind g.kind (unwritable t (item_at rack f.place)) (unwritable t (item_at rack g.place)) p.why q.why (ap (λ i. unwritable t (item_at rack i)) e) in
      λ j. record { kind = k j; place = e j }

  -- the part of the rack that ends at the root, node by node
  module _ (lt : root < room rack) (l : Lies rack root tree) where
    part_item : (i : ℕ) → i < size tree → item_at rack (root + 1 - size tree + i) ≡ item_at (nodes_of tree) i
    part_item i less = ap (λ (x : Node). x.item) (((lies_consecutively rack root tree l).nodes lt).nodes i less)

    pub part_nodes : take (root + 1 - (root + 1 - size_at rack root)) (drop (root + 1 - size_at rack root) rack) ≡ nodes_of tree
    part_nodes =
        let n = root_size rack root tree l in
        let few = begins rack root tree l in
        let long : root + 1 - (root + 1 - size_at rack root) ≡ size tree = omega (arith, n) in
        (λ j. take (long j) (drop (root + 1 - n j) rack)) ∙ lies_part rack root tree l

    pub first_told : (f : Fault) → FirstIn t (nodes_of tree) (root + 1 - size tree) f → FirstUnwritable t rack root tree f
    first_told f h =
        let few = begins rack root tree l in
        let long = nodes_long tree in
        let from = root + 1 - size tree in
        record {
          begins = omega (arith, h.place);
          up_to = omega (arith, h.place, h.within);
          why = ap (λ i. unwritable t (item_at rack i)) h.place ∙ ap (unwritable t) (part_item h.index (omega (arith, h.within))) ∙ h.why;
          earlier = λ i ge less. let at : i ≡ from + (i - from) = omega arith in ap (λ k. unwritable t (item_at rack k)) at ∙ ap (unwritable t) (part_item (i - from) (omega (arith, h.place, h.within))) ∙ h.earlier (i - from) (omega (arith, h.place));
        }

    pub none_told : NoneIn t (nodes_of tree) → (f : Fault) → FirstUnwritable t rack root tree f → ⊥
    none_told none f h =
        let few = begins rack root tree l in
        let long = nodes_long tree in
        let from = root + 1 - size tree in
        let i = f.place - from in
        let less : i < size tree = omega (arith, h.begins, h.up_to, size_some tree) in
        let at : f.place ≡ from + i = omega (arith, h.begins) in
        not_none f.kind (unwritable t (item_at (nodes_of tree) i)) (none i (omega arith))
        (sym (ap (λ k. unwritable t (item_at rack k)) at ∙ ap (unwritable t) (part_item i less)) ∙ h.why)

-- the same of the nodes that are looked through
module _ (t : Table) (rack : List Node) (root : ℕ) (tree : Tree) (lt : root < room rack) (l : Lies rack root tree) where
  abbrev pub part : List Node
  part = take (root + 1 - (root + 1 - size_at rack root)) (drop (root + 1 - size_at rack root) rack)

  pub first_answered : (f : Fault) → FirstIn t part (root + 1 - size_at rack root) f → FirstUnwritable t rack root tree f
  first_answered f h =
      first_told t rack root tree lt l f
      (subst (λ (ns : List Node). FirstIn t ns (root + 1 - size tree) f) (part_nodes t rack root tree lt l)
      (subst (λ (n : ℕ). FirstIn t part (root + 1 - n) f) (root_size rack root tree l) h))

  pub none_answered : NoneIn t part → NoneIn t (nodes_of tree)
  none_answered h = subst (NoneIn t) (part_nodes t rack root tree lt l) h

module _ (t : Table) (rack : List Node) (root : ℕ) (tree : Tree) (lt : root < room rack) (l : Lies rack root tree) where
  pub part_lies : Lies (part t rack root tree lt l) (length (part t rack root tree lt l) - 1) tree
  part_lies =
      subst (λ (ns : List Node). Lies ns (length ns - 1) tree) (sym (part_nodes t rack root tree lt l))
      (subst (λ (n : ℕ). Lies (nodes_of tree) (n - 1) tree) (sym (nodes_long tree)) (lies_alone tree (proper_tree rack root tree l)))

-- an answer of one kind refuses what one of another kind does
refused : (f g : Fault) (r : Result Shape Fault) (s : Result ℕ Fault) → r ≡ Err f → s ≡ Err f → r ≡ Err g → s ≡ Err g
refused f g r s p q e = cc

shape_told : (t : Table) (tree : Tree) (shape : Shape) (n : ℕ) → ShapeAnswered t n tree (Ok shape) → shape ≡ shape_of t (write t tree)
shape_told t tree shape n = ⊎_elim (λ (short, is). absurd cc) (λ (long, is). cc)

-- the tree whose shape was answered
pub record ThereWeighed (t : Table) (rack : List Node) (root : ℕ) (shape : Shape) : Type 0 where
  pub tree : Tree
  pub within : root < room rack
  pub lies : Lies rack root tree
  pub shaped : shape ≡ shape_of t (write t tree)

pub there_weighed : (t : Table) (rack : List Node) (used root n : ℕ) (shape : Shape) → AtTree rack used root (ShapeAnswered t n) (Ok shape) → ThereWeighed t rack root shape
there_weighed t rack used root n shape h =
    ⊎_elim (λ (out, is). absurd cc)
    (λ (has, rest).
    ⊎_elim (λ (i, first, is). absurd cc)
    (λ (sound, (tree, l, k)). record { tree = tree; within = within rack used root has; lies = l; shaped = shape_told t tree shape n k })
    rest)
    h

module _ {H : Type 0} (rule : Rule H) (t : Table) (digits : List ℕ) (rack : List Node) (used root : ℕ) (before : H) where
  pub tree_one : (tree : Tree) (r s : Result ℕ Fault) → OfTree rule t digits rack used root before tree r → OfTree rule t digits rack used root before tree s → r ≡ s
  tree_one tree r s =
      let puts = put_all rule (line_puts t digits tree) (Some before) in
      let n = pairs (write t tree) in
      if_some_one (FirstUnwritable t rack root tree) Refused (If (TextPasses t tree) (Refused (fault TextTooLong 0)) (PutAnswered n puts)) r s
      (λ f g p q e h. e ∙ ap Err (unwritable_one t rack root tree f g p q) ∙ sym h)
      (if_one (TextPasses t tree) (Refused (fault TextTooLong 0)) (PutAnswered n puts) r s (λ p q. p ∙ sym q) (put_one n puts r s))

  pub line_only : Digits digits → (r : Result ℕ Fault) → AtTree rack used root (OfTree rule t digits rack used root before) r → Only (LineAnswered rule t digits rack used root before) r
  line_only ok r h =
      let o = at_tree_only rack used root (OfTree rule t digits rack used root before) tree_one r h in
      record { is = inr ((λ bad. bad ok), o.is); only = λ s. ⊎_elim (λ (bad, is). absurd (bad ok)) (λ (has, k). o.only s k) }

  -- what is answered where the tree was weighed, by its shape
  module _ (ok : Digits digits) (n : ℕ) (enough : 4096 ≤ n) where
    small : (tree : Tree) → root < room rack → Lies rack root tree → size tree ≤ 4096
    small tree lt l = omega (arith, begins rack root tree l)

    pub unweighed : (f : Fault) → AtTree rack used root (ShapeAnswered t n) (Err f) → Only (LineAnswered rule t digits rack used root before) (Err f)
    unweighed f h =
        line_only ok (Err f)
        (⊎_elim (λ (out, is). inl (out, refused f (fault NoSuchRoot 0) (Err f) (Err f) refl refl is))
        (λ (has, rest).
        at_changed rack used root (ShapeAnswered t n) (OfTree rule t digits rack used root before) (Err f) (Err f) (λ g. refused f g (Err f) (Err f) refl refl)
        (λ tree l k. ⊎_elim (λ (short, is). let few = small tree (within rack used root has) l in absurd (omega arith)) (λ (long, is). absurd cc) k)
        (inr (has, rest)))
        h)

    pub weighed_line : (shape : Shape) (r : Result ℕ Fault) → ((tree : Tree) → root < room rack → Lies rack root tree → shape ≡ shape_of t (write t tree) → OfTree rule t digits rack used root before tree r) → AtTree rack used root (ShapeAnswered t n) (Ok shape) → Only (LineAnswered rule t digits rack used root before) r
    weighed_line shape r answers h =
        line_only ok r
        (⊎_elim (λ (out, is). absurd cc)
        (λ (has, rest).
        at_changed rack used root (ShapeAnswered t n) (OfTree rule t digits rack used root before) (Ok shape) r (λ g e. absurd cc)
        (λ tree l k. answers tree (within rack used root has) l (shape_told t tree shape n k))
        (inr (has, rest)))
        h)

-- what is answered, left and kept when the Puts of a line have been made, or struck
abbrev pub Mapped : ℕ → Result (Unit {0}) Fault → Result ℕ Fault → Type 0
Mapped n q r = MatchResult q (λ _. r ≡ Ok n) (λ f. r ≡ Err f)

outlet_kind : (f : Fault) (q : Result (Unit {0}) Fault) → q ≡ Err (fault OutletRefused 0) → q ≡ Err f → f.kind ≡ OutletRefused
outlet_kind f q p e = let same : f ≡ fault OutletRefused 0 = cc in ap (λ (x : Fault). x.kind) same

pub where_err : (q : Result (Unit {0}) Fault) (A B : Type 0) → is_err q ≡ true → B → MatchResult q (λ _. A) (λ _. B)
where_err (Ok u) A B e b = absurd cc
where_err (Err f) A B e b = b

pub where_ok : (q : Result (Unit {0}) Fault) (A B : Type 0) → is_err q ≡ false → A → MatchResult q (λ _. A) (λ _. B)
where_ok (Ok u) A B e a = a
where_ok (Err f) A B e a = absurd cc

module _ {H : Type 0} where
  pub put_answered : (n : ℕ) (o : Option H) (put : H) (q : Result (Unit {0}) Fault) (r : Result ℕ Fault) → PutsTo (tt {0}) o put q → Mapped n q r → PutAnswered n o r
  put_answered n (Some h) put (Ok u) r (is, at) m = m
  put_answered n (Some h) put (Err f) r (is, at) m = absurd cc
  put_answered n None put (Ok u) r is m = absurd cc
  put_answered n None put (Err f) r is m = cc

  held : (o : Option H) (put after : H) (u : Unit {0}) → PutsTo (tt {0}) o put (Ok u) → after ≡ put → o ≡ Some after
  held (Some h) put after u (is, at) s = ap Some (sym (s ∙ at))
  held None put after u is s = absurd cc

  pub put_holding : (n : ℕ) (Of : Tree → Type 0) (o : Tree → Option H) (before put after : H) (q : Result (Unit {0}) Fault) (r : Result ℕ Fault)
      → ((tree : Tree) → Of tree → PutsTo (tt {0}) (o tree) put q) → Mapped n q r → MatchResult q (λ _. after ≡ put) (λ _. after ≡ before)
      → MatchResult r (λ _. (tree : Tree) → Of tree → o tree ≡ Some after) (λ _. after ≡ before)
  put_holding n Of o before put after (Ok u) r p m s = subst (λ x. MatchResult x (λ _. (tree : Tree) → Of tree → o tree ≡ Some after) (λ _. after ≡ before)) (sym m) (λ tree l. held (o tree) put after u (p tree l) s)
  put_holding n Of o before put after (Err f) r p m s = subst (λ x. MatchResult x (λ _. (tree : Tree) → Of tree → o tree ≡ Some after) (λ _. after ≡ before)) (sym m) s

  pub put_kept : (n : ℕ) (o : Option H) (kept holding put after : H) (q : Result (Unit {0}) Fault) (r : Result ℕ Fault)
      → PutsTo (tt {0}) o put q → Mapped n q r → after ≡ holding → KeptAfter r kept holding after
  put_kept n (Some h) kept holding put after (Ok u) r (is, at) m k = subst (λ x. KeptAfter x kept holding after) (sym m) k
  put_kept n (Some h) kept holding put after (Err f) r (is, at) m k = absurd cc
  put_kept n None kept holding put after (Ok u) r is m k = absurd cc
  put_kept n None kept holding put after (Err f) r is m k = subst (λ x. KeptAfter x kept holding after) (sym m) (inl (outlet_kind f (Err f) is refl, k))

pub put_pairs : (n : ℕ) (P : ℕ → Type 0) (q : Result (Unit {0}) Fault) (r : Result ℕ Fault) → Mapped n q r → P n → IfOk r P
put_pairs n P (Ok u) r m p = subst (λ x. IfOk x P) (sym m) p
put_pairs n P (Err f) r m p = subst (λ x. IfOk x P) (sym m) tt

-- the pairs of the shape are those of the text, and the fewest
pub shape_pairs : (t : Table) (tree : Tree) (shape : Shape) → shape ≡ shape_of t (write t tree) → shape.pairs ≡ pairs (write t tree)
shape_pairs t tree shape is = ap (λ (s : Shape). s.pairs) is ∙ pairs_lexemes t (write t tree)

pub shape_fewest : (t : Table) → LawfulTable t → (rack : List Node) (root : ℕ) (shape : Shape) (w : ThereWeighed t rack root shape) → NoneIn t (nodes_of w.tree) → (tree : Tree) → Lies rack root tree → Fewest t tree shape.pairs
shape_fewest t lawful rack root shape w none tree l =
    let long = nodes_long w.tree in
    let some = size_some w.tree in
    let writable = all_writable t lawful (nodes_of w.tree) none (size w.tree - 1) w.tree (omega arith) (lies_alone w.tree (proper_tree rack root w.tree w.lies)) in
    subst (λ x. Fewest t x shape.pairs) (lies_one rack root w.tree tree w.lies l)
    (subst (Fewest t w.tree) (sym (shape_pairs t w.tree shape w.shaped)) (writes_fewest t lawful w.tree writable).fewest)
