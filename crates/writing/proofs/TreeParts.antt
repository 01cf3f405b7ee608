-- The parts of a tree in a rack, as its nodes tell them, and how they are written.
use Rattle.std.proofs.Common.{◌≡◌, ℕ, ◌-◌, ◌<◌, List, length, slice_index_or, Some, refl, sym, ap, ◌∙◌, subst, arith}
use Rattle.std.specs.Option.{option_map}
use Rattle.std.specs.Prelude.{nat_le}
use Rattle.notation.specs.Operators.{Fixity, fixity_of, operands_of, operands_in}
use Rattle.notation.specs.Operators.Fixity.{prefix, postfix, between}
use Rattle.notation.specs.Tables.{Table}
use Rattle.grammar.specs.Trees.{Tree}
use Rattle.grammar.specs.Trees.Tree.{name, one, two}
use Rattle.grammar.specs.Trees.Bracketed.{named, prefixed, postfixed, infixed}
use Rattle.grammar.specs.Weights.{fixity_in, operator_in, or_absent, left_limit, right_limit, admits_left, admits_right}
use Rattle.grammar.specs.Writing.{write, as_left, as_right, write_one, HasOperator}
use Rattle.rack.specs.declared.name.Name.{Name}
use Rattle.rack.specs.declared.node.Item.TheVariants as I
use Rattle.rack.specs.declared.node.Node.{Node}
use Rattle.rack.specs.Names.{spelt}
use Rattle.rack.specs.Nodes.{size, name_of}
use Rattle.rack.specs.Racks.{Lies, item_at, size_at}
use Rattle.rack.proofs.Lying.{name_item, one_item, two_item, apart, same_function, root_size, size_some}
use Rattle.rack.proofs.Words.{spelt_padded}
use Rattle.writing.specs.declared.shape.Shape.{Shape}
use Rattle.writing.specs.Written.{ToWrite}

module _ (t : Table) (nodes : List Node) (shapes : List Shape) (ready : ToWrite t nodes shapes) where
  operands_told : (f n : ℕ) → HasOperator t f n → operands_of (operator_in t f).form ≡ n
  operands_told f n h = ap (λ o. operands_of (or_absent o).form) h.has ∙ h.takes

  fixity_told : (f n : ℕ) → HasOperator t f n → fixity_in t f ≡ Some (fixity_of (operator_in t f).form)
  fixity_told f n h = ap (option_map (λ o. fixity_of o.form)) h.has ∙ ap (λ o. Some (fixity_of (or_absent o).form)) (sym h.has)

  same_name : (n k : Name) → I.Name n ≡ I.Name k → n ≡ k
  same_name n k e = cc

  -- the name at a node
  pub named_there : (at : ℕ) (n : Name) (tree : Tree) → Lies nodes at tree → item_at nodes at ≡ I.Name n → write t tree ≡ named (spelt n.bytes)
  named_there at n (name w) l is =
      ap named (sym (spelt_padded w l.0) ∙ ap spelt (ap (λ (x : Name). x.bytes) (same_name (name_of w) n (sym (name_item nodes at w l) ∙ is))))
  named_there at n (one f x) l is = absurd (apart n f (sym is ∙ one_item nodes at f x l))
  named_there at n (two f x y) l is = absurd (apart n f (sym is ∙ two_item nodes at f x y l))

  -- an operator before its operand, after it, and between two
  pub record PrefixedThere (at f : ℕ) (tree : Tree) : Type 0 where
    pub operand : Tree
    pub is : write t tree ≡ prefixed f (as_right t f (write t operand))
    pub inner : 0 < at
    pub lies : Lies nodes (at - 1) operand
    pub fits : (d : Shape) → nat_le (slice_index_or shapes (at - 1) d).left (right_limit (operator_in t f)) ≡ admits_right t f (write t operand)

  pub record PostfixedThere (at f : ℕ) (tree : Tree) : Type 0 where
    pub operand : Tree
    pub is : write t tree ≡ postfixed f (as_left t f (write t operand))
    pub inner : 0 < at
    pub lies : Lies nodes (at - 1) operand
    pub fits : (d : Shape) → nat_le (slice_index_or shapes (at - 1) d).right (left_limit (operator_in t f)) ≡ admits_left t f (write t operand)

  pub record InfixedThere (at f : ℕ) (tree : Tree) : Type 0 where
    pub left : Tree
    pub right : Tree
    pub is : write t tree ≡ infixed f (as_left t f (write t left)) (as_right t f (write t right))
    pub inner : 0 < at
    pub begins : size_at nodes (at - 1) < at
    pub lies_left : Lies nodes (at - 1 - size_at nodes (at - 1)) left
    pub lies_right : Lies nodes (at - 1) right
    pub fits_left : (d : Shape) → nat_le (slice_index_or shapes (at - 1 - size_at nodes (at - 1)) d).right (left_limit (operator_in t f)) ≡ admits_left t f (write t left)
    pub fits_right : (d : Shape) → nat_le (slice_index_or shapes (at - 1) d).left (right_limit (operator_in t f)) ≡ admits_right t f (write t right)

  -- the shape at a place is that of the tree there
  shape_left : (i : ℕ) (x : Tree) (d : Shape) → i < length nodes → Lies nodes i x → (f : ℕ) → nat_le (slice_index_or shapes i d).left (right_limit (operator_in t f)) ≡ admits_right t f (write t x)
  shape_left i x d lt l f = ap (λ (a : Shape). nat_le a.left (right_limit (operator_in t f))) (ready.shaped i x d lt l)

  shape_right : (i : ℕ) (x : Tree) (d : Shape) → i < length nodes → Lies nodes i x → (f : ℕ) → nat_le (slice_index_or shapes i d).right (left_limit (operator_in t f)) ≡ admits_left t f (write t x)
  shape_right i x d lt l f = ap (λ (a : Shape). nat_le a.right (left_limit (operator_in t f))) (ready.shaped i x d lt l)

  module _ (at : ℕ) (within : at < length nodes) (f : ℕ) (there : item_at nodes at ≡ I.Function f) where
    -- the node's function is that of the tree
    one_here : (g : ℕ) (x : Tree) → Lies nodes at (one g x) → g ≡ f
    one_here g x l = same_function g f (sym (one_item nodes at g x l) ∙ there)

    two_here : (g : ℕ) (x y : Tree) → Lies nodes at (two g x y) → g ≡ f
    two_here g x y l = same_function g f (sym (two_item nodes at g x y l) ∙ there)

    -- the operator has as many operands as the tree
    of_one : (x : Tree) → Lies nodes at (one f x) → operands_of (operator_in t f).form ≡ 1
    of_one x l = operands_told f 1 (ready.writable at (one f x) within l).0

    of_two : (x y : Tree) → Lies nodes at (two f x y) → operands_of (operator_in t f).form ≡ 2
    of_two x y l = operands_told f 2 (ready.writable at (two f x y) within l).0

    written_one : (k : Fixity) (x : Tree) → Lies nodes at (one f x) → fixity_of (operator_in t f).form ≡ k → write t (one f x) ≡ write_one t (Some k) f (write t x)
    written_one k x l e = ap (λ o. write_one t o f (write t x)) (fixity_told f 1 (ready.writable at (one f x) within l).0 ∙ ap Some e)

    prefixed_here : (x : Tree) → Lies nodes at (one f x) → fixity_of (operator_in t f).form ≡ prefix → PrefixedThere at f (one f x)
    prefixed_here x l k = record {
      operand = x;
      is = written_one prefix x l k;
      inner = omega (arith, size_some x);
      lies = l.3;
      fits = λ d. shape_left (at - 1) x d (omega arith) l.3 f;
    }

    postfixed_here : (x : Tree) → Lies nodes at (one f x) → fixity_of (operator_in t f).form ≡ postfix → PostfixedThere at f (one f x)
    postfixed_here x l k = record {
      operand = x;
      is = written_one postfix x l k;
      inner = omega (arith, size_some x);
      lies = l.3;
      fits = λ d. shape_right (at - 1) x d (omega arith) l.3 f;
    }

    infixed_here : (x y : Tree) → Lies nodes at (two f x y) → InfixedThere at f (two f x y)
    infixed_here x y l =
        let n : size_at nodes (at - 1) ≡ size y = root_size nodes (at - 1) y l.5 in
        let first : Lies nodes (at - 1 - size_at nodes (at - 1)) x = subst (λ m. Lies nodes (at - 1 - m) x) (sym n) l.4 in
        record {
          left = x;
          right = y;
          is = refl;
          inner = omega (arith, size_some x, l.2);
          begins = omega (arith, size_some x, l.2);
          lies_left = first;
          lies_right = l.5;
          fits_left = λ d. shape_right (at - 1 - size_at nodes (at - 1)) x d (omega arith) first f;
          fits_right = λ d. shape_left (at - 1) y d (omega arith) l.5 f;
        }

    pub prefixed_there : (tree : Tree) → Lies nodes at tree → fixity_of (operator_in t f).form ≡ prefix → PrefixedThere at f tree
    prefixed_there (name w) l k = absurd (apart (name_of w) f (sym (name_item nodes at w l) ∙ there))
    prefixed_there (one g x) l k =
        let e = one_here g x l in
        subst (λ h. PrefixedThere at f (one h x)) (sym e) (prefixed_here x (subst (λ h. Lies nodes at (one h x)) e l) k)
    prefixed_there (two g x y) l k =
        let m : Lies nodes at (two f x y) = subst (λ h. Lies nodes at (two h x y)) (two_here g x y l) l in
        absurd (omega (arith, ap operands_in k, of_two x y m))

    pub postfixed_there : (tree : Tree) → Lies nodes at tree → fixity_of (operator_in t f).form ≡ postfix → PostfixedThere at f tree
    postfixed_there (name w) l k = absurd (apart (name_of w) f (sym (name_item nodes at w l) ∙ there))
    postfixed_there (one g x) l k =
        let e = one_here g x l in
        subst (λ h. PostfixedThere at f (one h x)) (sym e) (postfixed_here x (subst (λ h. Lies nodes at (one h x)) e l) k)
    postfixed_there (two g x y) l k =
        let m : Lies nodes at (two f x y) = subst (λ h. Lies nodes at (two h x y)) (two_here g x y l) l in
        absurd (omega (arith, ap operands_in k, of_two x y m))

    pub infixed_there : (tree : Tree) → Lies nodes at tree → fixity_of (operator_in t f).form ≡ between → InfixedThere at f tree
    infixed_there (name w) l k = absurd (apart (name_of w) f (sym (name_item nodes at w l) ∙ there))
    infixed_there (one g x) l k =
        let m : Lies nodes at (one f x) = subst (λ h. Lies nodes at (one h x)) (one_here g x l) l in
        absurd (omega (arith, ap operands_in k, of_one x m))
    infixed_there (two g x y) l k =
        let e = two_here g x y l in
        subst (λ h. InfixedThere at f (two h x y)) (sym e) (infixed_here x y (subst (λ h. Lies nodes at (two h x y)) e l))
