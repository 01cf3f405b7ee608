-- The Puts of the tree at a node of a rack, from those of its parts.
use Rattle.std.proofs.Common.{◌≡◌, ℕ, ◌-◌, ◌<◌, ◌⊎◌, Bool, List, length, slice_index_or, Some, Option, Ok, Err, Result, sym, ap, ◌∙◌, subst, ⊎_elim}
use Rattle.std.specs.Prelude.{nat_le}
use Rattle.tokens.specs.declared.fault.Fault.{Fault}
use Rattle.tokens.specs.declared.token.TokenKind.{TokenKind}
use Rattle.notation.specs.declared.form.Form.TheVariants.{Fx, Fy, Xf, Yf, Xfx, Xfy, Yfx}
use Rattle.notation.specs.Operators.{Op, Fixity, fixity_of}
use Rattle.notation.specs.Operators.Fixity.{prefix, postfix, between}
use Rattle.notation.specs.Tables.{Table}
use Rattle.grammar.specs.Trees.{Tree, Bracketed}
use Rattle.grammar.specs.Trees.Bracketed.{prefixed, postfixed, infixed}
use Rattle.grammar.specs.Weights.{operator_in, left_limit, right_limit, admits_left, admits_right}
use Rattle.grammar.specs.Reading.{sign}
use Rattle.grammar.specs.Writing.{write, paired, as_left, as_right}
use Rattle.rack.specs.declared.node.Item.TheVariants as I
use Rattle.rack.specs.declared.node.Node.{Node}
use Rattle.rack.specs.Racks.{Lies, item_at, size_at}
use Rattle.writing.specs.declared.put_kind.PutKind.TheVariants as P
use Rattle.writing.specs.declared.shape.Shape.{Shape}
use Rattle.writing.specs.Outlets.{Rule}
use Rattle.writing.specs.Puts.{label}
use Rattle.writing.specs.Written.{ToWrite, PutsTokens}
use Rattle.writing.proofs.TreeParts.{PrefixedThere, PostfixedThere, InfixedThere, prefixed_there, postfixed_there, infixed_there}
use Rattle.writing.proofs.TreePuts.{PutsOne, sign_put, prefixed_puts, prefixed_unsigned, postfixed_puts, postfixed_unfilled, infixed_puts, infixed_unfilled, infixed_unsigned}

fixity_at : (k : Fixity) (o q : Op) → o ≡ q → fixity_of o.form ≡ k → fixity_of q.form ≡ k
fixity_at k o q e = subst (λ (p : Op). fixity_of p.form ≡ k) e

module _ {H : Type 0} (rule : Rule H) (t : Table) (nodes : List Node) (shapes : List Shape) (ready : ToWrite t nodes shapes)
    (at : ℕ) (within : at < length nodes) (f : ℕ) (there : item_at nodes at ≡ I.Function f) (o : Op) (told : o ≡ operator_in t f)
    (last : Option TokenKind) (before : H) (tree : Tree) (l : Lies nodes at tree) where
  -- the operands, each in a pair if the test fails
  abbrev pub LeftPut : ℕ → ℕ → Option TokenKind → H → H → Result TokenKind Fault → Type 0
  LeftPut i limit k from after r =
      (x : Tree) → Lies nodes i x → (d : Shape) × PutsTokens rule t k (paired (nat_le (slice_index_or shapes i d).right limit) (write t x)) from after r

  abbrev pub RightPut : ℕ → ℕ → Option TokenKind → H → H → Result TokenKind Fault → Type 0
  RightPut i limit k from after r =
      (x : Tree) → Lies nodes i x → (d : Shape) × PutsTokens rule t k (paired (nat_le (slice_index_or shapes i d).left limit) (write t x)) from after r

  right_put : (i : ℕ) (x : Tree) (limit : ℕ) → limit ≡ right_limit o → Lies nodes i x
      → ((d : Shape) → nat_le (slice_index_or shapes i d).left (right_limit (operator_in t f)) ≡ admits_right t f (write t x))
      → (k : Option TokenKind) (from after : H) (r : Result TokenKind Fault) → RightPut i limit k from after r → PutsTokens rule t k (as_right t f (write t x)) from after r
  right_put i x limit is lies fits k from after r h =
      let (d, puts) = h x lies in
      subst (λ (b : Bool). PutsTokens rule t k (paired b (write t x)) from after r) (ap (nat_le (slice_index_or shapes i d).left) (is ∙ ap right_limit told) ∙ fits d) puts

  left_put : (i : ℕ) (x : Tree) (limit : ℕ) → limit ≡ left_limit o → Lies nodes i x
      → ((d : Shape) → nat_le (slice_index_or shapes i d).right (left_limit (operator_in t f)) ≡ admits_left t f (write t x))
      → (k : Option TokenKind) (from after : H) (r : Result TokenKind Fault) → LeftPut i limit k from after r → PutsTokens rule t k (as_left t f (write t x)) from after r
  left_put i x limit is lies fits k from after r h =
      let (d, puts) = h x lies in
      subst (λ (b : Bool). PutsTokens rule t k (paired b (write t x)) from after r) (ap (nat_le (slice_index_or shapes i d).right) (is ∙ ap left_limit told) ∙ fits d) puts

  is_written : (b : Bracketed) (after : H) (r : Result TokenKind Fault) → write t tree ≡ b → PutsTokens rule t last b before after r → PutsTokens rule t last (write t tree) before after r
  is_written b after r e = subst (λ (x : Bracketed). PutsTokens rule t last x before after r) (sym e)

  prefix_there : (o.form ≡ Fx) ⊎ (o.form ≡ Fy) → PrefixedThere t nodes shapes ready at f tree
  prefix_there forms = prefixed_there t nodes shapes ready at within f there tree l (fixity_at prefix o (operator_in t f) told (⊎_elim (ap fixity_of) (ap fixity_of) forms))

  postfix_there : (o.form ≡ Xf) ⊎ (o.form ≡ Yf) → PostfixedThere t nodes shapes ready at f tree
  postfix_there forms = postfixed_there t nodes shapes ready at within f there tree l (fixity_at postfix o (operator_in t f) told (⊎_elim (ap fixity_of) (ap fixity_of) forms))

  pub infix_there : (o.form ≡ Xfx) ⊎ ((o.form ≡ Xfy) ⊎ (o.form ≡ Yfx)) → InfixedThere t nodes shapes ready at f tree
  infix_there forms =
      infixed_there t nodes shapes ready at within f there tree l
      (fixity_at between o (operator_in t f) told (⊎_elim (ap fixity_of) (⊎_elim (ap fixity_of) (ap fixity_of)) forms))

  pub at_prefix : (s : TokenKind) (limit : ℕ) (signed after : H) (r : Result TokenKind Fault) → (o.form ≡ Fx) ⊎ (o.form ≡ Fy) → limit ≡ right_limit o
      → PutsOne rule t last (label P.Operator (sign o.spelling)) before signed (Ok s) → RightPut (at - 1) limit (Some s) signed after r
      → PutsTokens rule t last (write t tree) before after r
  at_prefix s limit signed after r forms is first second =
      let p = prefix_there forms in
      is_written (prefixed f (as_right t f (write t p.operand))) after r p.is
      (prefixed_puts rule t last before f (as_right t f (write t p.operand)) s signed after r (sign_put rule t f o last before signed (Ok s) told first)
      (right_put (at - 1) p.operand limit is p.lies p.fits (Some s) signed after r second))

  pub at_prefix_unsigned : (signed after : H) (e : Fault) → (o.form ≡ Fx) ⊎ (o.form ≡ Fy)
      → PutsOne rule t last (label P.Operator (sign o.spelling)) before signed (Err e) → PutsTokens rule t last (write t tree) before after (Err e)
  at_prefix_unsigned signed after e forms first =
      let p = prefix_there forms in
      is_written (prefixed f (as_right t f (write t p.operand))) after (Err e) p.is
      (prefixed_unsigned rule t last before f (as_right t f (write t p.operand)) signed after e (sign_put rule t f o last before signed (Err e) told first))

  pub at_postfix : (k : TokenKind) (limit : ℕ) (left after : H) (r : Result TokenKind Fault) → (o.form ≡ Xf) ⊎ (o.form ≡ Yf) → limit ≡ left_limit o
      → LeftPut (at - 1) limit last before left (Ok k) → PutsOne rule t (Some k) (label P.Operator (sign o.spelling)) left after r
      → PutsTokens rule t last (write t tree) before after r
  at_postfix k limit left after r forms is first second =
      let p = postfix_there forms in
      is_written (postfixed f (as_left t f (write t p.operand))) after r p.is
      (postfixed_puts rule t last before f (as_left t f (write t p.operand)) k left after r
      (left_put (at - 1) p.operand limit is p.lies p.fits last before left (Ok k) first) (sign_put rule t f o (Some k) left after r told second))

  pub at_postfix_unfilled : (limit : ℕ) (left after : H) (e : Fault) → (o.form ≡ Xf) ⊎ (o.form ≡ Yf) → limit ≡ left_limit o
      → LeftPut (at - 1) limit last before left (Err e) → PutsTokens rule t last (write t tree) before after (Err e)
  at_postfix_unfilled limit left after e forms is first =
      let p = postfix_there forms in
      is_written (postfixed f (as_left t f (write t p.operand))) after (Err e) p.is
      (postfixed_unfilled rule t last before f (as_left t f (write t p.operand)) left after e (left_put (at - 1) p.operand limit is p.lies p.fits last before left (Err e) first))

  module _ (forms : (o.form ≡ Xfx) ⊎ ((o.form ≡ Xfy) ⊎ (o.form ≡ Yfx))) (i : ℕ) (place : i ≡ at - 1 - size_at nodes (at - 1)) (left_most : ℕ) (is_left : left_most ≡ left_limit o) where
    first_put : (left : H) (r : Result TokenKind Fault) → LeftPut i left_most last before left r → PutsTokens rule t last (as_left t f (write t (infix_there forms).left)) before left r
    first_put left r h =
        let p = infix_there forms in
        left_put (at - 1 - size_at nodes (at - 1)) p.left left_most is_left p.lies_left p.fits_left last before left r (subst (λ j. LeftPut j left_most last before left r) place h)

    pub at_infix : (k s : TokenKind) (limit : ℕ) (left signed after : H) (r : Result TokenKind Fault) → limit ≡ right_limit o
        → LeftPut i left_most last before left (Ok k) → PutsOne rule t (Some k) (label P.Operator (sign o.spelling)) left signed (Ok s) → RightPut (at - 1) limit (Some s) signed after r
        → PutsTokens rule t last (write t tree) before after r
    at_infix k s limit left signed after r is first second third =
        let p = infix_there forms in
        is_written (infixed f (as_left t f (write t p.left)) (as_right t f (write t p.right))) after r p.is
        (infixed_puts rule t last before f (as_left t f (write t p.left)) (as_right t f (write t p.right)) k s left signed after r
        (first_put left (Ok k) first) (sign_put rule t f o (Some k) left signed (Ok s) told second)
        (right_put (at - 1) p.right limit is p.lies_right p.fits_right (Some s) signed after r third))

    pub at_infix_unfilled : (left after : H) (e : Fault) → LeftPut i left_most last before left (Err e) → PutsTokens rule t last (write t tree) before after (Err e)
    at_infix_unfilled left after e first =
        let p = infix_there forms in
        is_written (infixed f (as_left t f (write t p.left)) (as_right t f (write t p.right))) after (Err e) p.is
        (infixed_unfilled rule t last before f (as_left t f (write t p.left)) (as_right t f (write t p.right)) left after e (first_put left (Err e) first))

    pub at_infix_unsigned : (k : TokenKind) (left signed after : H) (e : Fault)
        → LeftPut i left_most last before left (Ok k) → PutsOne rule t (Some k) (label P.Operator (sign o.spelling)) left signed (Err e)
        → PutsTokens rule t last (write t tree) before after (Err e)
    at_infix_unsigned k left signed after e first second =
        let p = infix_there forms in
        is_written (infixed f (as_left t f (write t p.left)) (as_right t f (write t p.right))) after (Err e) p.is
        (infixed_unsigned rule t last before f (as_left t f (write t p.left)) (as_right t f (write t p.right)) k left signed after e
        (first_put left (Ok k) first) (sign_put rule t f o (Some k) left signed (Err e) told second))
