-- What is written for a tree is lawful, erases to it, and its text reads as the tree with the fewest pairs.
use Rattle.std.proofs.Common.{◌≡◌, ℕ, ◌+◌, ◌≤◌, Bool, true, false, ◌⊎◌, List, [], ◌∷◌, ◌++◌, Some, None, Option, sym, refl, ap, ◌∙◌, subst, inl, inr, ⊎_elim, arith}
use Rattle.std.specs.Option.{option_map}
use Rattle.std.proofs.lemmas.Bool.{leb-true}
use Rattle.tokens.specs.Spacing.{closes, pairs_among, pairs_of}
use Rattle.tokens.specs.Tokens.{Lexeme}
use Rattle.notation.specs.Operators.{Op, Fixity, fixity_of, operands_in}
use Rattle.notation.specs.Operators.Fixity.{prefix, postfix, between}
use Rattle.notation.specs.Tables.{Table}
use Rattle.grammar.specs.Trees.{Tree, Bracketed, erase, pairs}
use Rattle.grammar.specs.Trees.Tree.{name, one, two}
use Rattle.grammar.specs.Trees.Bracketed.{named, pair, prefixed, postfixed, infixed}
use Rattle.grammar.specs.Weights.{fixity_in, operator_in, AdmitsLeft, AdmitsRight, admits_left, admits_right}
use Rattle.grammar.specs.Lawful.{Lawful}
use Rattle.grammar.specs.Reading.{closing, kind_of_spelling, sign_of, lexemes, ReadsTokens, Reads}
use Rattle.grammar.specs.Writing.{paired, write_one, write, written, HasOperator, Writable, WritesFewest, WritableIsReadable}
use Rattle.grammar.proofs.Signs.{kind_cases}
use Rattle.grammar.proofs.Tables.{present}
use Rattle.grammar.proofs.Texts.{spaces}
use Rattle.grammar.proofs.Fewer.{no_fewer}

pairs-append : (xs ys : List Lexeme) → pairs_among (xs ++ ys) ≡ pairs_among xs + pairs_among ys
pairs-append [] ys = omega arith
pairs-append (x ∷ xs) ys = omega (arith, pairs-append xs ys)

no_close : (s : List ℕ) → closes (kind_of_spelling s) ≡ 0
no_close s = ⊎_elim (ap closes) (ap closes) (kind_cases s)

paired_erased : (v : Bool) (b : Bracketed) → erase (paired v b) ≡ erase b
paired_erased true b = refl
paired_erased false b = refl

module _ (t : Table) where
  -- a bracketed tree's pairs are its closing brackets
  pub pairs_lexemes : (b : Bracketed) → pairs_among (lexemes t b) ≡ pairs b
  pairs_lexemes (named w) = refl
  pairs_lexemes (pair b) = omega (arith, pairs-append (lexemes t b) (closing ∷ []), pairs_lexemes b)
  pairs_lexemes (prefixed f b) = omega (arith, no_close (operator_in t f).spelling, pairs_lexemes b)
  pairs_lexemes (postfixed f b) = omega (arith, pairs-append (lexemes t b) (sign_of t f ∷ []), no_close (operator_in t f).spelling, pairs_lexemes b)
  pairs_lexemes (infixed f b c) =
      omega (arith, pairs-append (lexemes t b) (sign_of t f ∷ lexemes t c), no_close (operator_in t f).spelling, pairs_lexemes b, pairs_lexemes c)

  one_erased : (x : Option Fixity) (f : ℕ) (b : Bracketed) → erase (write_one t x f b) ≡ one f (erase b)
  one_erased None f b = ap (one f) (paired_erased (admits_right t f b) b)
  one_erased (Some prefix) f b = ap (one f) (paired_erased (admits_right t f b) b)
  one_erased (Some postfix) f b = ap (one f) (paired_erased (admits_left t f b) b)
  one_erased (Some between) f b = ap (one f) (paired_erased (admits_right t f b) b)

  pub write_erased : (tree : Tree) → erase (write t tree) ≡ tree
  write_erased (name w) = refl
  write_erased (one f x) = one_erased (fixity_in t f) f (write t x) ∙ ap (one f) (write_erased x)
  write_erased (two f x y) =
      let left = paired_erased (admits_left t f (write t x)) (write t x) ∙ write_erased x in
      let right = paired_erased (admits_right t f (write t y)) (write t y) ∙ write_erased y in
      λ i. two f (left i) (right i)

  paired_lawful : (v : Bool) (b : Bracketed) → Lawful t b → Lawful t (paired v b)
  paired_lawful true b l = l
  paired_lawful false b l = l

  left_admitted : (f : ℕ) (b : Bracketed) (v : Bool) → admits_left t f b ≡ v → AdmitsLeft t f (paired v b)
  left_admitted f b true e = leb-true _ _ e
  left_admitted f b false e = omega arith

  right_admitted : (f : ℕ) (b : Bracketed) (v : Bool) → admits_right t f b ≡ v → AdmitsRight t f (paired v b)
  right_admitted f b true e = leb-true _ _ e
  right_admitted f b false e = omega arith

  one_lawful : (x : Option Fixity) (f : ℕ) (b : Bracketed) → fixity_in t f ≡ x → (x ≡ Some prefix) ⊎ (x ≡ Some postfix) → Lawful t b → Lawful t (write_one t x f b)
  one_lawful None f b e (inl h) l = cc
  one_lawful None f b e (inr h) l = cc
  one_lawful (Some prefix) f b e h l = (e, right_admitted f b (admits_right t f b) refl, paired_lawful (admits_right t f b) b l)
  one_lawful (Some postfix) f b e h l = (e, left_admitted f b (admits_left t f b) refl, paired_lawful (admits_left t f b) b l)
  one_lawful (Some between) f b e (inl h) l = cc
  one_lawful (Some between) f b e (inr h) l = cc

  -- an operator with one operand is a prefix or a postfix one, an operator with two an infix one
  one_fixity : (x : Fixity) → operands_in x ≡ 1 → (Some x ≡ Some prefix) ⊎ (Some x ≡ Some postfix)
  one_fixity prefix e = inl refl
  one_fixity postfix e = inr refl
  one_fixity between e = absurd (omega arith)

  two_fixity : (x : Fixity) → operands_in x ≡ 2 → x ≡ between
  two_fixity prefix e = absurd (omega arith)
  two_fixity postfix e = absurd (omega arith)
  two_fixity between e = refl

  fixity_has : (f : ℕ) (o : Op) → t f ≡ Some o → fixity_in t f ≡ Some (fixity_of o.form)
  fixity_has f o e = ap (option_map (λ (p : Op). fixity_of p.form)) e

  pub write_lawful : (tree : Tree) → Writable t tree → Lawful t (write t tree)
  write_lawful (name w) h = h
  write_lawful (one f x) (o, h) =
      let e = fixity_has f o.op o.has in
      one_lawful (fixity_in t f) f (write t x) refl (⊎_elim (λ d. inl (e ∙ d)) (λ d. inr (e ∙ d)) (one_fixity (fixity_of o.op.form) o.takes)) (write_lawful x h)
  write_lawful (two f x y) (o, h, k) =
      let l = admits_left t f (write t x) in
      let r = admits_right t f (write t y) in (
        fixity_has f o.op o.has ∙ ap Some (two_fixity (fixity_of o.op.form) o.takes),
        left_admitted f (write t x) l refl,
        right_admitted f (write t y) r refl,
        paired_lawful l (write t x) (write_lawful x h),
        paired_lawful r (write t y) (write_lawful y k),
      )

  -- the tree of a lawful bracketed tree can be written
  has_operator : (f : ℕ) (x : Fixity) → fixity_in t f ≡ Some x → HasOperator t f (operands_in x)
  has_operator f x e = let p = present t f x e in record { op = p.op; has = p.has; takes = ap operands_in p.stands }

  lawful_writable : (b : Bracketed) → Lawful t b → Writable t (erase b)
  lawful_writable (named w) l = l
  lawful_writable (pair b) l = lawful_writable b l
  lawful_writable (prefixed f b) (x, a, l) = (has_operator f prefix x, lawful_writable b l)
  lawful_writable (postfixed f b) (x, a, l) = (has_operator f postfix x, lawful_writable b l)
  lawful_writable (infixed f b c) (x, a, d, l, m) = (has_operator f between x, lawful_writable b l, lawful_writable c m)

  -- the pairs of a text that reads are those of its bracketed tree
  pub reads_pairs : (text : List ℕ) (tree : Tree) (r : Reads t text tree) → pairs_of text ≡ pairs r.reading.bracketed
  reads_pairs text tree r = ap pairs_among (sym r.reading.tokens) ∙ pairs_lexemes r.reading.bracketed

  least : (tree : Tree) (text : List ℕ) → Reads t text tree → pairs (write t tree) ≤ pairs_of text
  least tree text r = omega (arith, reads_pairs text tree r, no_fewer t tree r.reading.bracketed r.reading.lawful r.reading.erased)

pub writes_fewest : WritesFewest
writes_fewest t lawful tree h =
    let law = write_lawful t tree h in
    let reading : ReadsTokens t (lexemes t (write t tree)) tree = record { bracketed = write t tree; lawful = law; tokens = refl; erased = write_erased t tree } in
    let s = spaces t lawful (lexemes t (write t tree)) tree reading in
    let count : pairs_of (written t tree) ≡ pairs (write t tree) = ap pairs_among s.cut ∙ pairs_lexemes t (write t tree) in
    record {
      lawful = law;
      erased = write_erased t tree;
      formed = s.formed;
      cut = s.cut;
      reads = s.reads;
      count = count;
      fewest = record { text = written t tree; reads = s.reads; pairs = count; least = least t tree };
    }

pub writable_is_readable : WritableIsReadable
writable_is_readable t lawful tree = (
  λ h. let w = writes_fewest t lawful tree h in (written t tree, w.reads),
  λ (text, r). subst (Writable t) r.reading.erased (lawful_writable t r.reading.bracketed r.reading.lawful),
)
