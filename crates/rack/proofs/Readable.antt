-- What a text reads as, a rack can hold: names are short words, and a table's functions have the operands they take.
use Rattle.std.proofs.Common.{◌≡◌, ℕ, ◌<◌, ◌≤◌, Bool, true, false, cond, ltb, List, Some, None, Option, sym, refl, ap, ◌∙◌, subst, arith}
use Rattle.std.specs.Option.{option_map}
use Rattle.std.proofs.lemmas.Bool.{ltb-true, ltb-false}
use Rattle.notation.specs.Operators.{Op, Fixity, fixity_of, operands_in}
use Rattle.notation.specs.Operators.Fixity.{prefix, postfix, between}
use Rattle.notation.specs.Tables.{Table, LawfulTable, LawfulOp}
use Rattle.grammar.specs.Trees.{Tree, Bracketed, erase}
use Rattle.grammar.specs.Trees.Bracketed.{named, pair, prefixed, postfixed, infixed}
use Rattle.grammar.specs.Weights.{fixity_in}
use Rattle.grammar.specs.Lawful.{Lawful}
use Rattle.grammar.specs.Reading.{Reads}
use Rattle.rack.specs.Racks.{ProperTree}

takes_one : (f : ℕ) (b : Bool) → ltb f 32 ≡ b → ◌≡◌ {A = ℕ} 1 (cond b 1 2) → f < 32
takes_one f true e h = ltb-true f 32 e
takes_one f false e h = absurd (omega arith)

takes_two : (f : ℕ) (b : Bool) → ltb f 32 ≡ b → ◌≡◌ {A = ℕ} 2 (cond b 1 2) → 32 ≤ f
takes_two f true e h = absurd (omega arith)
takes_two f false e h = ltb-false f 32 e

module _ (t : Table) (lawful : LawfulTable t) where
  -- the function has an operator, with so many operands
  operator : (f : ℕ) (x : Fixity) (o : Option Op) → t f ≡ o → option_map (λ p. fixity_of p.form) o ≡ Some x → (p : Op) × LawfulOp f p × (fixity_of p.form ≡ x)
  operator f x None e h = cc
  operator f x (Some p) e h = (p, lawful.each f p e, cc)

  one_operand : (f : ℕ) (x : Fixity) → fixity_in t f ≡ Some x → operands_in x ≡ 1 → f < 32
  one_operand f x h takes = let o = operator f x (t f) refl h in takes_one f (ltb f 32) refl (sym takes ∙ ap operands_in (sym o.2) ∙ o.1.operands)

  two_operands : (f : ℕ) → fixity_in t f ≡ Some between → (32 ≤ f) × (f < 64)
  two_operands f h =
      let o = operator f between (t f) refl h in
      (takes_two f (ltb f 32) refl (ap operands_in (sym o.2) ∙ o.1.operands), o.1.function)

  proper_erased : (b : Bracketed) → Lawful t b → ProperTree (erase b)
  proper_erased (named w) l = record { word = l.word; short = l.short }
  proper_erased (pair b) l = proper_erased b l
  proper_erased (prefixed f b) (is, admits, l) = (one_operand f prefix is refl, proper_erased b l)
  proper_erased (postfixed f b) (is, admits, l) = (one_operand f postfix is refl, proper_erased b l)
  proper_erased (infixed f a b) (is, left, right, l, m) = ((two_operands f is).0, (two_operands f is).1, proper_erased a l, proper_erased b m)

  pub read_proper : (text : List ℕ) (tree : Tree) → Reads t text tree → ProperTree tree
  read_proper text tree r = subst ProperTree r.reading.erased (proper_erased r.reading.bracketed r.reading.lawful)
