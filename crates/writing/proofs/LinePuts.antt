-- The Puts of a line, one after another.
use Rattle.std.proofs.Common.{◌≡◌, ℕ, List, [], ◌∷◌, ◌++◌, Some, None, Option, Ok, Err, Result, codes, refl, sym, ap, ◌∙◌, subst}
use Rattle.tokens.specs.Faults.{fault}
use Rattle.tokens.specs.declared.fault.Fault.{Fault}
use Rattle.tokens.specs.declared.fault.FaultKind.TheVariants.{OutletRefused}
use Rattle.tokens.specs.declared.token.TokenKind.{TokenKind}
use Rattle.notation.specs.Tables.{Table}
use Rattle.grammar.specs.Trees.{Tree}
use Rattle.grammar.specs.Writing.{write}
use Rattle.writing.specs.declared.put_kind.PutKind.TheVariants as P
use Rattle.writing.specs.Outlets.{Rule, Puts}
use Rattle.writing.specs.Puts.{Put, put, labelled, token_puts, line_puts, put_all, PutsTo}
use Rattle.writing.specs.Written.{PutsTokens}
use Rattle.writing.proofs.Sequences.{all_append, all_none, all_of, none_of, tokens_from}

module _ {H : Type 0} (rule : Rule H) (t : Table) (digits : List ℕ) (tree : Tree) (before : H) where
  -- what the whole line makes of the holding
  abbrev pub whole : Option H
  whole = put_all rule (line_puts t digits tree) (Some before)

  abbrev end : List Put
  end = put P.LineEnd (codes "\n") ∷ []

  accepted : (o : Option H) (h : H) → Puts o h (Ok (tt {0})) → o ≡ Some h
  accepted (Some k) h (is, same) = ap Some (sym same)
  accepted None h is = absurd cc

  refused : (o : Option H) (h : H) (f : Fault) → Puts o h (Err f) → (o ≡ None) × (f ≡ fault OutletRefused 0)
  refused (Some k) h f (is, same) = absurd cc
  refused None h f is = (refl, cc)

  nothing : (after : H) (f : Fault) → whole ≡ None → f ≡ fault OutletRefused 0 → PutsTo (tt {0}) whole after (Err f)
  nothing after f none is = subst (λ o. PutsTo (tt {0}) o after (Err f)) (sym none) (ap Err is)

  -- the digits were refused; the tab was; a token was
  pub margin_refused : (h after : H) (f : Fault) → Puts (rule before P.Margin digits) h (Err f) → PutsTo (tt {0}) whole after (Err f)
  margin_refused h after f first =
      let p = refused (rule before P.Margin digits) h f first in
      nothing after f
      (ap (put_all rule (put P.Tab (codes "\t") ∷ (token_puts None (labelled t (write t tree)) ++ end))) p.0 ∙ all_none rule (put P.Tab (codes "\t") ∷ (token_puts None (labelled t (write t tree)) ++ end)))
      p.1

  margin_put : (h : H) → Puts (rule before P.Margin digits) h (Ok (tt {0})) → whole ≡ put_all rule (token_puts None (labelled t (write t tree)) ++ end) (rule h P.Tab (codes "\t"))
  margin_put h first = ap (put_all rule (put P.Tab (codes "\t") ∷ (token_puts None (labelled t (write t tree)) ++ end))) (accepted (rule before P.Margin digits) h first)

  pub tab_refused : (h k after : H) (f : Fault) → Puts (rule before P.Margin digits) h (Ok (tt {0})) → Puts (rule h P.Tab (codes "\t")) k (Err f) → PutsTo (tt {0}) whole after (Err f)
  tab_refused h k after f first second =
      let p = refused (rule h P.Tab (codes "\t")) k f second in
      nothing after f
      (margin_put h first ∙ ap (put_all rule (token_puts None (labelled t (write t tree)) ++ end)) p.0 ∙ all_none rule (token_puts None (labelled t (write t tree)) ++ end))
      p.1

  tab_put : (h k : H) → Puts (rule before P.Margin digits) h (Ok (tt {0})) → Puts (rule h P.Tab (codes "\t")) k (Ok (tt {0})) → whole ≡ put_all rule end (tokens_from rule None (labelled t (write t tree)) k)
  tab_put h k first second =
      margin_put h first
      ∙ ap (put_all rule (token_puts None (labelled t (write t tree)) ++ end)) (accepted (rule h P.Tab (codes "\t")) k second)
      ∙ all_append rule (token_puts None (labelled t (write t tree))) end (Some k)

  pub tree_refused : (h k m after : H) (f : Fault) → Puts (rule before P.Margin digits) h (Ok (tt {0})) → Puts (rule h P.Tab (codes "\t")) k (Ok (tt {0}))
      → PutsTokens rule t None (write t tree) k m (Err f) → PutsTo (tt {0}) whole after (Err f)
  tree_refused h k m after f first second third =
      let p = none_of rule (tokens_from rule None (labelled t (write t tree)) k) m TokenKind _ f third in
      nothing after f (tab_put h k first second ∙ ap (put_all rule end) p.0 ∙ all_none rule end) p.1

  -- the line end is the last
  pub line_end_put : (h k m after : H) (j : TokenKind) (r : Result (Unit {0}) Fault) → Puts (rule before P.Margin digits) h (Ok (tt {0})) → Puts (rule h P.Tab (codes "\t")) k (Ok (tt {0}))
      → PutsTokens rule t None (write t tree) k m (Ok j) → Puts (rule m P.LineEnd (codes "\n")) after r → PutsTo (tt {0}) whole after r
  line_end_put h k m after j r first second third last =
      let p = all_of rule (tokens_from rule None (labelled t (write t tree)) k) m TokenKind _ j third in
      let is : whole ≡ rule m P.LineEnd (codes "\n") = tab_put h k first second ∙ ap (put_all rule end) p.0 in
      subst (λ o. PutsTo (tt {0}) o after r) (sym is) (of_puts (rule m P.LineEnd (codes "\n")) last) where
        of_puts : (o : Option H) → Puts o after r → PutsTo (tt {0}) o after r
        of_puts (Some x) q = q
        of_puts None q = q
