-- The worked examples, by one test that computes the machine's verdicts.
use Rattle.std.proofs.Common.{◌≡◌, ℕ, Bool, true, false, ◌&&◌, eqb, List, Ok, Err, Result, sym, refl, ap, ◌∙◌, subst}
use Rattle.std.specs.List.{AllByRecursion, list_all}
use Rattle.std.proofs.lemmas.List.Elements.{recursion_from_All}
use Rattle.std.proofs.lemmas.List.Sums.{AllPass-from_list_all}
use Rattle.std.specs.Str.{bytes_eq}
use Rattle.std.proofs.ByRecursion.{All-weaker}
use Rattle.std.proofs.lemmas.Slice.Eq.{bytes_eq-Decides}
use Rattle.std.proofs.lemmas.Bool.{false≢true, and_parts, eqb-true}
use Rattle.tokens.specs.declared.byte.ByteClass.{ByteClass}
use Rattle.tokens.specs.declared.byte.ByteClass.TheVariants as C
use Rattle.tokens.specs.declared.fault.Fault.{Fault}
use Rattle.tokens.specs.declared.fault.FaultKind.{FaultKind}
use Rattle.tokens.specs.Bytes.{class_of}
use Rattle.tokens.specs.Faults.{number_of, fault}
use Rattle.tokens.specs.Limits.{Lawful as LawfulByte}
use Rattle.tokens.specs.Spacing.{pairs_of}
use Rattle.tokens.specs.Tokens.{kind_of, tokens_from}
use Rattle.notation.specs.Tables.{Table, LawfulTable, listed}
use Rattle.grammar.specs.Trees.{Tree}
use Rattle.grammar.specs.Trees.Tree.{name, one, two}
use Rattle.grammar.specs.Reading.{kind_of_spelling, Reads}
use Rattle.grammar.specs.Machine.{is_name}
use Rattle.grammar.specs.Verdicts.{Verdict, Holds}
use Rattle.grammar.specs.Verdicts.Verdict.{reads, fails_at, fails_at_end}
use Rattle.grammar.specs.Refusals.{answer}
use Rattle.grammar.specs.Writing.{written, Fewest}
use Rattle.grammar.specs.Examples.{example_rows, example_table, Example, Shown, examples, ExamplesHold}
use Rattle.grammar.specs.Examples.Example.{reads_as, refused_with, written_as}
use Rattle.grammar.proofs.Judging.{judged, judged_holds}
use Rattle.notation.specs.RowsLemmas.{rows_lawful}
use Rattle.grammar.proofs.Writings.{writes_fewest, writable_is_readable}

-- a test that passes of a list does of each element
each_passes : {X : Type 0} (test : X → Bool) (xs : List X) → list_all test xs ≡ true → AllByRecursion (λ x. test x ≡ true) xs
each_passes test xs e = recursion_from_All (λ x. test x ≡ true) xs (AllPass-from_list_all test xs e)

-- bytes that may stand in an expression
abbrev is_lawful : ByteClass → Bool
is_lawful C.Word = true
is_lawful C.Symbol = true
is_lawful C.Open = true
is_lawful C.Close = true
is_lawful C.Space = true
is_lawful C.Unlawful = false

abbrev are_lawful : List ℕ → Bool
are_lawful text = list_all (λ b. is_lawful (class_of b)) text

lawful_bytes : (text : List ℕ) → are_lawful text ≡ true → AllByRecursion LawfulByte text
lawful_bytes text e =
    All-weaker (λ b. is_lawful (class_of b) ≡ true) LawfulByte (λ b h unlawful. false≢true (sym (ap is_lawful unlawful) ∙ h)) text (each_passes (λ b. is_lawful (class_of b)) text e)

-- equal trees, verdicts and answers
abbrev same_tree : Tree → Tree → Bool
same_tree (name v) (name w) = bytes_eq v w
same_tree (name v) (one g y) = false
same_tree (name v) (two g y z) = false
same_tree (one f x) (name w) = false
same_tree (one f x) (one g y) = eqb f g && same_tree x y
same_tree (one f x) (two g y z) = false
same_tree (two f w x) (name v) = false
same_tree (two f w x) (one g y) = false
same_tree (two f w x) (two g y z) = eqb f g && (same_tree w y && same_tree x z)

same_tree_lem : (x y : Tree) → same_tree x y ≡ true → x ≡ y
same_tree_lem (name v) (name w) e = ap name ((bytes_eq-Decides v w).0 e)
same_tree_lem (name v) (one g y) e = cc
same_tree_lem (name v) (two g y z) e = cc
same_tree_lem (one f x) (name w) e = cc
same_tree_lem (one f x) (one g y) e =
    let (number, rest) = and_parts (eqb f g) (same_tree x y) e in
    let function : f ≡ g = eqb-true f g number in
    let operand : x ≡ y = same_tree_lem x y rest in
    cc
same_tree_lem (one f x) (two g y z) e = cc
same_tree_lem (two f w x) (name v) e = cc
same_tree_lem (two f w x) (one g y) e = cc
same_tree_lem (two f w x) (two g y z) e =
    let (number, rest) = and_parts (eqb f g) (same_tree w y && same_tree x z) e in
    let (l, r) = and_parts (same_tree w y) (same_tree x z) rest in
    let function : f ≡ g = eqb-true f g number in
    let left : w ≡ y = same_tree_lem w y l in
    let right : x ≡ z = same_tree_lem x z r in
    cc

abbrev is_reading : Verdict → Tree → Bool
is_reading (reads x) y = same_tree x y
is_reading (fails_at front x) y = false
is_reading fails_at_end y = false

reading : (v : Verdict) (tree : Tree) → is_reading v tree ≡ true → v ≡ reads tree
reading (reads x) tree e = ap reads (same_tree_lem x tree e)
reading (fails_at front x) tree e = cc
reading fails_at_end tree e = cc

abbrev is_refusal : Result Tree Fault → ℕ → ℕ → Bool
is_refusal (Ok x) n place = false
is_refusal (Err f) n place = eqb (number_of f.kind) n && eqb f.place place

refusal : (r : Result Tree Fault) (n place : ℕ) → is_refusal r n place ≡ true → (k : FaultKind) × (number_of k ≡ n) × (Err (fault k place) ≡ r)
refusal (Ok x) n place e = cc
refusal (Err f) n place e =
    let (number, at) = and_parts (eqb (number_of f.kind) n) (eqb f.place place) e in
    (f.kind, eqb-true (number_of f.kind) n number, ap (λ p. Err (fault f.kind p)) (sym (eqb-true f.place place at)))

module _ (t : Table) where
  abbrev is_shown : Example → Bool
  is_shown (reads_as text tree) = are_lawful text && is_reading (judged t text) tree
  is_shown (refused_with text n place) = are_lawful text && is_refusal (answer t text (judged t text)) n place
  is_shown (written_as tree text) = (are_lawful text && is_reading (judged t text) tree) && bytes_eq (written t tree) text

  module _ (lawful : LawfulTable t) where
    reads_shown : (text : List ℕ) (tree : Tree) → are_lawful text && is_reading (judged t text) tree ≡ true → Reads t text tree
    reads_shown text tree e =
        let (bytes, verdict) = and_parts (are_lawful text) (is_reading (judged t text) tree) e in
        subst (Holds t text) (reading (judged t text) tree verdict) (judged_holds t lawful text (lawful_bytes text bytes))

    shown : (x : Example) → is_shown x ≡ true → Shown t x
    shown (reads_as text tree) e = reads_shown text tree e
    shown (refused_with text n place) e =
        let (bytes, is) = and_parts (are_lawful text) (is_refusal (answer t text (judged t text)) n place) e in
        let (k, number, same) = refusal (answer t text (judged t text)) n place is in
        (k, number, (judged t text, judged_holds t lawful text (lawful_bytes text bytes), same))
    shown (written_as tree text) e =
        let (reading, bytes) = and_parts (are_lawful text && is_reading (judged t text) tree) (bytes_eq (written t tree) text) e in
        let r = reads_shown text tree reading in
        let same = (bytes_eq-Decides (written t tree) text).0 bytes in
        let w = writes_fewest t lawful tree ((writable_is_readable t lawful tree).1 (text, r)) in
        (same, r, subst (Fewest t tree) (sym w.count ∙ ap pairs_of same) w.fewest)

example_lawful : LawfulTable example_table
unfolding kind_of
example_lawful = rows_lawful example_rows refl

passed : list_all (is_shown example_table) examples ≡ true
unfolding listed tokens_from kind_of is_name kind_of_spelling
passed = refl

pub examples_hold : ExamplesHold
examples_hold =
    (example_lawful, All-weaker (λ x. is_shown example_table x ≡ true) (Shown example_table) (shown example_table example_lawful) examples (each_passes (is_shown example_table) examples passed))
