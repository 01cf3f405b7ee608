-- Every notation that is read from lines obeys the laws of notations.
use Rattle.std.proofs.Common.{◌≡◌, ℕ, ◌+◌, List, [], ◌∷◌, Ok, Err, Result, refl, sym, ap, ◌∙◌, subst, inl, inr}
use Rattle.tokens.specs.declared.fault.Fault.{Fault}
use Rattle.notation.specs.Additions.{nothing_lawful, lawful_extended}
use Rattle.notation.specs.Declarations.{Declares, Added, extended}
use Rattle.notation.specs.Lines.{Said, said_op}
use Rattle.notation.specs.Rows.{ladder_rows, ladder_table}
use Rattle.notation.specs.RowsLemmas.{rows_lawful}
use Rattle.notation.specs.Tables.{Table, LawfulTable, LawfulOp}
use Rattle.notation.proofs.Lines.{word_one}
use Rattle.notation.proofs.Rules.{table_free}
use Rattle.plan.specs.declared.input_fault.InputFault.{InputFault}
use Rattle.plan.specs.Sections.{Section, Sectioned, section, empty_table, Declarations, Notation}

refused : {T : Type 0} (x : T) (f : Fault) → ◌≡◌ {A = Result T Fault} (Ok x) (Err f) → ⊥
refused x f e = absurd cc

unread : (s : Section) (e : InputFault) → ◌≡◌ {A = Sectioned} (Ok s) (Err e) → ⊥
unread s e is = absurd cc

same_table : (s u : Section) → ◌≡◌ {A = Sectioned} (Ok s) (Ok u) → s.table ≡ u.table
same_table s u e = let is : s ≡ u = cc in ap (λ (x : Section). x.table) is

-- a line that a lawful table accepts leaves a lawful one
added_lawful : (t u : Table) (line : List ℕ) → LawfulTable t → Declares t line (Ok tt) → Added t line u → LawfulTable u
added_lawful t u line lawful (inl (d, says, inl (m, word, inl (fits, inl (range, inl (spelling, place)))))) added =
    let said : d ≡ added.said = added.says.only d says in
    let form : m ≡ added.form = word_one m added.form (sym word ∙ ap (λ (x : Said). x.word) said ∙ added.word) in
    let table : extended t d.function (said_op d m) ≡ u = (λ i. extended t (said i).function (said_op (said i) (form i))) ∙ sym added.table in
    let op : LawfulOp d.function (said_op d m) = record { function = fits.0; operands = fits.1; low = range.0; high = range.1; spelling = spelling } in
    subst LawfulTable table (lawful_extended t d.function (said_op d m) lawful op (table_free t d.function (said_op d m) place))
added_lawful t u line lawful (inl (d, says, inl (m, word, inl (fits, inl (range, inr (_, is)))))) added = absurd (refused tt _ is)
added_lawful t u line lawful (inl (d, says, inl (m, word, inl (fits, inr (_, is))))) added = absurd (refused tt _ is)
added_lawful t u line lawful (inl (d, says, inl (m, word, inr (_, is)))) added = absurd (refused tt _ is)
added_lawful t u line lawful (inl (d, says, inr (_, is))) added = absurd (refused tt _ is)
added_lawful t u line lawful (inr (_, is)) added = absurd (refused tt _ is)

list_lawful : (ls : List (List ℕ)) (t : Table) (n : ℕ) (s : Section) → LawfulTable t → Declarations t n ls (Ok s) → LawfulTable s.table
list_lawful [] t n s lawful is = absurd (unread s _ is)
list_lawful (l ∷ ls) t n s lawful (inl (_, is)) = subst LawfulTable (sym (same_table s (section t ls (n + 1)) is)) lawful
list_lawful (l ∷ ls) t n s lawful (inr (_, inl (f, _, is))) = absurd (unread s _ is)
list_lawful (l ∷ ls) t n s lawful (inr (_, inr (declares, (u, added, more)))) = list_lawful ls u (n + 1) s (added_lawful t u l lawful declares added) more

ladder_lawful : LawfulTable ladder_table
unfolding ladder_table
ladder_lawful = rows_lawful ladder_rows refl

pub notation_lawful : (ls : List (List ℕ)) (n : ℕ) (s : Section) → Notation n ls (Ok s) → LawfulTable s.table
notation_lawful [] n s is = absurd (unread s _ is)
notation_lawful (l ∷ ls) n s (inl (_, is)) = subst LawfulTable (sym (same_table s (section ladder_table ls (n + 1)) is)) ladder_lawful
notation_lawful (l ∷ ls) n s (inr (_, inl (_, more))) = list_lawful ls empty_table (n + 1) s (nothing_lawful empty_table (λ f. refl)) more
notation_lawful (l ∷ ls) n s (inr (_, inr (_, is))) = absurd (unread s _ is)
