-- What the machine's states say of a text: the verdict that it comes to holds.
use Rattle.std.proofs.Common.{◌≡◌, ℕ, List, [], ◌∷◌, ◌++◌, map, Some, None, Option, sym, refl, ap, ◌∙◌, subst, append_assoc, append-nil}
use Rattle.std.specs.List.{AllByRecursion}
use Rattle.std.proofs.lemmas.List.{map-append, map_push}
use Rattle.tokens.specs.Limits.{Lawful as LawfulByte}
use Rattle.tokens.specs.Spacing.{lexemes_of}
use Rattle.tokens.specs.Tokens.{Lexeme, Placed, lexeme, tokens_of}
use Rattle.tokens.proofs.Spaces.{formed}
use Rattle.notation.specs.Tables.{Table, LawfulTable}
use Rattle.grammar.specs.Trees.{Tree, Bracketed, erase}
use Rattle.grammar.specs.Reading.{Formed, Reads}
use Rattle.grammar.specs.Machine.{State, start, step, run, outcome, accepted}
use Rattle.grammar.specs.Machine.State.{operand_due, operator_due, refused}
use Rattle.grammar.specs.Beginnings.{Live}
use Rattle.grammar.specs.Verdicts.{Verdict, FailsAt, FailsAtEnd, Holds}
use Rattle.grammar.specs.Verdicts.Verdict.{reads, fails_at, fails_at_end}
use Rattle.grammar.proofs.Completeness.{finds_all}
use Rattle.grammar.proofs.Soundness.{finds_only}
use Rattle.grammar.proofs.Viability.{run-append, refused_is_dead, unrefused_is_live}

all_front : (P : Lexeme → Type 0) (xs ys : List Lexeme) → AllByRecursion P (xs ++ ys) → AllByRecursion P xs
all_front P [] ys h = tt
all_front P (x ∷ xs) ys h = (h.0, all_front P xs ys h.1)

module _ (t : Table) (lawful : LawfulTable t) (text : List ℕ) where
  front_formed : (front rest : List Placed) → tokens_of text ≡ front ++ rest → AllByRecursion Formed (map lexeme front)
  front_formed front rest split =
      all_front Formed (map lexeme front) (map lexeme rest) (subst (AllByRecursion Formed) (ap (map lexeme) split ∙ map-append lexeme front rest) (formed text))

  pub front_live : (front rest : List Placed) → tokens_of text ≡ front ++ rest → (run t start (map lexeme front) ≡ refused → ⊥) → Live t (map lexeme front)
  front_live front rest split n = unrefused_is_live t lawful (map lexeme front) (front_formed front rest split) n

  -- the text fails at a token that the machine refuses
  pub fails_at_lem : (front : List Placed) (x : Placed) (rest : List Placed) → tokens_of text ≡ front ++ (x ∷ rest) → (run t start (map lexeme front) ≡ refused → ⊥) → step t (run t start (map lexeme front)) (lexeme x) ≡ refused → FailsAt t text front x
  fails_at_lem front x rest split n e =
      record { rest = rest; split = split; live = front_live front (x ∷ rest) split n; dead = refused_is_dead t lawful (map lexeme front ++ (lexeme x ∷ [])) (run-append t (map lexeme front) (lexeme x ∷ []) start ∙ e) }

  unread : accepted t (lexemes_of text) ≡ None → (tree : Tree) → Reads t text tree → ⊥
  unread e tree r =
      let found = finds_all t lawful r.reading.bracketed r.reading.lawful in
      let same = ap (accepted t) r.reading.tokens in
      cc

  -- it fails at its end if the machine refused no token but has no tree
  pub fails_at_end_lem : (run t start (lexemes_of text) ≡ refused → ⊥) → accepted t (lexemes_of text) ≡ None → FailsAtEnd t text
  fails_at_end_lem n e = record { live = front_live (tokens_of text) [] (sym (append-nil (tokens_of text))) n; unread = unread e }

  -- it reads as the tree that the machine has at the end
  pub found_reads : AllByRecursion LawfulByte text → (b : Bracketed) → accepted t (lexemes_of text) ≡ Some b → Reads t text (erase b)
  found_reads bytes b e =
      let (law, same) = finds_only t (lexemes_of text) (formed text) b e in record { bytes = bytes; reading = record { bracketed = b; lawful = law; tokens = same; erased = refl } }

-- The verdict of the machine, which computes.
abbrev judged_end : Option Bracketed → Verdict
judged_end None = fails_at_end
judged_end (Some b) = reads (erase b)

-- by the state after the token x: its failure, or what is judged further on
abbrev judged_next : State → List Placed → Placed → Verdict → Verdict
judged_next (operand_due k) front x further = further
judged_next (operator_due k b) front x further = further
judged_next refused front x further = fails_at front x

module _ (t : Table) where
  abbrev judged_from : State → List Placed → List Placed → Verdict
  judged_from st front [] = judged_end (outcome st)
  judged_from st front (x ∷ xs) = judged_next (step t st (lexeme x)) front x (judged_from (step t st (lexeme x)) (front ++ (x ∷ [])) xs)

  abbrev pub judged : List ℕ → Verdict
  judged text = judged_from start [] (tokens_of text)

module _ (t : Table) (lawful : LawfulTable t) (text : List ℕ) (bytes : AllByRecursion LawfulByte text) where
  end_holds : (o : Option Bracketed) → accepted t (lexemes_of text) ≡ o → (run t start (lexemes_of text) ≡ refused → ⊥) → Holds t text (judged_end o)
  end_holds None e n = fails_at_end_lem t lawful text n e
  end_holds (Some b) e n = found_reads t lawful text bytes b e

  next_holds : (st : State) (front : List Placed) (x : Placed) (rest : List Placed) (further : Verdict) → tokens_of text ≡ front ++ (x ∷ rest) → (run t start (map lexeme front) ≡ refused → ⊥) → step t (run t start (map lexeme front)) (lexeme x) ≡ st → ((st ≡ refused → ⊥) → Holds t text further) → Holds t text (judged_next st front x further)
  next_holds (operand_due k) front x rest further split n e h = h (λ d. cc)
  next_holds (operator_due k b) front x rest further split n e h = h (λ d. cc)
  next_holds refused front x rest further split n e h = fails_at_lem t lawful text front x rest split n e

  from_holds : (rest front : List Placed) (st : State) → tokens_of text ≡ front ++ rest → run t start (map lexeme front) ≡ st → (st ≡ refused → ⊥) → Holds t text (judged_from t st front rest)
  from_holds [] front st split e n =
      let whole : run t start (lexemes_of text) ≡ st = ap (λ (xs : List Placed). run t start (map lexeme xs)) (split ∙ append-nil front) ∙ e in
      end_holds (outcome st) (ap outcome whole) (λ d. n (sym whole ∙ d))
  from_holds (x ∷ rest) front st split e n =
      let next = step t st (lexeme x) in
      let after : run t start (map lexeme (front ++ (x ∷ []))) ≡ next = ap (run t start) (map_push lexeme front x) ∙ run-append t (map lexeme front) (lexeme x ∷ []) start ∙ ap (λ (v : State). step t v (lexeme x)) e in
      next_holds next front x rest (judged_from t next (front ++ (x ∷ [])) rest) split (λ d. n (sym e ∙ d)) (ap (λ (v : State). step t v (lexeme x)) e)
      (λ m. from_holds rest (front ++ (x ∷ [])) next (split ∙ sym (append_assoc front (x ∷ []) rest)) after m)

  pub judged_holds : Holds t text (judged t text)
  judged_holds = from_holds (tokens_of text) [] start refl refl (λ d. cc)
