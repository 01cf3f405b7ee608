-- The answer to a text, from the state that the machine is in: what a reader that follows the machine has to show.
use Rattle.std.proofs.Common.{◌≡◌, ℕ, List, ◌∷◌, ◌++◌, map, length, None, Err, sym, refl, ap, ◌∙◌}
use Rattle.tokens.specs.Faults.{fault}
use Rattle.tokens.specs.Spacing.{lexemes_of}
use Rattle.tokens.specs.Tokens.{Placed, lexeme, tokens_of}
use Rattle.notation.specs.Tables.{Table, LawfulTable}
use Rattle.grammar.specs.declared.due.Due.{Due}
use Rattle.grammar.specs.Machine.{State, start, step, run, accepted}
use Rattle.grammar.specs.Machine.State.{operand_due, operator_due, refused}
use Rattle.grammar.specs.Dues.{due_after, Tells}
use Rattle.grammar.specs.Verdicts.Verdict.{fails_at, fails_at_end}
use Rattle.grammar.specs.Refusals.{fault_at, fault_at_end, Answered}
use Rattle.grammar.proofs.Judging.{fails_at_lem, fails_at_end_lem}
use Rattle.grammar.proofs.Stated.{machine_tells_due}

same_due : (st : State) (d e : Due) → (st ≡ refused → ⊥) → Tells st d → Tells st e → d ≡ e
same_due (operand_due k) d e n p q = p ∙ sym q
same_due (operator_due k b) d e n p q = p ∙ sym q
same_due refused d e n p q = absurd (n refl)

module _ (t : Table) (lawful : LawfulTable t) (text : List ℕ) where
  -- the machine refuses the token x where d is due
  pub answered_at : (front : List Placed) (x : Placed) (rest : List Placed) (d : Due) → tokens_of text ≡ front ++ (x ∷ rest) → (run t start (map lexeme front) ≡ refused → ⊥) → Tells (run t start (map lexeme front)) d → step t (run t start (map lexeme front)) (lexeme x) ≡ refused → Answered t text (Err (fault (fault_at t d (lexeme x)) x.place))
  answered_at front x rest d split n told e =
      let due = same_due (run t start (map lexeme front)) d (due_after t (map lexeme front)) n told (machine_tells_due t lawful (map lexeme front)) in
      (fails_at front x, fails_at_lem t lawful text front x rest split n e, ap (λ (v : Due). Err (fault (fault_at t v (lexeme x)) x.place)) due)

  -- it refuses no token, but has no tree at the end, where d is due
  pub answered_at_end : (d : Due) → (run t start (lexemes_of text) ≡ refused → ⊥) → Tells (run t start (lexemes_of text)) d → accepted t (lexemes_of text) ≡ None → Answered t text (Err (fault (fault_at_end d) (length text)))
  answered_at_end d n told e =
      let due = same_due (run t start (lexemes_of text)) d (due_after t (lexemes_of text)) n told (machine_tells_due t lawful (lexemes_of text)) in
      (fails_at_end, fails_at_end_lem t lawful text n e, ap (λ (v : Due). Err (fault (fault_at_end v) (length text))) due)
