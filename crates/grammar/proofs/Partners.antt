-- A bracket fault is told where a bracket has no partner.
use Rattle.std.proofs.Common.{◌≡◌, ℕ, ◌+◌, ◌-◌, ◌<◌, Bool, true, false, List, [], ◌∷◌, ◌++◌, map, Some, None, Option, sym, refl, ap, ◌∙◌, subst, append_assoc, arith}
use Rattle.std.specs.List.{AllByRecursion}
use Rattle.std.proofs.lemmas.List.{map_push}
use Rattle.tokens.specs.declared.token.TokenKind.{TokenKind}
use Rattle.tokens.specs.declared.token.TokenKind.TheVariants.{Word, Symbol, Open, Close}
use Rattle.tokens.specs.Limits.{Lawful as LawfulByte}
use Rattle.tokens.specs.Spacing.{lexemes_of}
use Rattle.tokens.specs.Tokens.{Lexeme, Placed, lexeme}
use Rattle.notation.specs.declared.form.Position.TheVariants.{Before, After}
use Rattle.notation.specs.Operators.{Fixity}
use Rattle.notation.specs.Operators.Fixity.{prefix, postfix, between}
use Rattle.notation.specs.Tables.{Table, LawfulTable, listed}
use Rattle.grammar.specs.declared.due.Due.{Due}
use Rattle.grammar.specs.declared.due.Due.TheVariants.{Operator}
use Rattle.grammar.specs.declared.taker.Taker.{Taker}
use Rattle.grammar.specs.declared.taker.Taker.TheVariants.{Left, Right}
use Rattle.grammar.specs.Trees.{Bracketed, erase}
use Rattle.grammar.specs.Weights.{fixity_in, operator_in}
use Rattle.grammar.specs.Neighbours.{taker}
use Rattle.grammar.specs.Machine.{Frame, State, start, function_of, completed, closed, ended, standing, decided, settled, is_name, begun, continued, operand_step, operator_step, step, run, outcome, accepted}
use Rattle.grammar.specs.Machine.Frame.{bracket, pending}
use Rattle.grammar.specs.Machine.State.{operand_due, operator_due, refused}
use Rattle.grammar.specs.Beginnings.{Live}
use Rattle.grammar.specs.Dues.{due_after, Tells}
use Rattle.grammar.specs.Verdicts.{FailsAt, FailsAtEnd}
use Rattle.grammar.specs.Refusals.{open_behind, open_from, open_after, UnmatchedIsUnmatched}
use Rattle.grammar.proofs.Viability.{run-append, refused_is_dead}
use Rattle.grammar.proofs.Stated.{machine_tells_due}
use Rattle.grammar.proofs.Judging.{front_live, found_reads}

-- the brackets that are open on a stack
abbrev brackets : List Frame → ℕ
brackets [] = 0
brackets (bracket ∷ k) = brackets k + 1
brackets (pending u ∷ k) = brackets k

-- n brackets are open in the state
abbrev Opens : State → ℕ → Type 0
Opens (operand_due k) n = n ≡ brackets k
Opens (operator_due k b) n = n ≡ brackets k
Opens refused n = Unit {0}

closed_opens : (k : List Frame) (b : Bracketed) (n : ℕ) → n ≡ brackets k → Opens (closed k b) (n - 1)
closed_opens [] b n e = tt
closed_opens (bracket ∷ k) b n e = omega arith
closed_opens (pending u ∷ k) b n e = closed_opens k (completed u b) n e

standing_opens : (x : Option Fixity) (f : ℕ) (k : List Frame) (b : Bracketed) (n : ℕ) → n ≡ brackets k → Opens (standing x f k b) n
standing_opens None f k b n e = tt
standing_opens (Some prefix) f k b n e = tt
standing_opens (Some postfix) f k b n e = e
standing_opens (Some between) f k b n e = e

decided_opens : (v : Option Taker) (further here : State) (n : ℕ) → Opens further n → Opens here n → Opens (decided v further here) n
decided_opens (Some Left) further here n f h = f
decided_opens (Some Right) further here n f h = h
decided_opens None further here n f h = tt

closed_refused : (k : List Frame) (b : Bracketed) → closed k b ≡ refused → brackets k ≡ 0
closed_refused [] b e = refl
closed_refused (bracket ∷ k) b e = cc
closed_refused (pending u ∷ k) b e = closed_refused k (completed u b) e

ended_none : (k : List Frame) (b : Bracketed) → ended k b ≡ None → 0 < brackets k
ended_none [] b e = cc
ended_none (bracket ∷ k) b e = omega arith
ended_none (pending u ∷ k) b e = ended_none k (completed u b) e

module _ (t : Table) where
  settled_opens : (f : ℕ) (k : List Frame) (b : Bracketed) (n : ℕ) → n ≡ brackets k → Opens (settled t f k b) n
  settled_opens f [] b n e = standing_opens (fixity_in t f) f [] b n e
  settled_opens f (bracket ∷ k) b n e = standing_opens (fixity_in t f) f (bracket ∷ k) b n e
  settled_opens f (pending u ∷ k) b n e =
      decided_opens (taker (operator_in t (function_of u)) (operator_in t f)) (settled t f k (completed u b)) (standing (fixity_in t f) f (pending u ∷ k) b) n
      (settled_opens f k (completed u b) n e) (standing_opens (fixity_in t f) f (pending u ∷ k) b n e)

  begun_opens : (s : List ℕ) (o : Option ℕ) (v : Bool) (k : List Frame) (n : ℕ) → n ≡ brackets k → Opens (begun s o v k) n
  begun_opens s (Some f) v k n e = e
  begun_opens s None true k n e = e
  begun_opens s None false k n e = tt

  continued_opens : (o : Option ℕ) (k : List Frame) (b : Bracketed) (n : ℕ) → n ≡ brackets k → Opens (continued t o k b) n
  continued_opens (Some f) k b n e = settled_opens f k b n e
  continued_opens None k b n e = tt

  operand_opens : (kind : TokenKind) (s : List ℕ) (k : List Frame) (n : ℕ) → n ≡ brackets k → Opens (operand_step t kind s k) (open_behind kind n)
  operand_opens Word s k n e = begun_opens s (listed t Before s) (is_name t s) k n e
  operand_opens Symbol s k n e = begun_opens s (listed t Before s) false k n e
  operand_opens Open s k n e = ap (λ m. m + 1) e
  operand_opens Close s k n e = tt

  operator_opens : (kind : TokenKind) (s : List ℕ) (k : List Frame) (b : Bracketed) (n : ℕ) → n ≡ brackets k → Opens (operator_step t kind s k b) (open_behind kind n)
  operator_opens Word s k b n e = continued_opens (listed t After s) k b n e
  operator_opens Symbol s k b n e = continued_opens (listed t After s) k b n e
  operator_opens Open s k b n e = tt
  operator_opens Close s k b n e = closed_opens k b n e

  step_opens : (st : State) (n : ℕ) (x : Lexeme) → Opens st n → Opens (step t st x) (open_behind x.kind n)
  step_opens (operand_due k) n x e = operand_opens x.kind x.bytes k n e
  step_opens (operator_due k b) n x e = operator_opens x.kind x.bytes k b n e
  step_opens refused n x e = tt

  run_opens : (xs : List Lexeme) (st : State) (n : ℕ) → Opens st n → Opens (run t st xs) (open_from n xs)
  run_opens [] st n h = h
  run_opens (x ∷ xs) st n h = run_opens xs (step t st x) (open_behind x.kind n) (step_opens st n x h)

  -- a `)` that the state refuses, and an end that it does not accept
  close_unmatched : (st : State) (d : Due) (n : ℕ) (x : Lexeme) → (st ≡ refused → ⊥) → Tells st d → Opens st n → d ≡ Operator → x.kind ≡ Close → step t st x ≡ refused → n ≡ 0
  close_unmatched (operand_due k) d n x live tells opens op kind e = cc
  close_unmatched (operator_due k b) d n x live tells opens op kind e =
      opens ∙ closed_refused k b (sym (ap (λ (j : TokenKind). operator_step t j x.bytes k b) kind) ∙ e)
  close_unmatched refused d n x live tells opens op kind e = absurd (live refl)

  end_unmatched : (st : State) (d : Due) (n : ℕ) → (st ≡ refused → ⊥) → Tells st d → Opens st n → d ≡ Operator → outcome st ≡ None → 0 < n
  end_unmatched (operand_due k) d n live tells opens op e = cc
  end_unmatched (operator_due k b) d n live tells opens op e = omega (arith, ended_none k b e)
  end_unmatched refused d n live tells opens op e = absurd (live refl)

refused_or : (st : State) → ((st ≡ refused → ⊥) → ⊥) → st ≡ refused
refused_or (operand_due k) h = absurd (h (λ e. cc))
refused_or (operator_due k b) h = absurd (h (λ e. cc))
refused_or refused h = refl

none_or : (o : Option Bracketed) → ((b : Bracketed) → o ≡ Some b → ⊥) → o ≡ None
none_or None h = refl
none_or (Some b) h = absurd (h b refl)

module _ (t : Table) (lawful : LawfulTable t) (text : List ℕ) where
  dead_refused : (front : List Placed) (x : Placed) → FailsAt t text front x → step t (run t start (map lexeme front)) (lexeme x) ≡ refused
  dead_refused front x h =
      let split = h.split ∙ sym (append_assoc front (x ∷ []) h.rest) in
      let at = map_push lexeme front x in
      sym (ap (run t start) at ∙ run-append t (map lexeme front) (lexeme x ∷ []) start)
      ∙ refused_or (run t start (map lexeme (front ++ (x ∷ [])))) (λ n. h.dead (subst (Live t) at (front_live t lawful text (front ++ (x ∷ [])) h.rest split n)))

  close_at : (front : List Placed) (x : Placed) → FailsAt t text front x → x.kind ≡ Close → due_after t (map lexeme front) ≡ Operator → open_after (map lexeme front) ≡ 0
  close_at front x h kind op =
      close_unmatched t (run t start (map lexeme front)) (due_after t (map lexeme front)) (open_after (map lexeme front)) (lexeme x) (λ e. refused_is_dead t lawful (map lexeme front) e h.live)
      (machine_tells_due t lawful (map lexeme front)) (run_opens t (map lexeme front) start 0 refl) op kind (dead_refused front x h)

  end_at : AllByRecursion LawfulByte text → FailsAtEnd t text → due_after t (lexemes_of text) ≡ Operator → 0 < open_after (lexemes_of text)
  end_at bytes h op =
      end_unmatched t (run t start (lexemes_of text)) (due_after t (lexemes_of text)) (open_after (lexemes_of text)) (λ e. refused_is_dead t lawful (lexemes_of text) e h.live)
      (machine_tells_due t lawful (lexemes_of text)) (run_opens t (lexemes_of text) start 0 refl) op (none_or (accepted t (lexemes_of text)) (λ b e. h.unread (erase b) (found_reads t lawful text bytes b e)))

pub unmatched_is_unmatched : UnmatchedIsUnmatched
unmatched_is_unmatched t lawful text = (close_at t lawful text, end_at t lawful text)
