-- While the machine has not refused, some text goes on to read; once it has, none does.
use Rattle.std.proofs.Common.{◌≡◌, List, [], ◌∷◌, ◌++◌, replicate, Some, None, sym, refl, ap, ◌∙◌, subst}
use Rattle.std.specs.List.{AllByRecursion}
use Rattle.std.proofs.ByRecursion.{All-append}
use Rattle.tokens.specs.Spacing.{spaced}
use Rattle.tokens.specs.Tokens.{Lexeme}
use Rattle.notation.specs.Tables.{Table, LawfulTable}
use Rattle.grammar.specs.Trees.{Bracketed, erase}
use Rattle.grammar.specs.Trees.Bracketed.{named, pair}
use Rattle.grammar.specs.Reading.{word, closing, Formed, ReadsTokens}
use Rattle.grammar.specs.Machine.{Pending, Frame, State, start, completed, step, run, outcome, accepted}
use Rattle.grammar.specs.Machine.Frame.{bracket, pending}
use Rattle.grammar.specs.Machine.State.{operand_due, operator_due, refused}
use Rattle.grammar.specs.Beginnings.{LiveTokens, Live, TextsLiveAsTokens, RefusedIsDead, UnrefusedIsLive}
use Rattle.grammar.proofs.Tables.{long_name}
use Rattle.grammar.proofs.Completeness.{step_name, finds_all}
use Rattle.grammar.proofs.Soundness.{finds_only}
use Rattle.grammar.proofs.Texts.{closing_formed, spaces}

-- a `)` for each bracket that is open
abbrev closings : List Frame → List Lexeme
closings [] = []
closings (bracket ∷ k) = closing ∷ closings k
closings (pending u ∷ k) = closings k

closings_formed : (k : List Frame) → AllByRecursion Formed (closings k)
closings_formed [] = tt
closings_formed (bracket ∷ k) = (closing_formed, closings_formed k)
closings_formed (pending u ∷ k) = closings_formed k

module _ (t : Table) where
  pub run-append : (xs ys : List Lexeme) (st : State) → run t st (xs ++ ys) ≡ run t (run t st xs) ys
  run-append [] ys st = refl
  run-append (x ∷ xs) ys st = run-append xs ys (step t st x)

  run_refused : (xs : List Lexeme) → run t refused xs ≡ refused
  run_refused [] = refl
  run_refused (x ∷ xs) = run_refused xs

  -- before a `)` or the end, what waits takes its operand
  taken : (u : Pending) (k : List Frame) (b : Bracketed) (j : List Frame) → outcome (run t (operator_due (pending u ∷ k) b) (closings j)) ≡ outcome (run t (operator_due k (completed u b)) (closings j))
  taken u k b [] = refl
  taken u k b (bracket ∷ j) = refl
  taken u k b (pending v ∷ j) = taken u k b j

  shut : (k : List Frame) (b : Bracketed) → (c : Bracketed) × (outcome (run t (operator_due k b) (closings k)) ≡ Some c)
  shut [] b = (b, refl)
  shut (bracket ∷ k) b = shut k (pair b)
  shut (pending u ∷ k) b = let (c, e) = shut k (completed u b) in (c, taken u k b k ∙ e)

  -- some well-formed tokens lead from the state to a bracketed tree
  pub record GoesOn (st : State) : Type 0 where
    pub more : List Lexeme
    pub formed : AllByRecursion Formed more
    pub tree : Bracketed
    pub found : outcome (run t st more) ≡ Some tree

  dead_tokens : LawfulTable t → (front : List Lexeme) → run t start front ≡ refused → LiveTokens t front → ⊥
  dead_tokens lawful front e live =
      let r = live.reads in
      let found : accepted t (front ++ live.more) ≡ Some r.bracketed = ap (accepted t) (sym r.tokens) ∙ finds_all t lawful r.bracketed r.lawful in
      let none : accepted t (front ++ live.more) ≡ None = ap outcome (run-append front live.more start ∙ ap (λ (st : State). run t st live.more) e ∙ run_refused live.more) in
      cc

  module _ (lawful : LawfulTable t) where
    goes_on : (st : State) → (st ≡ refused → ⊥) → GoesOn st
    goes_on (operand_due k) n =
        let name = long_name t lawful in
        let (c, e) = shut k (named (replicate 13 97)) in
        record { more = word (replicate 13 97) ∷ closings k; formed = (name.word, closings_formed k); tree = c; found = ap (λ (st : State). outcome (run t st (closings k))) (step_name t (replicate 13 97) k name) ∙ e }
    goes_on (operator_due k b) n = let (c, e) = shut k b in record { more = closings k; formed = closings_formed k; tree = c; found = e }
    goes_on refused n = absurd (n refl)

    live_tokens : (front : List Lexeme) → AllByRecursion Formed front → (run t start front ≡ refused → ⊥) → LiveTokens t front
    live_tokens front h n =
        let g = goes_on (run t start front) n in
        let all = front ++ g.more in
        let (law, same) = finds_only t all (All-append Formed front g.more h g.formed) g.tree (ap outcome (run-append front g.more start) ∙ g.found) in
        record { more = g.more; tree = erase g.tree; reads = record { bracketed = g.tree; lawful = law; tokens = same; erased = refl } }

    live_text : (front : List Lexeme) → LiveTokens t front → Live t front
    live_text front l =
        let s = spaces t lawful (front ++ l.more) l.tree l.reads in
        record { text = spaced (front ++ l.more); more = l.more; tree = l.tree; begins = s.cut; reads = s.reads }

    text_live : (front : List Lexeme) → Live t front → LiveTokens t front
    text_live front l = record { more = l.more; tree = l.tree; reads = subst (λ (xs : List Lexeme). ReadsTokens t xs l.tree) l.begins l.reads.reading }

pub texts_live_as_tokens : TextsLiveAsTokens
texts_live_as_tokens t lawful front = (text_live t lawful front, live_text t lawful front)

pub refused_is_dead : RefusedIsDead
refused_is_dead t lawful front e l = dead_tokens t lawful front e (text_live t lawful front l)

pub unrefused_is_live : UnrefusedIsLive
unrefused_is_live t lawful front h n = live_text t lawful front (live_tokens t lawful front h n)
