-- What the loop over the tokens keeps, and what it comes to.
use Rattle.std.proofs.Common.{◌≡◌, ℕ, ◌+◌, ◌<◌, ◌≤◌, List, [], ◌∷◌, ◌++◌, map, length, Some, None, Ok, Err, Option, Result, sym, refl, ap, ◌∙◌, subst, append_assoc, append-nil, arith}
use Rattle.std.specs.List.{AllByRecursion}
use Rattle.std.proofs.lemmas.List.{length-append, length-map, map_push}
use Rattle.tokens.specs.Faults.{fault}
use Rattle.tokens.specs.Limits.{Lawful as LawfulByte}
use Rattle.tokens.specs.Spacing.{lexemes_of}
use Rattle.tokens.specs.Tokens.{Lexeme, Placed, lexeme, tokens_of}
use Rattle.notation.specs.Tables.{Table, LawfulTable}
use Rattle.grammar.specs.declared.due.Due.{Due}
use Rattle.grammar.specs.declared.due.Due.TheVariants.{Operand}
use Rattle.grammar.specs.Trees.{Tree, Bracketed, erase}
use Rattle.grammar.specs.Reading.{Reads}
use Rattle.grammar.specs.Machine as M
use Rattle.grammar.specs.Machine.{State}
use Rattle.grammar.specs.Machine.State.{operand_due, operator_due}
use Rattle.grammar.specs.Dues.{Tells}
use Rattle.grammar.specs.Refusals.{fault_at, fault_at_end, Answered}
use Rattle.grammar.proofs.Judging.{found_reads}
use Rattle.grammar.proofs.Told.{answered_at, answered_at_end}
use Rattle.rack.specs.declared.node.Node.{Node}
use Rattle.rack.specs.Nodes.{nodes_of}
use Rattle.reading.specs.Outside.{SameOutside}
use Rattle.reading.specs.Yard.{Site, site, Yard, finished, step, run}
use Rattle.reading.specs.Yard.Yard.{stands, refused}
use Rattle.reading.proofs.Bounds.{Spans, Within, run_within}
use Rattle.reading.proofs.Known.{known}
use Rattle.reading.proofs.Racks.{Holding}
use Rattle.reading.proofs.Views.{Shows, Finishes, outcome_finishes, step_shows, shown}

-- What a yard says of the state that it shows.
module _ (old : List Node) (mark : ℕ) where
  unrefused : (st : State) (y : Yard) (d : Due) (s : Site) → Shows old mark st y → y ≡ stands d s → st ≡ M.refused → ⊥
  unrefused (operand_due k) y d s h e r = let z : ◌≡◌ {A = ℕ} 0 1 = cc in omega arith
  unrefused (operator_due k b) y d s h e r = let z : ◌≡◌ {A = ℕ} 0 1 = cc in omega arith
  unrefused M.refused y d s (rack, f, h) e r = let z : ◌≡◌ {A = ℕ} 0 1 = cc in omega arith

  tells : (st : State) (y : Yard) (d : Due) (s : Site) → Shows old mark st y → y ≡ stands d s → Tells st d
  tells (operand_due k) y d s (rack, n, f, h) e = cc
  tells (operator_due k b) y d s (rack, n, f, h) e = cc
  tells M.refused y d s h e = tt

  outside : (st : State) (y : Yard) (d : Due) (s : Site) → Shows old mark st y → y ≡ stands d s → SameOutside mark old s.rack
  outside (operand_due k) y d s (rack, n, f, h) e = let same : rack ≡ s.rack = cc in subst (SameOutside mark old) same h.outside
  outside (operator_due k b) y d s (rack, n, f, h) e = let same : rack ≡ s.rack = cc in subst (SameOutside mark old) same h.outside
  outside M.refused y d s (rack, f, h) e = let z : ◌≡◌ {A = ℕ} 0 1 = cc in absurd (omega arith)

  -- a text that has failed, or that ends too soon, leaves the rack as it was outside of the places from the mark on
  is_refused : (st : State) (y : Yard) (left : List Node) → Shows old mark st y → y ≡ refused left → (st ≡ M.refused) × SameOutside mark old left
  is_refused (operand_due k) y left (rack, n, f, h) e = let z : ◌≡◌ {A = ℕ} 0 1 = cc in absurd (omega arith)
  is_refused (operator_due k b) y left (rack, n, f, h) e = let z : ◌≡◌ {A = ℕ} 0 1 = cc in absurd (omega arith)
  is_refused M.refused y left (rack, f, h) e = let same : rack ≡ left = cc in (refl, subst (SameOutside mark old) same h)

  no_tree : (o : Option Bracketed) (r : Result Site (List Node)) (left : List Node) → Finishes old mark o r → r ≡ Err left → (o ≡ None) × SameOutside mark old left
  no_tree None r left (rack, f, h) e = let same : rack ≡ left = cc in (refl, subst (SameOutside mark old) same h)
  no_tree (Some b) r left (rack, n, f, h) e = let z : ◌≡◌ {A = ℕ} 0 1 = cc in absurd (omega arith)

  -- a bracketed tree whose nodes lie in the rack
  pub record Laid (o : Option Bracketed) (rack : List Node) (n : ℕ) : Type 0 where
    pub tree : Bracketed
    pub is : o ≡ Some tree
    pub nodes : Holding old rack mark n (nodes_of (erase tree))

  laid : (o : Option Bracketed) (r : Result Site (List Node)) (s : Site) → Finishes old mark o r → r ≡ Ok s → Laid o s.rack s.next
  laid None r s (rack, f, h) e = let z : ◌≡◌ {A = ℕ} 0 1 = cc in absurd (omega arith)
  laid (Some b) r s (rack, n, f, h) e =
      let same : site mark [] rack n ≡ s = cc in
      record { tree = b; is = refl; nodes = subst (λ (v : Site). Holding old v.rack mark v.next (nodes_of (erase b))) same h }

-- a step by one table is the step by a table that is the same
pub step_by : (t u : Table) → u ≡ t → (y z : Yard) (x : Lexeme) → y ≡ step u z x → y ≡ step t z x
step_by t u same y z x e = e ∙ ap (λ v. step v z x) same

module _ (t : Table) (text : List ℕ) (old : List Node) (mark : ℕ) where
  abbrev reached : List Placed → Yard
  reached done = run t (stands Operand (site mark [] old mark)) (map lexeme done)

  -- some tokens are done, the others are ahead, and this is due at the site
  pub record Sofar (ahead : List Placed) (d : Due) (s : Site) : Type 0 where
    pub done : List Placed
    pub split : tokens_of text ≡ done ++ ahead
    pub at : reached done ≡ stands d s

  run_push : (xs : List Lexeme) (x : Lexeme) (y : Yard) → run t y (xs ++ (x ∷ [])) ≡ step t (run t y xs) x
  unfolding run
  run_push [] x y = refl
  run_push (w ∷ xs) x y = run_push xs x (step t y w)

  pub sofar_begun : (ahead : List Placed) (d : Due) (s : Site) → ahead ≡ tokens_of text → stands d s ≡ stands Operand (site mark [] old mark) → Sofar ahead d s
  unfolding run
  sofar_begun ahead d s all e = record { done = []; split = sym all; at = sym e }

  pub sofar_whole : (d : Due) (s : Site) → stands d s ≡ run t (stands Operand (site mark [] old mark)) (lexemes_of text) → Sofar [] d s
  sofar_whole d s e = record { done = tokens_of text; split = sym (append-nil (tokens_of text)); at = sym e }

  reached_push : (done : List Placed) (x : Placed) (d : Due) (s : Site) → reached done ≡ stands d s → reached (done ++ (x ∷ [])) ≡ step t (stands d s) (lexeme x)
  reached_push done x d s e =
      ap (run t (stands Operand (site mark [] old mark))) (map_push lexeme done x) ∙ run_push (map lexeme done) (lexeme x) (stands Operand (site mark [] old mark)) ∙ ap (λ (y : Yard). step t y (lexeme x)) e

  module _ (ahead : List Placed) (d : Due) (s : Site) (h : Sofar ahead d s) where
    pub sofar_more : (x : Placed) (rest : List Placed) (e : Due) (r : Site) → ahead ≡ x ∷ rest → stands e r ≡ step t (stands d s) (lexeme x) → Sofar rest e r
    sofar_more x rest e r next went =
        record {
          done = h.done ++ (x ∷ []);
          split = h.split ∙ ap (λ (l : List Placed). h.done ++ l) next ∙ sym (append_assoc h.done (x ∷ []) rest);
          at = reached_push h.done x d s h.at ∙ sym went;
        }

    -- the site spans as many places as tokens are done
    sofar_spans : Spans mark (mark + length h.done) s
    sofar_spans =
        let start : Spans mark mark (site mark [] old mark) = record { marked = refl; few = omega arith } in
        let within = run_within mark t (map lexeme h.done) mark (stands Operand (site mark [] old mark)) start in
        subst (λ n. Spans mark (mark + n) s) (length-map h.done lexeme) (subst (Within mark (mark + length (map lexeme h.done))) h.at within)

    pub sofar_room : (x : Placed) (rest : List Placed) → ahead ≡ x ∷ rest → length (tokens_of text) ≤ 1024 → s.next + length s.waiting < s.mark + 1024
    sofar_room x rest next few = omega (arith, sofar_spans.few, sofar_spans.marked, ap length h.split, length-append h.done ahead, ap length next)

    -- all tokens are done
    whole : ahead ≡ [] → map lexeme h.done ≡ lexemes_of text
    whole end = ap (map lexeme) (sym (h.split ∙ ap (λ (l : List Placed). h.done ++ l) end ∙ append-nil h.done))

    pub all_done : ahead ≡ [] → stands d s ≡ run t (stands Operand (site mark [] old mark)) (lexemes_of text)
    all_done end = sym h.at ∙ ap (run t (stands Operand (site mark [] old mark))) (whole end)

    state : State
    state = M.run t M.start (map lexeme h.done)

    shows : Shows old mark state (reached h.done)
    unfolding state
    shows = shown old mark t (map lexeme h.done)

    module _ (lawful : LawfulTable t) where
      -- the next token fails
      pub token_fails : (x : Placed) (rest : List Placed) → ahead ≡ x ∷ rest → (left : List Node) → refused left ≡ step t (stands d s) (lexeme x) → Answered t text (Err (fault (fault_at t d (lexeme x)) x.place)) × SameOutside mark old left
      unfolding state
      token_fails x rest next left fails =
          let told = is_refused old mark (M.step t state (lexeme x)) (step t (reached h.done) (lexeme x)) left (step_shows old mark t state (reached h.done) (lexeme x) (known t (map lexeme h.done)) shows) (ap (λ (y : Yard). step t y (lexeme x)) h.at ∙ sym fails) in
          (answered_at t lawful text h.done x rest d (h.split ∙ ap (λ (l : List Placed). h.done ++ l) next) (unrefused old mark state (reached h.done) d s shows h.at) (tells old mark state (reached h.done) d s shows h.at) told.0, told.1)

      run_whole : ahead ≡ [] → state ≡ M.run t M.start (lexemes_of text)
      unfolding state
      run_whole end = ap (M.run t M.start) (whole end)

      -- the end fails
      pub end_fails : ahead ≡ [] → (left : List Node) → Err left ≡ finished (stands d s) → Answered t text (Err (fault (fault_at_end d) (length text))) × SameOutside mark old left
      end_fails end left fails =
          let same = run_whole end in
          let told = no_tree old mark (M.outcome state) (finished (reached h.done)) left (outcome_finishes old mark state (reached h.done) shows) (ap finished h.at ∙ sym fails) in
          (answered_at_end t lawful text d (λ e. unrefused old mark state (reached h.done) d s shows h.at (same ∙ e)) (subst (λ (st : State). Tells st d) same (tells old mark state (reached h.done) d s shows h.at)) (ap M.outcome (sym same) ∙ told.0), told.1)

      -- the text reads as a tree, and the rack holds its nodes
      pub text_read : AllByRecursion LawfulByte text → ahead ≡ [] → (r : Site) → Ok r ≡ finished (stands d s) → (tree : Tree) × Reads t text tree × Holding old r.rack mark r.next (nodes_of tree)
      text_read bytes end r ends =
          let l = laid old mark (M.outcome state) (finished (reached h.done)) r (outcome_finishes old mark state (reached h.done) shows) (ap finished h.at ∙ sym ends) in
          (erase l.tree, found_reads t lawful text bytes l.tree (ap M.outcome (sym (run_whole end)) ∙ l.is), l.nodes)
