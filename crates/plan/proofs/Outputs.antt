-- A line comes out in one way, and so does an input; what the loop over the lines keeps.
use Rattle.std.proofs.Common.{◌≡◌, ℕ, ◌+◌, ◌*◌, ◌≤◌, Bool, true, false, cond, List, [], ◌∷◌, ◌++◌, length, Ok, Err, Result, sym, refl, ap, ◌∙◌, subst, inl, inr, ⊎_elim, append_assoc, append-nil, arith}
use Rattle.std.specs.List.{flat_map}
use Rattle.std.proofs.lemmas.List.{length-append, length_push, flat_map_more}
use Rattle.tokens.specs.declared.fault.Fault.{Fault}
use Rattle.tokens.specs.InOrder.{Only}
use Rattle.tokens.specs.Limits.{WithinLimits}
use Rattle.tokens.specs.Spacing.{respaced, pairs_of}
use Rattle.tokens.proofs.Checks.{limits_one, within_accepted}
use Rattle.tokens.proofs.Spaces.{pairs_within}
use Rattle.notation.specs.Tables.{Table, LawfulTable}
use Rattle.grammar.specs.Trees.{Tree}
use Rattle.grammar.specs.Reading.{Reads}
use Rattle.grammar.specs.Refusals.{Answered}
use Rattle.grammar.specs.Verdicts.Verdict.{reads}
use Rattle.grammar.proofs.Verdicts.{one_answer}
use Rattle.plan.specs.Plans.{begins_tail, up_to_tail, ExpressionFault, LineFault, LineReads, ComesOut, Entry, bytes_of, ComesOutAs, EachComesOut, line_in, pairs_in, lines_added, pairs_added, PlanOutput, room_for}
use Rattle.plan.specs.Reports.{line_end, fault_line, tail_line}
use Rattle.plan.proofs.Parts.{plan_line_one}

module _ (t : Table) (lawful : LawfulTable t) where
  -- a text within the limits has one answer
  answer_one : (text : List ℕ) → WithinLimits text → (r s : Result Tree Fault) → Answered t text r → Answered t text s → r ≡ s
  answer_one text within r s p q =
      let (x, only) = one_answer t lawful text within.lawful in
      only.only r p ∙ sym (only.only s q)

  -- an expression that reads is not refused, and one that is refused has one fault
  reads_on : (text : List ℕ) (tree : Tree) (f : Fault) → WithinLimits text → Reads t text tree → ExpressionFault t text f → ⊥
  reads_on text tree f within r =
      ⊎_elim
      (λ limit. let e = limits_one text (Ok tt) (Err f) (within_accepted text within) limit in absurd cc)
      (λ (_, answered). let e = answer_one text within (Ok tree) (Err f) (reads tree, r, refl) answered in absurd cc)

  expression_fault : (text : List ℕ) (f g : Fault) → ExpressionFault t text f → ExpressionFault t text g → f ≡ g
  expression_fault text f g (inl p) (inl q) = let e = limits_one text (Err f) (Err g) p q in cc
  expression_fault text f g (inl p) (inr (within, _)) = let e = limits_one text (Ok tt) (Err f) (within_accepted text within) p in absurd cc
  expression_fault text f g (inr (within, _)) (inl q) = let e = limits_one text (Ok tt) (Err g) (within_accepted text within) q in absurd cc
  expression_fault text f g (inr (within, p)) (inr (_, q)) = let e = answer_one text within (Err f) (Err g) p q in cc

  -- a line that reads is not refused, and one that is refused has one fault
  not_refused : (line ds es : List ℕ) (f : Fault) → LineReads t line ds es → LineFault t line f → ⊥
  not_refused line ds es f h (inl (none, _)) = none ds es h.is
  not_refused line ds es f h (inr (fs, gs, other, refused)) =
      let same = (plan_line_one line fs gs ds es other h.is).1 in
      reads_on es h.tree f h.within h.reads (subst (λ (l : List ℕ). ExpressionFault t l f) same refused)

  one_fault : (line : List ℕ) (f g : Fault) → LineFault t line f → LineFault t line g → f ≡ g
  one_fault line f g (inl (none, is)) (inl (_, also)) = is ∙ sym also
  one_fault line f g (inl (none, _)) (inr (ds, es, plan, _)) = absurd (none ds es plan)
  one_fault line f g (inr (ds, es, plan, _)) (inl (none, _)) = absurd (none ds es plan)
  one_fault line f g (inr (ds, es, plan, refused)) (inr (fs, gs, other, also)) =
      let same = (plan_line_one line fs gs ds es other plan).1 in
      expression_fault es f g refused (subst (λ (l : List ℕ). ExpressionFault t l g) same also)

  module _ (number : ℕ) (line : List ℕ) where
    one_way : (o q : Result ℕ Fault) (bs cs : List ℕ) → ComesOut t number line o bs → ComesOut t number line q cs → ◌≡◌ {A = Entry} (record { outcome = o; bytes = bs }) (record { outcome = q; bytes = cs })
    one_way (Ok m) (Ok n) bs cs (ds, es, h, pairs, bytes) (fs, gs, k, more, others) =
        let same = plan_line_one line ds es fs gs h.is k.is in
        let outcome : ◌≡◌ {A = Result ℕ Fault} (Ok m) (Ok n) = ap Ok (pairs ∙ ap pairs_of same.1 ∙ sym more) in
        let out : bs ≡ cs = bytes ∙ (λ i. same.0 i ++ (9 ∷ (respaced (same.1 i) ++ line_end))) ∙ sym others in
        λ i. record { outcome = outcome i; bytes = out i }
    one_way (Ok m) (Err f) bs cs (ds, es, h, pairs, bytes) (fault, _) = absurd (not_refused line ds es f h fault)
    one_way (Err f) (Ok m) bs cs (fault, _) (ds, es, h, pairs, bytes) = absurd (not_refused line ds es f h fault)
    one_way (Err f) (Err g) bs cs (fault, bytes) (other, others) =
        let same = one_fault line f g fault other in
        let outcome : ◌≡◌ {A = Result ℕ Fault} (Err f) (Err g) = ap Err same in
        let out : bs ≡ cs = bytes ∙ ap (fault_line number) same ∙ sym others in
        λ i. record { outcome = outcome i; bytes = out i }

    pub comes_out_one : (d e : Entry) → ComesOutAs t number line d → ComesOutAs t number line e → d ≡ e
    comes_out_one d e p q = one_way d.outcome e.outcome d.bytes e.bytes p q

    pub comes_out_only : (e : Entry) → ComesOutAs t number line e → Only (ComesOutAs t number line) e
    comes_out_only e h = record { is = h; only = λ d k. comes_out_one d e k h }

  -- the output is fixed
  each_one : (n : ℕ) (ls : List (List ℕ)) (ds es : List Entry) → EachComesOut t n ls ds → EachComesOut t n ls es → ds ≡ es
  each_one n [] [] [] p q = refl
  each_one n [] [] (e ∷ es) p q = absurd q
  each_one n [] (d ∷ ds) es p q = absurd p
  each_one n (l ∷ ls) [] es p q = absurd p
  each_one n (l ∷ ls) (d ∷ ds) [] p q = absurd q
  each_one n (l ∷ ls) (d ∷ ds) (e ∷ es) p q =
      let first = comes_out_one n l d e p.0 q.0 in
      let rest = each_one (n + 1) ls ds es p.1 q.1 in
      λ i. first i ∷ rest i

  pub plan_output_one : (count : ℕ) (lines : List (List ℕ)) (out other : List ℕ) → PlanOutput t count lines out → PlanOutput t count lines other → out ≡ other
  plan_output_one count lines out other h k =
      let same = each_one (count + 1) lines h.entries k.entries h.each k.each in
      h.whole ∙ ap (λ (es : List Entry). flat_map bytes_of es ++ tail_line (lines_added es) (pairs_added es)) same ∙ sym k.whole

-- One line more.
each_more : (t : Table) (n : ℕ) (ls : List (List ℕ)) (es : List Entry) (l : List ℕ) (e : Entry) → EachComesOut t n ls es → ComesOutAs t (n + length ls) l e → EachComesOut t n (ls ++ l ∷ []) (es ++ e ∷ [])
each_more t n [] [] l e h k = let z : n + 0 ≡ n = omega arith in (subst (λ m. ComesOutAs t m l e) z k, tt)
each_more t n [] (d ∷ es) l e h k = absurd h
each_more t n (m ∷ ls) [] l e h k = absurd h
each_more t n (m ∷ ls) (d ∷ es) l e h k =
    let next : n + length (m ∷ ls) ≡ n + 1 + length ls = omega arith in
    (h.0, each_more t (n + 1) ls es l e h.1 (subst (λ i. ComesOutAs t i l e) next k))

lines_more : (es : List Entry) (e : Entry) → lines_added (es ++ e ∷ []) ≡ lines_added es + line_in e.outcome
lines_more [] e = omega arith
lines_more (d ∷ es) e = omega (arith, lines_more es e)

pairs_more : (es : List Entry) (e : Entry) → pairs_added (es ++ e ∷ []) ≡ pairs_added es + pairs_in e.outcome
pairs_more [] e = omega arith
pairs_more (d ∷ es) e = omega (arith, pairs_more es e)

pub one_line : (o : Result ℕ Fault) → line_in o ≤ 1
one_line (Ok n) = omega arith
one_line (Err f) = omega arith

pub few_pairs : (t : Table) (number : ℕ) (line : List ℕ) (o : Result ℕ Fault) (bytes : List ℕ) → ComesOut t number line o bytes → pairs_in o ≤ 1024
few_pairs t number line (Ok n) bytes (ds, es, h, pairs, _) = omega (arith, pairs_within es, h.within.tokens)
few_pairs t number line (Err f) bytes h = omega arith

pub room_some : (ls : List (List ℕ)) → 65 ≤ room_for ls
room_some [] = omega arith
room_some (l ∷ ls) = omega (arith, room_some ls)

-- some lines of the plan are done, the others ahead
pub record Sofar (t : Table) (all : List (List ℕ)) (before : ℕ) (start : List ℕ) (cap : ℕ) (ahead : List (List ℕ)) (count : ℕ) (out : List ℕ) (lines pairs : ℕ) : Type 0 where
  pub done : List (List ℕ)
  pub entries : List Entry
  pub split : all ≡ done ++ ahead
  pub counted : before + length done ≡ count
  pub each : EachComesOut t (before + 1) done entries
  pub bytes : out ≡ start ++ flat_map bytes_of entries
  pub lines_are : lines ≡ lines_added entries
  pub pairs_are : pairs ≡ pairs_added entries
  pub few_lines : lines ≤ count
  pub few_pairs : pairs ≤ 1024 * count
  pub room : length start + room_for all ≤ cap → length out + room_for ahead ≤ cap

module _ (t : Table) (all : List (List ℕ)) (before : ℕ) (start : List ℕ) (cap : ℕ) where
  pub sofar_none : Sofar t all before start cap all before start 0 0
  sofar_none =
      let none : before + 0 ≡ before = omega arith in
      record { done = []; entries = []; split = refl; counted = none; each = tt; bytes = sym (append-nil start); lines_are = refl; pairs_are = refl; few_lines = omega arith; few_pairs = omega arith; room = λ h. h }

  module _ (ahead : List (List ℕ)) (count : ℕ) (out : List ℕ) (lines pairs : ℕ) (h : Sofar t all before start cap ahead count out lines pairs) where
    module _ (l : List ℕ) (rest : List (List ℕ)) (next : ahead ≡ l ∷ rest) where
      pub sofar_more : (o : Result ℕ Fault) (bytes : List ℕ) → ComesOut t (count + 1) l o bytes → length bytes ≤ length l + 65
          → (count' : ℕ) (out' : List ℕ) (lines' pairs' : ℕ) → count' ≡ count + 1 → out' ≡ out ++ bytes → lines' ≡ lines + line_in o → pairs' ≡ pairs + pairs_in o
          → Sofar t all before start cap rest count' out' lines' pairs'
      sofar_more o bytes comes short count' out' lines' pairs' count_is out-is lines-is pairs_is =
          let e : Entry = record { outcome = o; bytes = bytes } in
          let number : count + 1 ≡ before + 1 + length h.done = omega (arith, h.counted) in
          record {
            done = h.done ++ l ∷ [];
            entries = h.entries ++ e ∷ [];
            split = h.split ∙ ap (λ (ls : List (List ℕ)). h.done ++ ls) next ∙ sym (append_assoc h.done (l ∷ []) rest);
            counted = omega (arith, length_push h.done l, h.counted, count_is);
            each = each_more t (before + 1) h.done h.entries l e h.each (subst (λ n. ComesOutAs t n l e) number comes);
            bytes = out-is ∙ ap (λ (m : List ℕ). m ++ bytes) h.bytes ∙ flat_map_more bytes_of start h.entries e;
            lines_are = omega (arith, lines-is, h.lines_are, lines_more h.entries e);
            pairs_are = omega (arith, pairs_is, h.pairs_are, pairs_more h.entries e);
            few_lines = omega (arith, lines-is, count_is, h.few_lines, one_line o);
            few_pairs = omega (arith, pairs_is, count_is, h.few_pairs, few_pairs t (count + 1) l o bytes comes);
            room = λ k. omega (arith, h.room k, ap room_for next, ap length out-is, length-append out bytes);
          }

    module _ (end : ahead ≡ []) where
      pub sofar_end : (added : List ℕ) × (out ++ tail_line lines pairs ≡ start ++ added) × PlanOutput t before all added
      sofar_end =
          let whole = h.split ∙ ap (λ (ls : List (List ℕ)). h.done ++ ls) end ∙ append-nil h.done in
          let tail : tail_line lines pairs ≡ tail_line (lines_added h.entries) (pairs_added h.entries) = λ i. tail_line (h.lines_are i) (h.pairs_are i) in (
            flat_map bytes_of h.entries ++ tail_line (lines_added h.entries) (pairs_added h.entries),
            (λ i. h.bytes i ++ tail i) ∙ append_assoc start (flat_map bytes_of h.entries) (tail_line (lines_added h.entries) (pairs_added h.entries)),
            record { entries = h.entries; each = subst (λ (ls : List (List ℕ)). EachComesOut t (before + 1) ls h.entries) (sym whole) h.each; whole = refl },
          )

-- the lines of a plan need no more room than all that follow
pub room_up_to : (ls : List (List ℕ)) → room_for (up_to_tail ls) ≤ room_for ls
room_up_to [] = omega arith
room_up_to (l ∷ ls) = by_test (begins_tail l) (room_up_to ls)
  where
    by_test : (b : Bool) → room_for (up_to_tail ls) ≤ room_for ls → room_for (cond b [] (l ∷ up_to_tail ls)) ≤ room_for (l ∷ ls)
    by_test true h = omega (arith, room_some ls)
    by_test false h = omega arith
