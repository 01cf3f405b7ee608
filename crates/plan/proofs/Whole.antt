-- The output of an input is fixed, and there is room for it.
use Rattle.std.proofs.Common.{◌≡◌, ℕ, ◌+◌, ◌≤◌, List, [], ◌∷◌, Ok, Err, Result, sym, ap, ◌∙◌, subst, ⊎_elim, arith}
use Rattle.tokens.specs.InOrder.{Only}
use Rattle.notation.specs.Tables.{Table}
use Rattle.plan.specs.declared.input_fault.InputFault.{InputFault}
use Rattle.plan.specs.Command.{Onward, AfterNotation, AfterBoth, Output}
use Rattle.plan.specs.InputLines.{counted_lines}
use Rattle.plan.specs.Plans.{up_to_tail, room_for}
use Rattle.plan.specs.Sections.{Section, Sectioned, Both, Declarations, Notation, TwoNotations}
use Rattle.plan.specs.Reports.{fault_line}
use Rattle.plan.proofs.LawfulSections.{notation_lawful}
use Rattle.plan.proofs.Outputs.{plan_output_one, room_up_to}
use Rattle.plan.proofs.Sectioning.{notation_one}

after_one : (P : Section → List ℕ → Type 0) (n : ℕ) (ls : List (List ℕ)) → ((s : Section) → Notation n ls (Ok s) → (a b : List ℕ) → P s a → P s b → a ≡ b) → (a b : List ℕ) → AfterNotation P n ls a → AfterNotation P n ls b → a ≡ b
after_one P n ls one a b (Ok s, h, p) (r, k, q) = one s h a b p (subst (λ (x : Sectioned). Onward P x b) (notation_one ls n r (Ok s) k h) q)
after_one P n ls one a b (Err e, h, p) (r, k, q) = p ∙ sym (subst (λ (x : Sectioned). Onward P x b) (notation_one ls n r (Err e) k h) q)

pub output_only : (input out : List ℕ) → Output input out → Only (Output input) out
output_only input out h =
    record {
      is = h;
      only = λ other k.
          after_one (λ s. AfterNotation (AfterBoth s.table) s.count s.rest) 0 (counted_lines input)
          (λ s first a b. after_one (AfterBoth s.table) s.count s.rest
          (λ u _ c d. plan_output_one s.table (notation_lawful (counted_lines input) 0 s first) u.count (up_to_tail u.rest) c d) a b)
          other out k h;
    }

-- what follows a notation needs no more room than all of it
ok_same : (s t : Section) → ◌≡◌ {A = Sectioned} (Ok s) (Ok t) → s ≡ t
ok_same s t e = cc

both_same : (b c : Both) → ◌≡◌ {A = Result Both InputFault} (Ok b) (Ok c) → b ≡ c
both_same b c e = cc

both_never : (b : Both) (e : InputFault) → ◌≡◌ {A = Result Both InputFault} (Ok b) (Err e) → ⊥
both_never b e h = absurd cc

never : (s : Section) (e : InputFault) → ◌≡◌ {A = Sectioned} (Ok s) (Err e) → ⊥
never s e h = let z : ◌≡◌ {A = ℕ} 0 1 = cc in omega arith

list_room : (ls : List (List ℕ)) (t : Table) (n : ℕ) (s : Section) → Declarations t n ls (Ok s) → room_for s.rest ≤ room_for ls
list_room [] t n s h = absurd (never s _ h)
list_room (l ∷ ls) t n s h =
    ⊎_elim
    (λ (_, is). omega (arith, ap (λ (x : Section). room_for x.rest) (ok_same s _ is)))
    (λ (_, either). ⊎_elim (λ (f, _, is). absurd (never s _ is)) (λ (_, (u, _, more)). omega (arith, list_room ls u (n + 1) s more)) either)
    h

section_room : (ls : List (List ℕ)) (n : ℕ) (s : Section) → Notation n ls (Ok s) → room_for s.rest ≤ room_for ls
section_room [] n s h = absurd (never s _ h)
section_room (l ∷ ls) n s h =
    ⊎_elim
    (λ (_, is). omega (arith, ap (λ (x : Section). room_for x.rest) (ok_same s _ is)))
    (λ (_, either). ⊎_elim (λ (_, more). omega (arith, list_room ls _ (n + 1) s more)) (λ (_, is). absurd (never s _ is)) either)
    h

both_room : (ls : List (List ℕ)) (n : ℕ) (b : Both) → TwoNotations n ls (Ok b) → room_for b.second.rest ≤ room_for ls
both_room ls n b (Ok s, first, (Ok u, second, is)) =
    omega (arith, section_room s.rest s.count u second, section_room ls n s first, ap (λ (x : Both). room_for x.second.rest) (both_same b _ is))
both_room ls n b (Ok s, first, (Err e, second, is)) = absurd (both_never b e is)
both_room ls n b (Err e, first, is) = absurd (both_never b e is)

-- what comes out after both notations, or the fault of one
abbrev pub OnwardBoth : Result Both InputFault → List ℕ → Type 0
OnwardBoth (Ok b) out = AfterBoth b.first b.second out
OnwardBoth (Err e) out = out ≡ fault_line e.line e.fault

-- The command from the lines of its input, which are ls after n lines.
module _ (input : List ℕ) (n : ℕ) (ls : List (List ℕ)) (all : ls ≡ counted_lines input) (none : n ≡ 0) where
  from_start : (r : Sectioned) → Notation n ls r → Notation 0 (counted_lines input) r
  from_start r h = subst (λ (k : List (List ℕ)). Notation 0 k r) all (subst (λ m. Notation m ls r) none h)

  pub whole : (r : Result Both InputFault) → TwoNotations n ls r → (out : List ℕ) → OnwardBoth r out → Output input out
  whole r (Ok s, first, (Ok u, second, is)) out h =
      (Ok s, from_start (Ok s) first, (Ok u, second, subst (λ (x : Result Both InputFault). OnwardBoth x out) is h))
  whole r (Ok s, first, (Err e, second, is)) out h =
      (Ok s, from_start (Ok s) first, (Err e, second, subst (λ (x : Result Both InputFault). OnwardBoth x out) is h))
  whole r (Err e, first, is) out h = (Err e, from_start (Err e) first, subst (λ (x : Result Both InputFault). OnwardBoth x out) is h)

  pub plan_room : (b : Both) → TwoNotations n ls (Ok b) → room_for (up_to_tail b.second.rest) ≤ room_for (counted_lines input)
  plan_room b h = omega (arith, room_up_to b.second.rest, both_room ls n b h, ap room_for all)

pub less_room : (used small large cap : ℕ) → small ≤ large → used + large ≤ cap → used + small ≤ cap
less_room used small large cap less enough = omega arith
