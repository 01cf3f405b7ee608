-- A plan line has one way to be taken apart. Assumes nothing.
use Rattle.std.proofs.Common.{◌≡◌, ℕ, suc, ◌-◌, ◌≤◌, List, [], ◌∷◌, ◌++◌, length, get_or, take, drop, sym, refl, ap, ◌∙◌, subst, ⊎_elim, arith}
use Rattle.std.specs.List.{AllByRecursion, prefix_len}
use Rattle.std.proofs.lemmas.List.{take-append-drop, take_all, drop_more, drop_all}
use Rattle.std.proofs.lemmas.List.Sums.{prefix_len_stops}
use Rattle.std.proofs.lemmas.Bool.{cases_lt, false≢true}
use Rattle.tokens.specs.Bytes.{is_digit}
use Rattle.plan.specs.PlanLines.{Digit, IsPlanLine, NoPlanLine, DigitsEnd}
use Rattle.plan.proofs.Fronts.{front_passes}

head_same : (x y : ℕ) (xs ys : List ℕ) → x ∷ xs ≡ y ∷ ys → x ≡ y
head_same x y xs ys e = cc

tail_same : (x y : ℕ) (xs ys : List ℕ) → x ∷ xs ≡ y ∷ ys → xs ≡ ys
tail_same x y xs ys e = cc

-- digits end in one place
one_split : (a b c d : List ℕ) → AllByRecursion Digit a → DigitsEnd b → AllByRecursion Digit c → DigitsEnd d → a ++ b ≡ c ++ d → (a ≡ c) × (b ≡ d)
one_split [] b [] d p q r s e = (refl, e)
one_split [] b (y ∷ c) d p q r s e = absurd (subst DigitsEnd e q r.0)
one_split (x ∷ a) b [] d p q r s e = absurd (subst DigitsEnd (sym e) s p.0)
one_split (x ∷ a) b (y ∷ c) d p q r s e =
    let rest = one_split a b c d p.1 q r.1 s (tail_same x y (a ++ b) (c ++ d) e) in
    let first = head_same x y (a ++ b) (c ++ d) e in
    (λ i. first i ∷ rest.0 i, rest.1)

-- no digit comes after the first digits
digits_end : (line : List ℕ) → DigitsEnd (drop (prefix_len is_digit line) line)
digits_end line =
    let n = prefix_len is_digit line in
    ⊎_elim
    (λ lt. subst DigitsEnd (sym (drop_more line n 0 lt)) (λ is. false≢true (sym (prefix_len_stops is_digit line 0 lt) ∙ is)))
    (λ end. subst DigitsEnd (sym (drop_all n line end)) tt)
    (cases_lt n (length line))

tab_ends : (rest : List ℕ) → DigitsEnd (9 ∷ rest)
tab_ends rest = λ e. false≢true e

pub tab_first : (rest : List ℕ) → 1 ≤ length rest → get_or rest 0 0 ≡ 9 → rest ≡ 9 ∷ take (length rest - 1) (drop 1 rest)
tab_first [] some tab = absurd (omega arith)
tab_first (b ∷ bs) some tab = let same : b ∷ bs ≡ 9 ∷ bs = ap (λ n. n ∷ bs) tab in same ∙ ap (λ (l : List ℕ). 9 ∷ l) (sym (take_all (suc (length bs) - 1) bs (omega arith)))

-- a line, parted where its first digits end
module _ (line digits rest : List ℕ) (front : digits ≡ take (prefix_len is_digit line) line) (back : rest ≡ drop (prefix_len is_digit line) line) where
  whole : digits ++ rest ≡ line
  whole = (λ i. front i ++ back i) ∙ take-append-drop (prefix_len is_digit line) line

  all : AllByRecursion Digit digits
  all = subst (AllByRecursion Digit) (sym front) (front_passes is_digit line)

  stops : DigitsEnd rest
  stops = subst DigitsEnd (sym back) (digits_end line)

  -- a plan line's digits are those that the line begins with
  parts : (ds es : List ℕ) → IsPlanLine line ds es → (ds ≡ digits) × (9 ∷ es ≡ rest)
  parts ds es h = one_split ds (9 ∷ es) digits rest h.all (tab_ends es) all stops (sym h.split ∙ sym whole)

  pub is_plan_line : (es : List ℕ) → rest ≡ 9 ∷ es → 1 ≤ length digits → length digits ≤ 8 → IsPlanLine line digits es
  is_plan_line es e some few = record { split = sym whole ∙ ap (λ (l : List ℕ). digits ++ l) e; all = all; some = some; few = few }

  pub only_plan_line : (es : List ℕ) → rest ≡ 9 ∷ es → (ds fs : List ℕ) → IsPlanLine line ds fs → (ds ≡ digits) × (fs ≡ es)
  only_plan_line es e ds fs h = ((parts ds fs h).0, tail_same 9 9 fs es ((parts ds fs h).1 ∙ e))

  pub no_plan_line : (1 ≤ length digits → length digits ≤ 8 → 1 ≤ length rest → get_or rest 0 0 ≡ 9 → ⊥) → NoPlanLine line
  no_plan_line wrong ds es h =
      let p = parts ds es h in
      wrong (omega (arith, ap length p.0, h.some)) (omega (arith, ap length p.0, h.few)) (omega (arith, ap length p.1)) (sym (ap (λ (l : List ℕ). get_or l 0 0) p.1))

-- a line is a plan line in one way
pub plan_line_one : (line ds es fs gs : List ℕ) → IsPlanLine line ds es → IsPlanLine line fs gs → (ds ≡ fs) × (es ≡ gs)
plan_line_one line ds es fs gs p q =
    let one = one_split ds (9 ∷ es) fs (9 ∷ gs) p.all (tab_ends es) q.all (tab_ends gs) (sym p.split ∙ q.split) in
    (one.0, tail_same 9 9 es gs one.1)
