-- Going along the functions that begin with a byte misses none of them. Assumes nothing.
use Rattle.std.proofs.Common.{◌≡◌, ℕ, suc, ◌+◌, ◌-◌, ◌<◌, ◌≤◌, Bool, true, false, cond, List, length, get_or, set, Some, None, Option, sym, refl, ap, ◌∙◌, subst, ⊎_elim, arith}
use Rattle.std.specs.List.{find, range_with_len}
use Rattle.std.proofs.lemmas.List.{get_or-set_same, get_or-set_other, length-set}
use Rattle.std.proofs.lemmas.Bool.{cases_eq, cases_lt, eq-eqb, ne_eqb, eqb-true, both_ways}
use Rattle.notation.specs.declared.form.Position.{Position}
use Rattle.notation.specs.Chains.{begins_with, seek}
use Rattle.notation.specs.Operators.{Op}
use Rattle.notation.specs.Tables.{Table, Listed, LawfulTable}
use Rattle.notation.specs.LookupsLemmas.{FirstFrom, find_is, find_none, inside}

module _ (t : Table) (b : ℕ) where
  here_or_on : (f n : ℕ) (v : Bool) → begins_with b (t f) ≡ v → seek t b f (suc n) ≡ cond v (Some f) (seek t b (f + 1) n)
  unfolding seek
  here_or_on f n v e = ap (λ (w : Bool). cond w (Some f) (find (λ g. begins_with b (t g)) (range_with_len (f + 1) n))) e

  pub seek_end : (f : ℕ) → seek t b f 0 ≡ None
  unfolding seek
  seek_end f = refl

  pub seek_is : (f n g : ℕ) → seek t b f n ≡ Some g → FirstFrom (λ h. begins_with b (t h)) f n g
  unfolding seek
  seek_is f n g e = find_is (λ h. begins_with b (t h)) f n g e

  pub seek_none : (f n : ℕ) → seek t b f n ≡ None → (h : ℕ) → f ≤ h → h < f + n → begins_with b (t h) ≡ true → ⊥
  unfolding seek
  seek_none f n e = find_none (λ h. begins_with b (t h)) f n e

  -- what is listed under a spelling that begins with the byte begins with it
  pub listed_begins : (p : Position) (s : List ℕ) (g : ℕ) → b ≡ get_or s 0 0 → Listed t p s g → begins_with b (t g) ≡ true
  listed_begins p s g first is = ap (begins_with b) is.has ∙ eq-eqb (get_or is.op.spelling 0 0) b (ap (λ (l : List ℕ). get_or l 0 0) is.spelt ∙ sym first)

-- The places and links are right for the functions from i on.
pub record ChainedFrom (t : Table) (firsts nexts : List (Option ℕ)) (i : ℕ) : Type 0 where
  pub within : i ≤ 64
  pub bytes : length firsts ≡ 256
  pub functions : length nexts ≡ 64
  pub first : (b : ℕ) → b < 256 → get_or firsts b None ≡ seek t b i (64 - i)
  pub next : (f b : ℕ) → i ≤ f → f < 64 → begins_with b (t f) ≡ true → get_or nexts f None ≡ seek t b (f + 1) (63 - f)

module _ (t : Table) (firsts nexts : List (Option ℕ)) (n : ℕ) (h : ChainedFrom t firsts nexts (n + 1)) where
  one_back : (b : ℕ) (v : Bool) → begins_with b (t n) ≡ v → seek t b n (64 - n) ≡ cond v (Some n) (seek t b (n + 1) (64 - (n + 1)))
  one_back b v e = let size : 64 - n ≡ suc (64 - (n + 1)) = omega (arith, h.within) in ap (seek t b n) size ∙ here_or_on t b n (64 - (n + 1)) v e

  -- an empty slot
  pub chained_past : t n ≡ None → ChainedFrom t firsts nexts n
  chained_past none =
      record {
        within = omega (arith, h.within);
        bytes = h.bytes;
        functions = h.functions;
        first = λ b lt. h.first b lt ∙ sym (one_back b false (ap (begins_with b) none));
        next = λ f b low high begins.
            ⊎_elim (λ same. absurd (both_ways (begins_with b (t f)) (ap (λ g. begins_with b (t g)) same ∙ ap (begins_with b) none) begins)) (λ other. h.next f b (omega (arith, other)) high begins) (cases_eq f n);
      }

  -- a slot whose operator begins with the byte c
  pub chained_more : (o : Op) (c : ℕ) → t n ≡ Some o → c ≡ get_or o.spelling 0 0 → c < 256 → ChainedFrom t (set firsts c (Some n)) (set nexts n (get_or firsts c None)) n
  chained_more o c has first-is small =
      record {
        within = omega (arith, h.within);
        bytes = length-set firsts c (Some n) ∙ h.bytes;
        functions = length-set nexts n (get_or firsts c None) ∙ h.functions;
        first = λ b lt.
            ⊎_elim
            (λ same.
            ap (λ j. get_or (set firsts c (Some n)) j None) same ∙ get_or-set_same firsts c (Some n) None (omega (arith, h.bytes))
            ∙ sym (one_back b true (ap (begins_with b) has ∙ eq-eqb (get_or o.spelling 0 0) b (sym first-is ∙ sym same))))
            (λ other.
            get_or-set_other firsts c b (Some n) None other ∙ h.first b lt
            ∙ sym (one_back b false (ap (begins_with b) has ∙ ne_eqb (get_or o.spelling 0 0) b (λ e. other (sym e ∙ sym first-is)))))
            (cases_eq b c);
        next = λ f b low high begins.
            ⊎_elim
            (λ same.
            let byte : c ≡ b = first-is ∙ eqb-true (get_or o.spelling 0 0) b (sym (ap (λ g. begins_with b (t g)) same ∙ ap (begins_with b) has) ∙ begins) in
            let from : n + 1 ≡ f + 1 = omega arith in
            let size : 64 - (n + 1) ≡ 63 - f = omega arith in
            ap (λ j. get_or (set nexts n (get_or firsts c None)) j None) same ∙ get_or-set_same nexts n (get_or firsts c None) None (omega (arith, h.functions, h.within))
            ∙ h.first c small ∙ (λ k. seek t (byte k) (from k) (size k)))
            (λ other. get_or-set_other nexts n f (get_or firsts c None) None other ∙ h.next f b (omega (arith, other)) high begins)
            (cases_eq f n);
      }

-- a search along the chain of a byte has come to `at`, and passed nothing that is listed
pub record Along (t : Table) (p : Position) (s : List ℕ) (b : ℕ) (at : Option ℕ) : Type 0 where
  pub from : ℕ
  pub within : from ≤ 64
  pub is : at ≡ seek t b from (64 - from)
  pub passed : (g : ℕ) → g < from → Listed t p s g → ⊥

-- how many functions there are from there on
abbrev pub ahead : Option ℕ → ℕ
ahead None = 0
ahead (Some f) = 64 - f

module _ (t : Table) (p : Position) (s : List ℕ) (b : ℕ) (first : b ≡ get_or s 0 0) where
  pub along_end : Along t p s b None → (g : ℕ) → g < 64 → Listed t p s g → ⊥
  along_end h g lt is =
      ⊎_elim
      (λ low. h.passed g low is)
      (λ high. seek_none t b h.from (64 - h.from) (sym h.is) g high (omega (arith, h.within)) (listed_begins t b p s g first is))
      (cases_lt g h.from)

  module _ (f : ℕ) (h : Along t p s b (Some f)) where
    at_f : FirstFrom (λ g. begins_with b (t g)) h.from (64 - h.from) f
    at_f = seek_is t b h.from (64 - h.from) f (sym h.is)

    pub along_within : f < 64
    along_within = omega (arith, h.within, at_f.high)

    pub along_begins : begins_with b (t f) ≡ true
    along_begins = at_f.is

    none_before : (g : ℕ) → g < f → Listed t p s g → ⊥
    none_before g lt is =
        ⊎_elim (λ low. h.passed g low is) (λ high. at_f.first g high lt (listed_begins t b p s g first is)) (cases_lt g h.from)

    pub along_more : (Listed t p s f → ⊥) → (on : Option ℕ) → on ≡ seek t b (f + 1) (63 - f) → Along t p s b on
    along_more not-here on e =
        let left : 63 - f ≡ 64 - (f + 1) = omega arith in
        record {
          from = f + 1;
          within = omega (arith, along_within);
          is = e ∙ ap (seek t b (f + 1)) left;
          passed = λ g below is. ⊎_elim (λ same. not-here (subst (Listed t p s) same is)) (λ other. none_before g (omega (arith, other)) is) (cases_eq g f);
        }

    pub along_less : (on : Option ℕ) → on ≡ seek t b (f + 1) (63 - f) → ahead on < 64 - f
    along_less None e = omega (arith, along_within)
    along_less (Some g) e = let next = seek_is t b (f + 1) (63 - f) g (sym e) in omega (arith, along_within, next.low, next.high)

-- what begins with a byte is a function
some_op : (b : ℕ) (o : Option Op) → begins_with b o ≡ true → (q : Op) × (o ≡ Some q)
some_op b None e = absurd (both_ways false refl e)
some_op b (Some q) e = (q, refl)

pub begins_inside : (t : Table) → LawfulTable t → (f b : ℕ) → begins_with b (t f) ≡ true → f < 64
begins_inside t lawful f b e = let some = some_op b (t f) e in inside t lawful f some.0 some.1

pub chained_none : (t : Table) → LawfulTable t → (firsts nexts : List (Option ℕ)) → length firsts ≡ 256 → length nexts ≡ 64 → ((b : ℕ) → b < 256 → get_or firsts b None ≡ None) → ChainedFrom t firsts nexts 64
chained_none t lawful firsts nexts bytes functions none =
    record {
      within = omega arith;
      bytes = bytes;
      functions = functions;
      first = λ b lt. none b lt ∙ sym (seek_end t b 64);
      next = λ f b low high begins. absurd (omega arith);
    }
