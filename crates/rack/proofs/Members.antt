-- Bits of a number, and the set of a tree's functions that they make.
use Rattle.std.proofs.Common.{◌≡◌, ℕ, zero, suc, ◌+◌, ◌*◌, ◌/◌, ◌%◌, ◌^◌, ◌<◌, max, Bool, false, cond, ◌||◌, eqb, ltb, List, Ok, Err, Result, sym, refl, ap, ◌∙◌, inl, inr, ⊎_elim, mod-eq_of_lt, add_comm, arith}
use lib.Bits.{bit_or}
use lib.Count.{ones, ones_cat}
use Rattle.std.proofs.lemmas.Nat.{pow_pos, mod-pow-add, mod_below}
use Rattle.std.proofs.Math.Bool.{or_comm}
use Rattle.std.specs.Int.{bit_at}
use Rattle.std.proofs.lemmas.Nat.Bits.{bit_at_or, bit_at-zero, bit_at-pow_same, bit_at-pow_other, bit_at-lt, same_from_bits}
use Rattle.std.proofs.lemmas.Bool.Decides.{nat_tests}
use Rattle.std.proofs.lemmas.Bool.{eq-eqb, ne_eqb, lt-ltb, cond-true, cases_order}
use Rattle.tokens.specs.Faults.{fault}
use Rattle.tokens.specs.InOrder.{Only, Refused}
use Rattle.tokens.specs.declared.fault.Fault.{Fault}
use Rattle.tokens.specs.declared.fault.FaultKind.TheVariants.{TooFewValues}
use Rattle.tokens.proofs.Firsts.{if_one}
use Rattle.grammar.specs.Trees.{Tree}
use Rattle.grammar.specs.Trees.Tree.{name, one, two}
use Rattle.rack.specs.declared.function_set.FunctionSet.{FunctionSet}
use Rattle.rack.specs.declared.node.Node.{Node}
use Rattle.rack.specs.FunctionSets.{occurs, has_bit, count_below, SetOf, SetAnswered, bit_of, bits_meaning}
use Rattle.rack.specs.Nodes.{size}
use Rattle.rack.specs.Racks.{ProperTree}
use Rattle.rack.specs.Roots.{AtTree}
use Rattle.rack.specs.Reckoning.{fold, ValueOf}
use Rattle.rack.proofs.Answering.{at_tree_only, at_changed}
use Rattle.rack.proofs.Postorder.{proper_tree}

-- a bit is 0 or 1
or_digit : (u v : ℕ) → u < 2 → v < 2 → eqb (max u v) 1 ≡ (eqb u 1 || eqb v 1)
or_digit u v p q = grind (arith, nat_tests)

or_bit : (a b n : ℕ) → has_bit (bit_or a b) n ≡ (has_bit a n || has_bit b n)
or_bit a b n = ap (λ k. eqb k 1) (bit_at_or a b n) ∙ or_digit (bit_at a n) (bit_at b n) (bit_at-lt a n) (bit_at-lt b n)

-- 2 ^ f has the one bit f
pow_bit : (f n : ℕ) → has_bit (2 ^ f) n ≡ eqb n f
pow_bit f n =
    ⊎_elim
    (λ e. ap (has_bit (2 ^ f)) e ∙ ap (λ k. eqb k 1) (bit_at-pow_same f) ∙ sym (eq-eqb n f e))
    (λ other. let apart = λ (e : n ≡ f). ⊎_elim (λ less. omega arith) (λ more. omega arith) other in ap (λ k. eqb k 1) (bit_at-pow_other f n apart) ∙ sym (ne_eqb n f apart))
    (cases_order n f)

no_bit : (n : ℕ) → has_bit 0 n ≡ false
no_bit n = ap (λ k. eqb k 1) (bit_at-zero n)

function_bit : (f n : ℕ) → f < 64 → has_bit (bit_of f) n ≡ eqb n f
function_bit f n lt = ap (λ k. has_bit k n) (cond-true (ltb f 64) (2 ^ f) 0 (lt-ltb f 64 lt)) ∙ pow_bit f n

-- the bits of a tree's value are its functions
pub members : (t : Tree) → ProperTree t → (n : ℕ) → has_bit (fold bits_meaning t) n ≡ occurs n t
members (name w) proper n = no_bit n
members (one f t) (f<, proper) n =
    or_bit (fold bits_meaning t) (bit_of f) n ∙ (λ j. members t proper n j || function_bit f n (omega arith) j) ∙ or_comm (occurs n t) (eqb n f)
members (two f s t) (f≥, f<, p, q) n =
    or_bit (bit_or (fold bits_meaning s) (fold bits_meaning t)) (bit_of f) n
    ∙ (λ j. (or_bit (fold bits_meaning s) (fold bits_meaning t) n ∙ (λ i. members s p n i || members t q n i)) j || function_bit f n f< j)
    ∙ or_comm (occurs n s || occurs n t) (eqb n f)

-- the ones of a number are its bits, counted
digit_ones : (b : ℕ) → b < 2 → ones b ≡ cond (eqb b 1) 1 0
unfolding ones
digit_ones zero lt = refl
digit_ones (suc zero) lt = refl
digit_ones (suc (suc b)) lt = absurd (omega arith)

low_digits : (a n : ℕ) → a % 2 ^ suc n ≡ (a / 2 ^ n % 2) * 2 ^ n + a % 2 ^ n
low_digits a n = let e : suc n ≡ 1 + n = omega arith in ap (λ k. a % 2 ^ k) e ∙ mod-pow-add a 1 n

ones_low : (a n : ℕ) → ones (a % 2 ^ n) ≡ count_below (has_bit a) n
unfolding ones count_below
ones_low a zero = ap ones (mod_one a)
  where
    mod_one : (k : ℕ) → k % 1 ≡ 0
    mod_one k = omega (arith, mod_below k 1 (omega arith))
ones_low a (suc n) =
    let b = a / 2 ^ n % 2 in
    ap ones (low_digits a n) ∙ ones_cat n b (a % 2 ^ n) (mod_below a (2 ^ n) (pow_pos n))
    ∙ (λ j. digit_ones b (mod_below (a / 2 ^ n) 2 (omega arith)) j + ones_low a n j)
    ∙ add_comm (cond (eqb b 1) 1 0) (count_below (has_bit a) n)

same_count : (p q : ℕ → Bool) (n : ℕ) → ((k : ℕ) → p k ≡ q k) → count_below p n ≡ count_below q n
unfolding count_below
same_count p q zero same = refl
same_count p q (suc n) same = λ j. same_count p q n same j + cond (same n j) 1 0

pub set_of : (t : Tree) → ProperTree t → (bits : ℕ) → bits < 2 ^ 64 → bits ≡ fold bits_meaning t → SetOf t (record { bits = bits; count = ones bits })
set_of t proper bits fits is =
    let has = λ (n : ℕ). ap (λ k. has_bit k n) is ∙ members t proper n in
    record { members = has; count = ap ones (sym (mod-eq_of_lt fits)) ∙ ones_low bits 64 ∙ same_count (has_bit bits) (λ n. occurs n t) 64 has }

-- a number is known by its bits
same_digit : (u v : ℕ) → u < 2 → v < 2 → eqb u 1 ≡ eqb v 1 → u ≡ v
same_digit u v p q e = grind (arith, nat_tests)

same_bits : (a b : ℕ) → ((k : ℕ) → has_bit a k ≡ has_bit b k) → a ≡ b
same_bits a b same = same_from_bits a b (λ k. same_digit (bit_at a k) (bit_at b k) (bit_at-lt a k) (bit_at-lt b k) (same k))

pub set_one : (t : Tree) (x y : FunctionSet) → SetOf t x → SetOf t y → x ≡ y
set_one t x y p q =
    let bits = same_bits x.bits y.bits (λ n. p.members n ∙ sym (q.members n)) in
    let count = p.count ∙ sym q.count in
    λ j. record { bits = bits j; count = count j }

-- what is answered of the bits is answered of the set
module _ (n : ℕ) (t : Tree) (proper : ProperTree t) where
  pub set_refused : (f : Fault) → ValueOf bits_meaning n t (Err f) → SetAnswered n t (Err f)
  set_refused f = ⊎_elim (λ (few, is). inl (few, let same : f ≡ fault TooFewValues 0 = cc in ap Err same)) (λ (enough, is). cc)

  pub set_answered : (bits : ℕ) → bits < 2 ^ 64 → ValueOf bits_meaning n t (Ok bits) → SetAnswered n t (Ok (record { bits = bits; count = ones bits }))
  set_answered bits fits =
      ⊎_elim
      (λ (few, is). cc)
      (λ (enough, is). let same : bits ≡ fold bits_meaning t = cc in inr (enough, (record { bits = bits; count = ones bits }, refl, set_of t proper bits fits same)))

pub answered_one : (n : ℕ) (t : Tree) (r s : Result FunctionSet Fault) → SetAnswered n t r → SetAnswered n t s → r ≡ s
answered_one n t r s =
    if_one (n < size t) (Refused (fault TooFewValues 0)) (λ q. (set : FunctionSet) × (q ≡ Ok set) × SetOf t set) r s (λ p q. p ∙ sym q) (λ (x, p, is) (y, q, so). p ∙ ap Ok (set_one t x y is so) ∙ sym q)

module _ (rack : List Node) (used root n : ℕ) where
  pub refused_only : (f : Fault) → AtTree rack used root (ValueOf bits_meaning n) (Err f) → Only (AtTree rack used root (SetAnswered n)) (Err f)
  refused_only f h =
      at_tree_only rack used root (SetAnswered n) (answered_one n) (Err f)
      (at_changed rack used root (ValueOf bits_meaning n) (SetAnswered n) (Err f) (Err f) (λ k is. let same : f ≡ k = cc in ap Err same) (λ tree l. set_refused n tree (proper_tree rack root tree l) f) h)

  pub set_only : (bits : ℕ) → bits < 2 ^ 64 → AtTree rack used root (ValueOf bits_meaning n) (Ok bits) → Only (AtTree rack used root (SetAnswered n)) (Ok (record { bits = bits; count = ones bits }))
  set_only bits fits h =
      at_tree_only rack used root (SetAnswered n) (answered_one n) (Ok (record { bits = bits; count = ones bits }))
      (at_changed rack used root (ValueOf bits_meaning n) (SetAnswered n) (Ok bits) (Ok (record { bits = bits; count = ones bits })) (λ k is. cc) (λ tree l. set_answered n tree (proper_tree rack root tree l) bits fits) h)
