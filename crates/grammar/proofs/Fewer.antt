-- No lawful bracketed tree of a tree has fewer pairs than the written one.
use Rattle.std.proofs.Common.{◌≡◌, ℕ, ◌<◌, ◌≤◌, Bool, true, false, ◌⊎◌, Option, sym, refl, subst, inl, inr, ⊎_elim, arith}
use Rattle.std.proofs.lemmas.Bool.{leb-false, cases_lt}
use Rattle.notation.specs.Operators.{Fixity}
use Rattle.notation.specs.Tables.{Table}
use Rattle.grammar.specs.Trees.{Tree, Bracketed, erase, pairs}
use Rattle.grammar.specs.Trees.Bracketed.{named, pair, prefixed, postfixed, infixed}
use Rattle.grammar.specs.Weights.{left_weight, right_weight, AdmitsLeft, AdmitsRight, admits_left, admits_right}
use Rattle.grammar.specs.Lawful.{Lawful}
use Rattle.grammar.specs.Writing.{paired, write_one, write}

-- m is smaller, or equal with more to be said
either : (m n : ℕ) {P : Type 0} → m ≤ n → (m ≡ n → P) → (m < n) ⊎ ((m ≡ n) × P)
either m n h k = ⊎_elim inl (λ o. let e : m ≡ n = omega arith in inr (e, k e)) (cases_lt m n)

module _ (t : Table) where
  -- w has fewer pairs than b, or as many and no larger weight on either side
  abbrev Better : Bracketed → Bracketed → Type 0
  Better w b = (pairs w < pairs b) ⊎ ((pairs w ≡ pairs b) × ((left_weight t w ≤ left_weight t b) × (right_weight t w ≤ right_weight t b)))

  prefixed_better : (f : ℕ) (w b : Bracketed) (v : Bool) → admits_right t f w ≡ v → Better w b → AdmitsRight t f b → Better (prefixed f (paired v w)) (prefixed f b)
  prefixed_better f w b true e h l = either _ _ (omega arith) (λ same. omega arith)
  prefixed_better f w b false e h l = let k = leb-false _ _ e in either _ _ (omega arith) (λ same. omega arith)

  postfixed_better : (f : ℕ) (w b : Bracketed) (v : Bool) → admits_left t f w ≡ v → Better w b → AdmitsLeft t f b → Better (postfixed f (paired v w)) (postfixed f b)
  postfixed_better f w b true e h l = either _ _ (omega arith) (λ same. omega arith)
  postfixed_better f w b false e h l = let k = leb-false _ _ e in either _ _ (omega arith) (λ same. omega arith)

  infixed_better : (f : ℕ) (x a y b : Bracketed) (u v : Bool) → admits_left t f x ≡ u → admits_right t f y ≡ v → Better x a → Better y b → AdmitsLeft t f a → AdmitsRight t f b → Better (infixed f (paired u x) (paired v y)) (infixed f a b)
  infixed_better f x a y b true true d e h i l m = either _ _ (omega arith) (λ same. omega arith)
  infixed_better f x a y b true false d e h i l m = let k = leb-false _ _ e in either _ _ (omega arith) (λ same. omega arith)
  infixed_better f x a y b false true d e h i l m = let j = leb-false _ _ d in either _ _ (omega arith) (λ same. omega arith)
  infixed_better f x a y b false false d e h i l m = let j = leb-false _ _ d in let k = leb-false _ _ e in either _ _ (omega arith) (λ same. omega arith)

  better : (b : Bracketed) → Lawful t b → Better (write t (erase b)) b
  better (named w) l = inr (omega arith)
  better (pair b) l = let h = better b l in inl (omega arith)
  better (prefixed f b) (x, a, l) =
      subst (λ (v : Option Fixity). Better (write_one t v f (write t (erase b))) (prefixed f b)) (sym x) (prefixed_better f (write t (erase b)) b (admits_right t f (write t (erase b))) refl (better b l) a)
  better (postfixed f b) (x, a, l) =
      subst (λ (v : Option Fixity). Better (write_one t v f (write t (erase b))) (postfixed f b)) (sym x) (postfixed_better f (write t (erase b)) b (admits_left t f (write t (erase b))) refl (better b l) a)
  better (infixed f b c) (x, a, d, l, m) =
      infixed_better f (write t (erase b)) b (write t (erase c)) c (admits_left t f (write t (erase b))) (admits_right t f (write t (erase c))) refl refl (better b l) (better c m) a d

  pub no_fewer : (tree : Tree) (b : Bracketed) → Lawful t b → erase b ≡ tree → pairs (write t tree) ≤ pairs b
  no_fewer tree b l e = let h = better b l in let k : pairs (write t (erase b)) ≤ pairs b = omega arith in subst (λ (x : Tree). pairs (write t x) ≤ pairs b) e k
