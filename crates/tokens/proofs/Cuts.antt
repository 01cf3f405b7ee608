-- A text is cut into its tokens and into nothing else. Assumes nothing.
use Rattle.std.proofs.Common.{◌≡◌, ℕ, ◌+◌, ◌<◌, ◌≤◌, Bool, true, false, cond, ◌&&◌, eqb, ◌⊎◌, List, [], ◌∷◌, ◌++◌, length, Some, None, Option, sym, refl, ap, ◌∙◌, subst, inl, inr, ⊎_elim, arith}
use Rattle.std.specs.List.{AllByRecursion}
use Rattle.std.proofs.lemmas.List.{nil_from_length}
use Rattle.std.proofs.lemmas.Bool.{false≢true, both_ways, cases_Bool, and_left, and_right, and_parts, and_cases, eq-eqb, ne_eqb, eqb-true}
use Rattle.tokens.specs.declared.byte.ByteClass.{ByteClass}
use Rattle.tokens.specs.declared.byte.ByteClass.TheVariants as C
use Rattle.tokens.specs.declared.token.TokenKind.{TokenKind}
use Rattle.tokens.specs.declared.token.TokenKind.TheVariants.{Word, Symbol, Open, Close}
use Rattle.tokens.specs.Bytes.{class_of}
use Rattle.tokens.specs.Tokens.{Placed, kind_in, kind_of, together, joined, before, tokens_from, Separator, WellFormed, Longest, CutInto, Tokens}

abbrev pub token : TokenKind → ℕ → List ℕ → Placed
token k p w = record { kind = k; place = p; bytes = w }

pub together_same : (j k : TokenKind) → together j k ≡ true → j ≡ k
together_same Word Word e = refl
together_same Word Symbol e = absurd (false≢true e)
together_same Word Open e = absurd (false≢true e)
together_same Word Close e = absurd (false≢true e)
together_same Symbol Word e = absurd (false≢true e)
together_same Symbol Symbol e = refl
together_same Symbol Open e = absurd (false≢true e)
together_same Symbol Close e = absurd (false≢true e)
together_same Open Word e = absurd (false≢true e)
together_same Open Symbol e = absurd (false≢true e)
together_same Open Open e = refl
together_same Open Close e = absurd (false≢true e)
together_same Close Word e = absurd (false≢true e)
together_same Close Symbol e = absurd (false≢true e)
together_same Close Open e = absurd (false≢true e)
together_same Close Close e = refl

pub not_together : (j k : TokenKind) → (j ≡ k → together j j ≡ true → ⊥) → together j k ≡ false
not_together j k h =
    ⊎_elim (λ e. let same = together_same j k e in absurd (h same (ap (together j) same ∙ e))) (λ e. e) (cases_Bool (together j k))

-- separators are the bytes of no kind
none_class : (c : ByteClass) → kind_in c ≡ None → (c ≡ C.Space) ⊎ (c ≡ C.Unlawful)
none_class C.Word e = let z : ◌≡◌ {A = ℕ} 0 1 = cc in absurd (omega arith)
none_class C.Symbol e = let z : ◌≡◌ {A = ℕ} 0 1 = cc in absurd (omega arith)
none_class C.Open e = let z : ◌≡◌ {A = ℕ} 0 1 = cc in absurd (omega arith)
none_class C.Close e = let z : ◌≡◌ {A = ℕ} 0 1 = cc in absurd (omega arith)
none_class C.Space e = inl refl
none_class C.Unlawful e = inr refl

pub none_separator : (b : ℕ) → kind_of b ≡ None → Separator b
unfolding kind_of
none_separator b e = none_class (class_of b) e

pub separator_none : (b : ℕ) → Separator b → kind_of b ≡ None
unfolding kind_of
separator_none b s = ⊎_elim (ap kind_in) (ap kind_in) s

-- the first token, if any, begins at p or later
abbrev StartsFrom : ℕ → List Placed → Type 0
StartsFrom p [] = Unit {0}
StartsFrom p (t ∷ ts) = p ≤ t.place

le : (p : ℕ) → p ≤ p
le p = omega arith

joined_starts : (k : TokenKind) (p b : ℕ) (ts : List Placed) → StartsFrom p (joined k p b ts)
joined_starts k p b [] = le p
joined_starts k p b (t ∷ ts) =
    elim (together k t.kind && eqb t.place (p + 1)) as (λ v. StartsFrom p (cond v (token k p (b ∷ t.bytes) ∷ ts) (token k p (b ∷ []) ∷ t ∷ ts))) [ true ↦ le p | false ↦ le p ]

before_starts : (o : Option TokenKind) (p b : ℕ) (ts : List Placed) → StartsFrom (p + 1) ts → StartsFrom p (before o p b ts)
before_starts None p b [] h = tt
before_starts None p b (t ∷ ts) h = omega arith
before_starts (Some k) p b ts h = joined_starts k p b ts

tokens_start : (p : ℕ) (bs : List ℕ) → StartsFrom p (tokens_from p bs)
unfolding tokens_from
tokens_start p [] = tt
tokens_start p (b ∷ bs) = before_starts (kind_of b) p b (tokens_from (p + 1) bs) (tokens_start (p + 1) bs)

-- a token of kind k that ends at p does not run into the first of these
abbrev Apart : TokenKind → ℕ → List Placed → Type 0
Apart k p [] = Unit {0}
Apart k p (t ∷ ts) = together k t.kind && eqb t.place p ≡ false

later_apart : (k : TokenKind) (p : ℕ) (ts : List Placed) → StartsFrom (p + 1) ts → Apart k p ts
later_apart k p [] h = tt
later_apart k p (t ∷ ts) h = and_right (together k t.kind) (eqb t.place p) (ne_eqb t.place p (λ e. omega arith))

joined_apart : (k l : TokenKind) (p b : ℕ) (ts : List Placed) → together k l ≡ false → Apart k p (joined l p b ts)
joined_apart k l p b [] h = and_left (together k l) (eqb p p) h
joined_apart k l p b (t ∷ ts) h =
    elim (together l t.kind && eqb t.place (p + 1)) as (λ v. Apart k p (cond v (token l p (b ∷ t.bytes) ∷ ts) (token l p (b ∷ []) ∷ t ∷ ts))) [ true ↦ and_left (together k l) (eqb p p) h | false ↦ and_left (together k l) (eqb p p) h ]

longest_apart : (k : TokenKind) (p : ℕ) (rest : List ℕ) → Longest k rest → Apart k p (tokens_from p rest)
unfolding tokens_from
longest_apart k p [] h = tt
longest_apart k p (b ∷ bs) h = by_kind (kind_of b) refl
  where
    by_kind : (o : Option TokenKind) → kind_of b ≡ o → Apart k p (before o p b (tokens_from (p + 1) bs))
    by_kind None e = later_apart k p (tokens_from (p + 1) bs) (tokens_start (p + 1) bs)
    by_kind (Some l) e = joined_apart k l p b (tokens_from (p + 1) bs) (not_together k l (λ same both. h (e ∙ ap Some (sym same)) both))

alone_joined : (k : TokenKind) (p b : ℕ) (ts : List Placed) → Apart k (p + 1) ts → joined k p b ts ≡ token k p (b ∷ []) ∷ ts
alone_joined k p b [] h = refl
alone_joined k p b (t ∷ ts) h = ap (λ (v : Bool). cond v (token k p (b ∷ t.bytes) ∷ ts) (token k p (b ∷ []) ∷ t ∷ ts)) h

more_joined : (k : TokenKind) (p b : ℕ) (w : List ℕ) (ts : List Placed) → together k k ≡ true → joined k p b (token k (p + 1) w ∷ ts) ≡ token k p (b ∷ w) ∷ ts
more_joined k p b w ts e =
    ap (λ (v : Bool). cond (v && eqb (p + 1) (p + 1)) (token k p (b ∷ w) ∷ ts) (token k p (b ∷ []) ∷ token k (p + 1) w ∷ ts)) e
    ∙ ap (λ (v : Bool). cond v (token k p (b ∷ w) ∷ ts) (token k p (b ∷ []) ∷ token k (p + 1) w ∷ ts)) (eq-eqb (p + 1) (p + 1) refl)

-- the first token of bytes that begin with one that cannot be longer
run_tokens : (k : TokenKind) (w rest : List ℕ) (p : ℕ) → 0 < length w → AllByRecursion (λ b. kind_of b ≡ Some k) w → (together k k ≡ false → length w ≡ 1) → Longest k rest → tokens_from p (w ++ rest) ≡ token k p w ∷ tokens_from (p + length w) rest
unfolding tokens_from
run_tokens k [] rest p some alike alone long = absurd (omega arith)
run_tokens k (b ∷ []) rest p some alike alone long =
    ap (λ (o : Option TokenKind). before o p b (tokens_from (p + 1) rest)) alike.0
    ∙ alone_joined k p b (tokens_from (p + 1) rest) (longest_apart k (p + 1) rest long)
run_tokens k (b ∷ c ∷ w) rest p some alike alone long =
    let run : together k k ≡ true = ⊎_elim (λ e. e) (λ e. absurd (omega (arith, alone e))) (cases_Bool (together k k)) in
    let e : p + 1 + length (c ∷ w) ≡ p + length (b ∷ c ∷ w) = omega arith in
    ap (λ (o : Option TokenKind). before o p b (tokens_from (p + 1) (c ∷ (w ++ rest)))) alike.0
    ∙ ap (joined k p b) (run_tokens k (c ∷ w) rest (p + 1) (omega arith) alike.1 (λ no_run. absurd (both_ways (together k k) no_run run)) long)
    ∙ more_joined k p b (c ∷ w) (tokens_from (p + 1 + length (c ∷ w)) rest) run
    ∙ ap (λ n. token k p (b ∷ c ∷ w) ∷ tokens_from n rest) e

pub first_token : (k : TokenKind) (w rest : List ℕ) (p : ℕ) → WellFormed k w → Longest k rest → tokens_from p (w ++ rest) ≡ token k p w ∷ tokens_from (p + length w) rest
first_token k w rest p well long = run_tokens k w rest p well.some well.alike well.alone long

-- separators before the tokens, and separators alone
pub after_gap : (gap rest : List ℕ) (p : ℕ) → AllByRecursion Separator gap → tokens_from p (gap ++ rest) ≡ tokens_from (p + length gap) rest
unfolding tokens_from
after_gap [] rest p h = let e : p ≡ p + 0 = omega arith in ap (λ n. tokens_from n rest) e
after_gap (b ∷ gap) rest p h =
    let e : p + 1 + length gap ≡ p + length (b ∷ gap) = omega arith in
    ap (λ (o : Option TokenKind). before o p b (tokens_from (p + 1) (gap ++ rest))) (separator_none b h.0)
    ∙ after_gap gap rest (p + 1) h.1
    ∙ ap (λ n. tokens_from n rest) e

pub no_tokens : (text : List ℕ) (p : ℕ) → AllByRecursion Separator text → tokens_from p text ≡ []
unfolding tokens_from
no_tokens [] p h = refl
no_tokens (b ∷ bs) p h =
    ap (λ (o : Option TokenKind). before o p b (tokens_from (p + 1) bs)) (separator_none b h.0) ∙ no_tokens bs (p + 1) h.1

-- what a text is cut into are its tokens
pub only : (ts : List Placed) (p : ℕ) (text : List ℕ) → CutInto p text ts → ts ≡ tokens_from p text
only [] p text h = sym (no_tokens text p h)
only (t ∷ ts) p text (gap, rest, split, seps, at, well, long, more) =
    let first : token t.kind (p + length gap) t.bytes ≡ t = ap (λ n. token t.kind n t.bytes) (sym at) in
    let later = sym (only ts (p + length gap + length t.bytes) rest more) in
    sym (ap (tokens_from p) split
    ∙ after_gap gap (t.bytes ++ rest) p seps
    ∙ first_token t.kind t.bytes rest (p + length gap) well long
    ∙ (λ i. first i ∷ later i))

-- one byte alone is a token of its kind
lone : (k : TokenKind) (b : ℕ) → kind_of b ≡ Some k → WellFormed k (b ∷ [])
lone k b e = record { some = omega arith; alike = (e, tt); alone = λ _. refl }

never : (o : Option TokenKind) (k : TokenKind) → o ≡ None → o ≡ Some k → ⊥
never o k p q = let z : ◌≡◌ {A = ℕ} 0 1 = cc in omega arith

same_kind : (o : Option TokenKind) (j k : TokenKind) → o ≡ Some j → o ≡ Some k → j ≡ k
same_kind o j k p q = cc

blank_longest : (k : TokenKind) (text : List ℕ) → AllByRecursion Separator text → Longest k text
blank_longest k [] h = tt
blank_longest k (b ∷ bs) h = λ e _. never (kind_of b) k (separator_none b h.0) e

-- a token of kind k ends before a gap, or before a token that it does not run into
pub ends_there : (k l : TokenKind) (gap w rest : List ℕ) → AllByRecursion Separator gap → WellFormed l w → (length gap ≡ 0 → together k l ≡ false) → Longest k (gap ++ (w ++ rest))
ends_there k l (b ∷ gap) w rest seps well h = λ e _. never (kind_of b) k (separator_none b seps.0) e
ends_there k l [] [] rest seps well h = absurd (omega (arith, well.some))
ends_there k l [] (b ∷ w) rest seps well h =
    λ e run. both_ways (together k l) (h refl) (ap (together k) (same_kind (kind_of b) l k well.alike.0 e) ∙ run)

module _ (p b : ℕ) (bs : List ℕ) where
  -- the byte begins a token of its own
  begins : (k : TokenKind) (ts : List Placed) → kind_of b ≡ Some k → Longest k bs → CutInto (p + 1) bs ts → CutInto p (b ∷ bs) (token k p (b ∷ []) ∷ ts)
  begins k ts e long more =
      let at : p ≡ p + 0 = omega arith in
      let on : p + 1 ≡ p + 0 + 1 = omega arith in
      ([], bs, refl, tt, at, lone k b e, long, subst (λ n. CutInto n bs ts) on more)

  -- the byte comes before a token that it runs into
  runs_on : (k : TokenKind) (t : Placed) (ts : List Placed) → kind_of b ≡ Some k → together k t.kind ≡ true → t.place ≡ p + 1 → CutInto (p + 1) bs (t ∷ ts) → CutInto p (b ∷ bs) (token k p (b ∷ t.bytes) ∷ ts)
  runs_on k t ts e run next (gap, rest, split, seps, at, well, long, more) =
      let same = together_same k t.kind run in
      let none : gap ≡ [] = nil_from_length gap (omega arith) in
      let runs : together k k ≡ true = ap (together k) same ∙ run in
      let at' : p ≡ p + 0 = omega arith in
      let on : p + 1 + length gap + length t.bytes ≡ p + 0 + length (b ∷ t.bytes) = omega arith in (
        [],
        rest,
        ap (λ l. b ∷ l) (split ∙ ap (λ (l : List ℕ). l ++ (t.bytes ++ rest)) none),
        tt,
        at',
        record {
          some = omega arith;
          alike = (e, subst (λ (j : TokenKind). AllByRecursion (λ c. kind_of c ≡ Some j) t.bytes) (sym same) well.alike);
          alone = λ no_run. absurd (both_ways (together k k) no_run runs);
        },
        subst (λ (j : TokenKind). Longest j rest) (sym same) long,
        subst (λ n. CutInto n rest ts) on more,
      )

  by_test : (k : TokenKind) (t : Placed) (ts : List Placed) → kind_of b ≡ Some k → CutInto (p + 1) bs (t ∷ ts) → (v : Bool) → together k t.kind && eqb t.place (p + 1) ≡ v → CutInto p (b ∷ bs) (cond v (token k p (b ∷ t.bytes) ∷ ts) (token k p (b ∷ []) ∷ t ∷ ts))
  by_test k t ts e h true v = let both = and_parts (together k t.kind) (eqb t.place (p + 1)) v in runs_on k t ts e both.0 (eqb-true t.place (p + 1) both.1) h
  by_test k t ts e h false v =
      let apart : length h.0 ≡ 0 → together k t.kind ≡ false = λ none. ⊎_elim (λ f. f) (λ f. absurd (both_ways (eqb t.place (p + 1)) f (eq-eqb t.place (p + 1) (omega (arith, h.4))))) (and_cases (together k t.kind) (eqb t.place (p + 1)) v) in
      begins k (t ∷ ts) e (subst (Longest k) (sym h.2) (ends_there k t.kind h.0 t.bytes h.1 h.3 h.5 apart)) h

  one_byte : (o : Option TokenKind) (ts : List Placed) → kind_of b ≡ o → CutInto (p + 1) bs ts → CutInto p (b ∷ bs) (before o p b ts)
  one_byte None [] e h = (none_separator b e, h)
  one_byte None (t ∷ ts) e (gap, rest, split, seps, at, well, long, more) =
      let at' : t.place ≡ p + length (b ∷ gap) = omega arith in
      let on : p + 1 + length gap + length t.bytes ≡ p + length (b ∷ gap) + length t.bytes = omega arith in
      (b ∷ gap, rest, ap (λ l. b ∷ l) split, (none_separator b e, seps), at', well, long, subst (λ n. CutInto n rest ts) on more)
  one_byte (Some k) [] e h = begins k [] e (blank_longest k bs h) h
  one_byte (Some k) (t ∷ ts) e h = by_test k t ts e h (together k t.kind && eqb t.place (p + 1)) refl

pub cut : (p : ℕ) (text : List ℕ) → CutInto p text (tokens_from p text)
unfolding tokens_from
cut p [] = tt
cut p (b ∷ bs) = one_byte p b bs (kind_of b) (tokens_from (p + 1) bs) refl (cut (p + 1) bs)

pub tokens : (text : List ℕ) → Tokens text (tokens_from 0 text)
tokens text = record { cut = cut 0 text; only = λ us h. only us 0 text h }
