-- Puts one after another: what they make of a holding, and what is answered where one is refused.
use Rattle.std.proofs.Common.{◌≡◌, ◌≤◌, List, [], ◌∷◌, ◌++◌, length, map, Some, None, Option, Ok, Err, Result, refl, sym, ap, ◌∙◌, subst, arith}
use Rattle.std.proofs.lemmas.List.{append_assoc, map-append, length-append}
use Rattle.tokens.specs.Faults.{fault}
use Rattle.tokens.specs.Tokens.{Lexeme}
use Rattle.tokens.specs.declared.fault.Fault.{Fault}
use Rattle.tokens.specs.declared.fault.FaultKind.TheVariants.{OutletRefused}
use Rattle.tokens.specs.declared.token.TokenKind.{TokenKind}
use Rattle.tokens.specs.declared.token.TokenKind.TheVariants as K
use Rattle.notation.specs.Tables.{Table}
use Rattle.grammar.specs.Trees.{Bracketed}
use Rattle.grammar.specs.Trees.Bracketed.{named, pair, prefixed, postfixed, infixed}
use Rattle.grammar.specs.Reading.{opening, closing, sign_of, lexemes}
use Rattle.writing.specs.declared.put_kind.PutKind.TheVariants as P
use Rattle.writing.specs.Outlets.{Rule}
use Rattle.writing.specs.Puts.{Put, Labelled, label, labelled, token_puts, put_all, PutsTo}
use Rattle.writing.specs.Shapes.{last_kind}
use Rattle.writing.specs.Written.{PutsTokens}

-- the kind of the last token, after one of kind `last` if there is one
abbrev pub after_last : Option TokenKind → List Labelled → Option TokenKind
after_last last [] = last
after_last last (x ∷ xs) = after_last (Some x.token.kind) xs

pub puts_append : (last : Option TokenKind) (xs ys : List Labelled) → token_puts last (xs ++ ys) ≡ token_puts last xs ++ token_puts (after_last last xs) ys
puts_append last [] ys = refl
puts_append last (x ∷ xs) ys = rw (puts_append (Some x.token.kind) xs ys) (simp append_assoc)

-- the tokens of a bracketed tree are those of its Puts, and the last of them has the kind of the last token
abbrev token : Labelled → Lexeme
token x = x.token

pub labelled_map : (t : Table) (b : Bracketed) → map (token) (labelled t b) ≡ lexemes t b
labelled_map t (named w) = refl
labelled_map t (pair b) = ap (λ xs. opening ∷ xs) (map-append token (labelled t b) (label P.Close closing ∷ []) ∙ ap (λ xs. xs ++ (closing ∷ [])) (labelled_map t b))
labelled_map t (prefixed f b) = ap (λ xs. sign_of t f ∷ xs) (labelled_map t b)
labelled_map t (postfixed f a) = map-append token (labelled t a) (label P.Operator (sign_of t f) ∷ []) ∙ ap (λ xs. xs ++ (sign_of t f ∷ [])) (labelled_map t a)
labelled_map t (infixed f a b) =
    map-append token (labelled t a) (label P.Operator (sign_of t f) ∷ labelled t b)
    ∙ ap (λ xs. xs ++ (sign_of t f ∷ map token (labelled t b))) (labelled_map t a)
    ∙ ap (λ ys. lexemes t a ++ (sign_of t f ∷ ys)) (labelled_map t b)

pub after_labelled : (last : Option TokenKind) (xs : List Labelled) → 1 ≤ length xs → after_last last xs ≡ Some (last_kind K.Word (map (token) xs))
after_labelled last [] h = absurd (omega arith)
after_labelled last (x ∷ xs) h = after_token x.token.kind xs where
  after_token : (k : TokenKind) (ys : List Labelled) → after_last (Some k) ys ≡ Some (last_kind k (map token ys))
  after_token k [] = refl
  after_token k (y ∷ ys) = after_token y.token.kind ys

after_append : (last : Option TokenKind) (xs ys : List Labelled) → after_last last (xs ++ ys) ≡ after_last (after_last last xs) ys
after_append last [] ys = refl
after_append last (x ∷ xs) ys = after_append (Some x.token.kind) xs ys

module _ {H : Type 0} (rule : Rule H) where
  pub all_none : (ps : List Put) → put_all rule ps None ≡ None
  all_none [] = refl
  all_none (p ∷ ps) = refl

  pub all_append : (ps qs : List Put) (h : Option H) → put_all rule (ps ++ qs) h ≡ put_all rule qs (put_all rule ps h)
  all_append [] qs h = refl
  all_append (p ∷ ps) qs None = sym (all_none qs)
  all_append (p ∷ ps) qs (Some h) = all_append ps qs (rule h p.kind p.bytes)

  -- what is put after a holding: the tokens, after one of kind `last`
  abbrev pub tokens_from : Option TokenKind → List Labelled → H → Option H
  tokens_from last xs h = put_all rule (token_puts last xs) (Some h)

  pub all_of : (o : Option H) (mid : H) (X : Type 0) (k x : X) → PutsTo k o mid (Ok x) → (o ≡ Some mid) × (x ≡ k)
  all_of (Some h) mid X k x (is, same) = (ap Some (sym same), cc)
  all_of None mid X k x is = absurd cc

  pub none_of : (o : Option H) (mid : H) (X : Type 0) (k : X) (f : Fault) → PutsTo k o mid (Err f) → (o ≡ None) × (f ≡ fault OutletRefused 0)
  none_of (Some h) mid X k f (is, same) = absurd cc
  none_of None mid X k f is = (refl, cc)

  -- some tokens, and then others
  pub puts_then : (last : Option TokenKind) (xs ys : List Labelled) (k j i : TokenKind) (before mid after : H) (r : Result TokenKind Fault)
      → after_last last xs ≡ Some k
      → PutsTo k (tokens_from last xs before) mid (Ok i)
      → PutsTo j (tokens_from (Some i) ys mid) after r
      → PutsTo j (tokens_from last (xs ++ ys) before) after r
  puts_then last xs ys k j i before mid after r at first second =
      let done = all_of (tokens_from last xs before) mid TokenKind k i first in
      let is : tokens_from last (xs ++ ys) before ≡ tokens_from (Some i) ys mid =
      ap (λ ps. put_all rule ps (Some before)) (puts_append last xs ys)
      ∙ all_append (token_puts last xs) (token_puts (after_last last xs) ys) (Some before)
      ∙ ap (put_all rule (token_puts (after_last last xs) ys)) done.0
      ∙ ap (λ l. put_all rule (token_puts l ys) (Some mid)) (at ∙ ap Some (sym done.1)) in
      subst (λ o. PutsTo j o after r) (sym is) second

  -- where some are refused, so are they with what comes after them
  pub puts_refused : (last : Option TokenKind) (xs ys : List Labelled) (k j : TokenKind) (before mid after : H) (f : Fault)
      → PutsTo k (tokens_from last xs before) mid (Err f)
      → PutsTo j (tokens_from last (xs ++ ys) before) after (Err f)
  puts_refused last xs ys k j before mid after f first =
      let done = none_of (tokens_from last xs before) mid TokenKind k f first in
      let is : tokens_from last (xs ++ ys) before ≡ None =
      ap (λ ps. put_all rule ps (Some before)) (puts_append last xs ys)
      ∙ all_append (token_puts last xs) (token_puts (after_last last xs) ys) (Some before)
      ∙ ap (put_all rule (token_puts (after_last last xs) ys)) done.0
      ∙ all_none (token_puts (after_last last xs) ys) in
      subst (λ o. PutsTo j o after (Err f)) (sym is) (ap Err done.1)

  -- the tokens are put, and the kind of the last is answered
  abbrev pub PutsList : Option TokenKind → List Labelled → H → H → Result TokenKind Fault → Type 0
  PutsList last xs before after r = (k : TokenKind) → after_last last xs ≡ Some k → PutsTo k (tokens_from last xs before) after r

  pub list_then : (last : Option TokenKind) (xs ys : List Labelled) (i : TokenKind) (before mid after : H) (r : Result TokenKind Fault)
      → 1 ≤ length xs → PutsList last xs before mid (Ok i) → PutsList (Some i) ys mid after r → PutsList last (xs ++ ys) before after r
  list_then last xs ys i before mid after r some first second k at =
      let n = last_kind K.Word (map token xs) in
      let mine = first n (after_labelled last xs some) in
      let same = all_of (tokens_from last xs before) mid TokenKind n i mine in
      puts_then last xs ys n k i before mid after r (after_labelled last xs some) mine
      (second k (ap (λ l. after_last l ys) (ap Some same.1 ∙ sym (after_labelled last xs some)) ∙ sym (after_append last xs ys) ∙ at))

  pub list_refused : (last : Option TokenKind) (xs ys : List Labelled) (before mid after : H) (f : Fault)
      → 1 ≤ length xs → PutsList last xs before mid (Err f) → PutsList last (xs ++ ys) before after (Err f)
  list_refused last xs ys before mid after f some first k at =
      puts_refused last xs ys (last_kind K.Word (map token xs)) k before mid after f (first (last_kind K.Word (map token xs)) (after_labelled last xs some))

  module _ (t : Table) where
    pub some_labelled : (b : Bracketed) → 1 ≤ length (labelled t b)
    some_labelled (named w) = omega arith
    some_labelled (pair b) = omega arith
    some_labelled (prefixed f b) = omega arith
    some_labelled (postfixed f a) = omega (arith, length-append (labelled t a) (label P.Operator (sign_of t f) ∷ []), some_labelled a)
    some_labelled (infixed f a b) = omega (arith, length-append (labelled t a) (label P.Operator (sign_of t f) ∷ labelled t b), some_labelled a)

    at_labelled : (last : Option TokenKind) (b : Bracketed) → after_last last (labelled t b) ≡ Some (last_kind K.Word (lexemes t b))
    at_labelled last b = after_labelled last (labelled t b) (some_labelled b) ∙ ap (λ xs. Some (last_kind K.Word xs)) (labelled_map t b)

    pub from_tokens : (last : Option TokenKind) (b : Bracketed) (before after : H) (r : Result TokenKind Fault) → PutsTokens rule t last b before after r → PutsList last (labelled t b) before after r
    from_tokens last b before after r h k at =
        let same : last_kind K.Word (lexemes t b) ≡ k = let e : Some (last_kind K.Word (lexemes t b)) ≡ Some k = sym (at_labelled last b) ∙ at in cc in
        subst (λ j. PutsTo j (tokens_from last (labelled t b) before) after r) same h

    pub to_tokens : (last : Option TokenKind) (b : Bracketed) (before after : H) (r : Result TokenKind Fault) → PutsList last (labelled t b) before after r → PutsTokens rule t last b before after r
    to_tokens last b before after r h = h (last_kind K.Word (lexemes t b)) (at_labelled last b)

  -- one token
  pub from_one : (last : Option TokenKind) (x : Labelled) (before after : H) (r : Result TokenKind Fault) → PutsTo x.token.kind (tokens_from last (x ∷ []) before) after r → PutsList last (x ∷ []) before after r
  from_one last x before after r h k at =
      let same : x.token.kind ≡ k = let e : Some x.token.kind ≡ Some k = at in cc in
      subst (λ j. PutsTo j (tokens_from last (x ∷ []) before) after r) same h
