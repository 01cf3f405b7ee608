-- What the checks of an expression keep from turn to turn, and that they have one answer.
use Rattle.std.proofs.Common.{◌≡◌, ℕ, ◌+◌, ◌<◌, ◌≤◌, List, [], ◌∷◌, ◌++◌, length, get_or, take, Some, None, Ok, Err, Option, Result, sym, refl, ap, ◌∙◌, subst, inl, inr, append_assoc, append-nil, arith}
use Rattle.std.specs.List.{AllByRecursion}
use Rattle.std.specs.Option.{option_or}
use Rattle.std.proofs.ByRecursion.{All-push}
use Rattle.std.proofs.lemmas.List.{length-append, length_push}
use Rattle.tokens.specs.declared.fault.Fault.{Fault}
use Rattle.tokens.specs.declared.fault.FaultKind.TheVariants.{ExpressionTooLong, UnlawfulByte, TooManyTokens, WordTooLong}
use Rattle.tokens.specs.Faults.{fault}
use Rattle.tokens.specs.InOrder.{IfSome, Only, Refused, Accepted, Nth}
use Rattle.tokens.specs.Limits.{Unlawful, Lawful, LongWord, FirstUnlawful, TokenTooMany, LongWordIn, FirstLongWord, TokenLimits, Limits, WithinLimits}
use Rattle.tokens.specs.Tokens.{Placed, tokens_of}
use Rattle.tokens.proofs.Spaces.{tokens_few}
use Rattle.tokens.proofs.Firsts.{nth_one, nth_inside, first_one, first_none, first_at, first_front, first_last, if_one, if_some_one}

-- the first unlawful byte, found at an index
pub unlawful_at : (text : List ℕ) (i : ℕ) → i < length text → AllByRecursion Lawful (take i text) → Unlawful (get_or text i 0) → FirstUnlawful text i
unlawful_at text i lt none here = (get_or text i 0, first_at Unlawful text i 0 lt none here)

-- the first long word, after one token more
pub long_found : (before : List Placed) (t : Placed) (earlier : Option ℕ) → LongWordIn before earlier → LongWord t → LongWordIn (before ++ t ∷ []) (option_or earlier (Some t.place))
long_found before t None none here = (length before, t, first_last LongWord before t none here, refl)
long_found before t (Some p) (i, word, first, at) here = (i, word, first_front LongWord before (t ∷ []) i word first, at)

pub long_other : (before : List Placed) (t : Placed) (earlier : Option ℕ) → LongWordIn before earlier → (LongWord t → ⊥) → LongWordIn (before ++ t ∷ []) earlier
long_other before t None none here = All-push (λ u. LongWord u → ⊥) before t none here
long_other before t (Some p) (i, word, first, at) here = (i, word, first_front LongWord before (t ∷ []) i word first, at)

-- some tokens have been counted, the others are ahead
pub record Counted (text : List ℕ) (ahead : List Placed) (count : ℕ) (long : Option ℕ) : Type 0 where
  pub done : List Placed
  pub split : tokens_of text ≡ done ++ ahead
  pub counted : length done ≡ count
  pub few : count ≤ 1024
  pub words : LongWordIn done long

pub counted_none : (text : List ℕ) → Counted text (tokens_of text) 0 None
counted_none text = record { done = []; split = refl; counted = refl; few = omega arith; words = tt }

pub counted_more : (text : List ℕ) (ahead rest : List Placed) (t : Placed) (count more : ℕ) (long longer : Option ℕ) → Counted text ahead count long → ahead ≡ t ∷ rest → more ≡ count + 1 → (count ≡ 1024 → ⊥) → ((before : List Placed) → LongWordIn before long → LongWordIn (before ++ t ∷ []) longer) → Counted text rest more longer
counted_more text ahead rest t count more long longer h next one room step =
    record {
      done = h.done ++ t ∷ [];
      split = h.split ∙ ap (λ (l : List Placed). h.done ++ l) next ∙ sym (append_assoc h.done (t ∷ []) rest);
      counted = omega (arith, length_push h.done t, h.counted);
      few = omega (arith, h.few, room);
      words = step h.done h.words;
    }

pub counted_fits : (text : List ℕ) (ahead : List Placed) (count : ℕ) (long : Option ℕ) → Counted text ahead count long → count + length ahead ≤ length text
counted_fits text ahead count long h = omega (arith, tokens_few text, ap length h.split, length-append h.done ahead, h.counted)

none_over : (text : List ℕ) → length (tokens_of text) ≤ 1024 → (p : ℕ) → TokenTooMany text p → ⊥
none_over text few p (t, nth, at) = omega (arith, nth_inside (tokens_of text) 1024 t nth)

pub all_counted : (text : List ℕ) (ahead : List Placed) (count : ℕ) (long : Option ℕ) → Counted text ahead count long → ahead ≡ [] → (length (tokens_of text) ≤ 1024) × LongWordIn (tokens_of text) long
all_counted text ahead count long h end =
    let whole = h.split ∙ ap (λ (l : List Placed). h.done ++ l) end ∙ append-nil h.done in
    (omega (arith, ap length whole, h.counted, h.few), subst (λ (l : List Placed). LongWordIn l long) (sym whole) h.words)

none_long : (text : List ℕ) → LongWordIn (tokens_of text) None → (p : ℕ) → FirstLongWord text p → ⊥
none_long text none p (i, t, first, at) = first_none LongWord (tokens_of text) none i t first

pub counted_all : (text : List ℕ) (ahead : List Placed) (count : ℕ) → Counted text ahead count None → ahead ≡ [] → TokenLimits text (Ok tt)
counted_all text ahead count h end = let all = all_counted text ahead count None h end in inr (none_over text all.0, inr (none_long text all.1, refl))

pub none_unlawful : (text : List ℕ) → AllByRecursion Lawful text → (p : ℕ) → FirstUnlawful text p → ⊥
none_unlawful text none p (b, first) = first_none Unlawful text none p b first

-- a fault is found in an expression of at most 4,096 bytes
pub unlawful_found : (text : List ℕ) (f : Fault) → length text ≤ 4096 → FirstUnlawful text f.place × (f ≡ fault UnlawfulByte f.place) → Limits text (Err f)
unlawful_found text f short (first, is) = inr (λ over. omega arith, inl (f.place, first, ap Err is))

pub tokens_checked : (text : List ℕ) (r : Result (Unit {0}) Fault) → length text ≤ 4096 → AllByRecursion Lawful text → TokenLimits text r → Limits text r
tokens_checked text r short lawful h = inr (λ over. omega arith, inr (none_unlawful text lawful, h))

-- the limits leave one answer
pub limits_one : (text : List ℕ) (r s : Result (Unit {0}) Fault) → Limits text r → Limits text s → r ≡ s
limits_one text r s =
    if_one (4096 < length text) (Refused (fault ExpressionTooLong 4096)) (IfSome (FirstUnlawful text) (λ p. Refused (fault UnlawfulByte p)) (TokenLimits text)) r s (λ p q. p ∙ sym q)
    (if_some_one (FirstUnlawful text) (λ p. Refused (fault UnlawfulByte p)) (TokenLimits text) r s
    (λ x y (b, p) (c, q) e f. e ∙ ap (λ n. Err (fault UnlawfulByte n)) (first_one Unlawful text x y b c p q) ∙ sym f)
    (if_some_one (TokenTooMany text) (λ p. Refused (fault TooManyTokens p)) (IfSome (FirstLongWord text) (λ p. Refused (fault WordTooLong p)) (Accepted tt)) r s
    (λ x y (t, p, i) (u, q, j) e f. e ∙ ap (λ n. Err (fault TooManyTokens n)) (i ∙ ap (λ (v : Placed). v.place) (nth_one (tokens_of text) 1024 t u p q) ∙ sym j) ∙ sym f)
    (if_some_one (FirstLongWord text) (λ p. Refused (fault WordTooLong p)) (Accepted tt) r s
    (λ x y (i, t, p, a) (j, u, q, b) e f.
    let same = first_one LongWord (tokens_of text) i j t u p q in
    e ∙ ap (λ n. Err (fault WordTooLong n)) (a ∙ ap (λ (v : Placed). v.place) (nth_one (tokens_of text) i t u p.nth (subst (λ k. Nth (tokens_of text) k u) (sym same) q.nth)) ∙ sym b) ∙ sym f)
    (λ p q. p ∙ sym q))))

pub limits_only : (text : List ℕ) (r : Result (Unit {0}) Fault) → Limits text r → Only (Limits text) r
limits_only text r h = record { is = h; only = λ s k. limits_one text s r k h }

-- an expression within the limits is accepted
pub within_accepted : (text : List ℕ) → WithinLimits text → Limits text (Ok tt)
within_accepted text h = tokens_checked text (Ok tt) h.bytes h.lawful (inr (none_over text h.tokens, inr (none_long text h.words, refl)))
