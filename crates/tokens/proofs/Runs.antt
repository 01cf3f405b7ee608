-- What a text begins with: separators, which are passed over, and a run of one kind or a bracket, which is its first token.
use Rattle.std.proofs.Common.{◌≡◌, ℕ, suc, ◌+◌, ◌<◌, ◌≤◌, Bool, true, false, Option, List, [], ◌∷◌, ◌≢◌, length, take, drop, slice_get, Some, None, sym, refl, ap, ◌∙◌, subst, ⊎_elim, arith}
use Rattle.std.specs.List.{AllByRecursion, prefix_len}
use Rattle.std.specs.Option.{option_eq, IfSome}
use Rattle.std.proofs.ByRecursion.{All-weaker}
use Rattle.std.proofs.lemmas.List.{take-append-drop, length-take-le, drop_more, drop_all, nil_from_length, get_or-take}
use Rattle.std.proofs.lemmas.Bool.{both_ways, cases_lt, false≢true, true≢false}
use Rattle.std.proofs.lemmas.List.Elements.{recursion_from_All}
use Rattle.std.proofs.lemmas.List.Folds.{length-prefix_len}
use Rattle.std.proofs.lemmas.List.Sums.{prefix_len_passes, prefix_len_stops}
use denote.Enum.Bare.{sameb, same_true, same_false}
use Rattle.tokens.specs.contracts.token.TokenKind.{the_type}
use Rattle.tokens.specs.declared.token.TokenKind.{TokenKind}
use Rattle.tokens.specs.Tokens.{kind_of, together, tokens_from, Separator, Longest}
use Rattle.tokens.proofs.Cuts.{token, first_token, after_gap, no_tokens, none_separator}

-- the byte is of this kind, as the code compares the two
abbrev pub is_of : Option TokenKind → ℕ → Bool
is_of k b = option_eq (sameb the_type) (kind_of b) k

option_same : (j k : Option TokenKind) → option_eq (sameb the_type) j k ≡ true → j ≡ k
option_same None None e = refl
option_same None (Some k) e = absurd (false≢true e)
option_same (Some j) None e = absurd (false≢true e)
option_same (Some j) (Some k) e = ap Some (same_true the_type tt j k e)

option_other : (k : Option TokenKind) → option_eq (sameb the_type) k k ≡ false → ⊥
option_other None e = true≢false e
option_other (Some k) e = same_false the_type k k e refl

-- the longest front of one kind
pub front_alike : (k : Option TokenKind) (text : List ℕ) → AllByRecursion (λ b. kind_of b ≡ k) (take (prefix_len (is_of k) text) text)
front_alike k text =
    recursion_from_All (λ b. kind_of b ≡ k) (take (prefix_len (is_of k) text) text)
    (λ i d lt. let inside : i < prefix_len (is_of k) text = omega (arith, length-prefix_len (is_of k) text) in
    option_same _ k (ap (is_of k) (get_or-take (prefix_len (is_of k) text) text i d inside) ∙ prefix_len_passes (is_of k) text i d inside))

-- the bytes begin with none of this kind
abbrev pub EndsKind : Option TokenKind → List ℕ → Type 0
EndsKind k text = IfSome (slice_get text 0) (λ b. kind_of b ≢ k)

pub front_longest : (k : Option TokenKind) (text : List ℕ) → EndsKind k (drop (prefix_len (is_of k) text) text)
front_longest k text =
    let n = prefix_len (is_of k) text in
    ⊎_elim
    (λ lt. subst (EndsKind k) (sym (drop_more text n 0 lt)) (λ is. option_other k (ap (λ (o : Option TokenKind). option_eq (sameb the_type) o k) (sym is) ∙ prefix_len_stops (is_of k) text 0 lt)))
    (λ end. subst (EndsKind k) (sym (drop_all n text end)) tt)
    (cases_lt n (length text))

-- separators at the front are passed over
pub gap_passed : (text : List ℕ) (p n : ℕ) → n ≤ length text → AllByRecursion (λ b. kind_of b ≡ None) (take n text) → tokens_from p text ≡ tokens_from (p + n) (drop n text)
gap_passed text p n within none =
    let seps = All-weaker (λ b. kind_of b ≡ None) Separator none_separator (take n text) none in
    ap (tokens_from p) (sym (take-append-drop n text)) ∙ after_gap (take n text) (drop n text) p seps ∙ ap (λ m. tokens_from (p + m) (drop n text)) (length-take-le n text within)

pub at_end : (text : List ℕ) (p : ℕ) → length text ≡ 0 → tokens_from p text ≡ []
at_end text p e = ap (tokens_from p) (nil_from_length text e) ∙ no_tokens [] p tt

longest_rest : (k : TokenKind) (rest : List ℕ) → EndsKind (Some k) rest → Longest k rest
longest_rest k [] h = tt
longest_rest k (b ∷ bs) h = λ is _. h is

bracket_longest : (k : TokenKind) (rest : List ℕ) → together k k ≡ false → Longest k rest
bracket_longest k [] e = tt
bracket_longest k (b ∷ bs) e = λ _ run. both_ways (together k k) e run

-- the byte at the front, with those after it that are of its kind if it is no bracket, is the next token
module _ (k : TokenKind) (b : ℕ) (more : List ℕ) (p : ℕ) (is : kind_of b ≡ Some k) where
  pub run_token : together k k ≡ true → (n : ℕ) → n ≤ length more → AllByRecursion (λ x. kind_of x ≡ Some k) (take n more) → EndsKind (Some k) (drop n more) → tokens_from p (b ∷ more) ≡ token k p (take (1 + n) (b ∷ more)) ∷ tokens_from (p + (1 + n)) (drop (1 + n) (b ∷ more))
  run_token run n within alike long =
      let one : suc n ≡ 1 + n = omega arith in
      let size : p + length (b ∷ take n more) ≡ p + suc n = omega (arith, length-take-le n more within) in
      ap (λ (l : List ℕ). tokens_from p (b ∷ l)) (sym (take-append-drop n more))
      ∙ first_token k (b ∷ take n more) (drop n more) p (record { some = omega arith; alike = (is, alike); alone = λ no_run. absurd (both_ways (together k k) no_run run) }) (longest_rest k (drop n more) long)
      ∙ ap (λ m. token k p (b ∷ take n more) ∷ tokens_from m (drop n more)) size
      ∙ ap (λ m. token k p (take m (b ∷ more)) ∷ tokens_from (p + m) (drop m (b ∷ more))) one

  pub bracket_token : together k k ≡ false → tokens_from p (b ∷ more) ≡ token k p (take 1 (b ∷ more)) ∷ tokens_from (p + 1) (drop 1 (b ∷ more))
  bracket_token no_run =
      first_token k (b ∷ []) more p (record { some = omega arith; alike = (is, tt); alone = λ _. refl }) (bracket_longest k more no_run)
