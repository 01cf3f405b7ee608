-- What is spaced cuts into the same tokens, and is no longer than what it was cut from.
use Rattle.std.proofs.Common.{◌≡◌, ℕ, ◌+◌, ◌<◌, ◌≤◌, Bool, true, false, cond, List, [], ◌∷◌, ◌++◌, map, length, Some, None, codes, Option, sym, refl, ap, ◌∙◌, subst, inl, append_assoc, arith}
use Rattle.std.specs.List.{AllByRecursion}
use Rattle.std.proofs.lemmas.List.{length-append, length-map}
use Rattle.tokens.specs.declared.token.TokenKind.{TokenKind}
use Rattle.tokens.specs.declared.token.TokenKind.TheVariants.{Word, Symbol, Open, Close}
use Rattle.tokens.specs.Tokens.{Lexeme, Placed, lexeme, together, tokens_from, tokens_of, Separator, WellFormed, Longest, CutInto}
use Rattle.tokens.specs.Spacing.{between, spaced_after, lexemes_of, respaced, SpacingKeepsTokens, closes, pairs_among, pairs_of}
use Rattle.tokens.proofs.Cuts.{together_same, ends_there, first_token, after_gap, no_tokens, cut}

abbrev Formed : Lexeme → Type 0
Formed t = WellFormed t.kind t.bytes

space_separates : (b : Bool) → AllByRecursion Separator (cond b (codes " ") [])
space_separates true = (inl refl, tt)
space_separates false = tt

between_separates : (last : Option TokenKind) (k : TokenKind) → AllByRecursion Separator (between last k)
between_separates None k = tt
between_separates (Some j) k = space_separates (together j k)

no_space : (b : Bool) → length (cond b (codes " ") []) ≡ 0 → b ≡ false
no_space true e = absurd (omega arith)
no_space false e = refl

-- a token ends where the spaced text of the next ones begins
spaced_longest : (k : TokenKind) (ts : List Lexeme) → AllByRecursion Formed ts → Longest k (spaced_after (Some k) ts)
spaced_longest k [] h = tt
spaced_longest k (t ∷ ts) h =
    ends_there k t.kind (between (Some k) t.kind) t.bytes (spaced_after (Some t.kind) ts) (between_separates (Some k) t.kind) h.0 (no_space (together k t.kind))

cut_spaced : (last : Option TokenKind) (ts : List Lexeme) (p : ℕ) → AllByRecursion Formed ts → map lexeme (tokens_from p (spaced_after last ts)) ≡ ts
cut_spaced last [] p h = ap (map lexeme) (no_tokens [] p tt)
cut_spaced last (t ∷ ts) p h =
    let gap = between last t.kind in
    let rest = spaced_after (Some t.kind) ts in
    ap (map lexeme)
    (after_gap gap (t.bytes ++ rest) p (between_separates last t.kind)
    ∙ first_token t.kind t.bytes rest (p + length gap) h.0 (spaced_longest t.kind ts h.1))
    ∙ ap (λ (us : List Lexeme). t ∷ us) (cut_spaced (Some t.kind) ts (p + length gap + length t.bytes) h.1)

pub spacing_keeps_tokens : SpacingKeepsTokens
spacing_keeps_tokens ts h = cut_spaced None ts 0 h

-- the tokens of a text are well formed
cut_formed : (p : ℕ) (text : List ℕ) (ts : List Placed) → CutInto p text ts → AllByRecursion Formed (map lexeme ts)
cut_formed p text [] h = tt
cut_formed p text (t ∷ ts) (gap, rest, split, seps, at, well, long, more) = (well, cut_formed (p + length gap + length t.bytes) rest ts more)

pub formed : (text : List ℕ) → AllByRecursion Formed (lexemes_of text)
formed text = cut_formed 0 text (tokens_of text) (cut 0 text)

pub respaced_tokens : (text : List ℕ) → lexemes_of (respaced text) ≡ lexemes_of text
respaced_tokens text = spacing_keeps_tokens (lexemes_of text) (formed text)

-- A space is put only where there was one. `EndsBefore last text`: a token before the text, if any, cannot go on in it.
abbrev EndsBefore : Option TokenKind → List ℕ → Type 0
EndsBefore None text = Unit {0}
EndsBefore (Some k) text = Longest k text

first_kind : (k : TokenKind) (w rest : List ℕ) → WellFormed k w → Longest k (w ++ rest) → together k k ≡ true → ⊥
first_kind k [] rest well long run = omega (arith, well.some)
first_kind k (b ∷ w) rest well long run = long well.alike.0 run

gap_wanted : (b : Bool) (gap : List ℕ) → (b ≡ true → 0 < length gap) → length (cond b (codes " ") []) ≤ length gap
gap_wanted true gap h = h refl
gap_wanted false gap h = omega arith

space_fits : (last : Option TokenKind) (k : TokenKind) (gap w rest : List ℕ) → WellFormed k w → EndsBefore last (gap ++ (w ++ rest)) → length (between last k) ≤ length gap
space_fits None k gap w rest well ends = omega arith
space_fits (Some j) k (g ∷ gap) w rest well ends = gap_wanted (together j k) (g ∷ gap) (λ _. omega arith)
space_fits (Some j) k [] w rest well ends =
    gap_wanted (together j k) [] (λ run. let same = together_same j k run in absurd (first_kind k w rest well (subst (λ (i : TokenKind). Longest i (w ++ rest)) same ends) (subst (λ (i : TokenKind). together i k ≡ true) same run)))

spaced_fits : (last : Option TokenKind) (p : ℕ) (text : List ℕ) (ts : List Placed) → CutInto p text ts → EndsBefore last text → length (spaced_after last (map lexeme ts)) ≤ length text
spaced_fits last p text [] h ends = omega arith
spaced_fits last p text (t ∷ ts) (gap, rest, split, seps, at, well, long, more) ends =
    let ih = spaced_fits (Some t.kind) (p + length gap + length t.bytes) rest ts more long in
    let fits = space_fits last t.kind gap t.bytes rest well (subst (EndsBefore last) split ends) in
    omega (
      arith,
      ap length split,
      length-append gap (t.bytes ++ rest),
      length-append t.bytes rest,
      length-append (between last t.kind) (t.bytes ++ spaced_after (Some t.kind) (map lexeme ts)),
      length-append t.bytes (spaced_after (Some t.kind) (map lexeme ts)),
    )

pub respaced_fits : (text : List ℕ) → length (respaced text) ≤ length text
respaced_fits text = spaced_fits None 0 text (tokens_of text) (cut 0 text) tt

closes_one : (k : TokenKind) → closes k ≤ 1
closes_one Word = omega arith
closes_one Symbol = omega arith
closes_one Open = omega arith
closes_one Close = omega arith

pub pairs_few : (ts : List Lexeme) → pairs_among ts ≤ length ts
pairs_few [] = omega arith
pairs_few (t ∷ ts) = omega (arith, closes_one t.kind, pairs_few ts)

-- the tokens are at most as many as the bytes
spaced_count : (last : Option TokenKind) (ts : List Lexeme) → AllByRecursion Formed ts → length ts ≤ length (spaced_after last ts)
spaced_count last [] h = omega arith
spaced_count last (t ∷ ts) h =
    let rest = spaced_after (Some t.kind) ts in
    omega (arith, spaced_count (Some t.kind) ts h.1, h.0.some, length-append (between last t.kind) (t.bytes ++ rest), length-append t.bytes rest)

pub tokens_few : (text : List ℕ) → length (tokens_of text) ≤ length text
tokens_few text =
    omega (arith, spaced_count None (lexemes_of text) (formed text), respaced_fits text, length-map (tokens_of text) lexeme)

pub pairs_within : (text : List ℕ) → pairs_of text ≤ length (tokens_of text)
pairs_within text = omega (arith, pairs_few (lexemes_of text), length-map (tokens_of text) lexeme)

pub pairs_fit : (text : List ℕ) → pairs_of text ≤ length text
pairs_fit text = omega (arith, pairs_within text, tokens_few text)

-- One turn of a loop that appends token after token: `ahead` are the tokens to come, `goal` the bytes in the end.
module _ (out : List ℕ) (last : Option TokenKind) (ahead rest : List Placed) (t : Placed) (next : ahead ≡ t ∷ rest) where
  pub turn_bytes : (goal : List ℕ) → out ++ spaced_after last (map lexeme ahead) ≡ goal → (out ++ (between last t.kind ++ t.bytes)) ++ spaced_after (Some t.kind) (map lexeme rest) ≡ goal
  turn_bytes goal h =
      append_assoc out (between last t.kind ++ t.bytes) (spaced_after (Some t.kind) (map lexeme rest))
      ∙ ap (λ (l : List ℕ). out ++ l) (append_assoc (between last t.kind) t.bytes (spaced_after (Some t.kind) (map lexeme rest)))
      ∙ ap (λ (l : List Placed). out ++ spaced_after last (map lexeme l)) (sym next)
      ∙ h

  pub turn_room : (goal : List ℕ) → out ++ spaced_after last (map lexeme ahead) ≡ goal → length out + length (between last t.kind ++ t.bytes) ≤ length goal
  turn_room goal h =
      omega (arith, ap length (turn_bytes goal h), length-append (out ++ (between last t.kind ++ t.bytes)) (spaced_after (Some t.kind) (map lexeme rest)), length-append out (between last t.kind ++ t.bytes))

  pub turn_pairs : (pairs all : ℕ) → pairs + pairs_among (map lexeme ahead) ≡ all → pairs + closes t.kind + pairs_among (map lexeme rest) ≡ all
  turn_pairs pairs all h = omega (arith, ap (λ (l : List Placed). pairs_among (map lexeme l)) next)
