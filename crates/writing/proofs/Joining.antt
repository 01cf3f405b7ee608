-- The shape of a text that is put together of two.
use Rattle.std.proofs.Common.{◌≡◌, ℕ, ◌+◌, ◌-◌, ◌^◌, ◌≤◌, cond, Bool, true, false, List, [], ◌∷◌, ◌++◌, length, codes, Some, Option, refl, ap, sym, ◌∙◌, arith}
use Rattle.std.proofs.lemmas.List.{length-append, append_assoc}
use Rattle.tokens.specs.Spacing.{between, spaced, spaced_after, pairs_among}
use Rattle.tokens.specs.Tokens.{Lexeme, together}
use Rattle.tokens.specs.declared.token.TokenKind.{TokenKind}
use Rattle.writing.specs.declared.shape.Shape.{Shape}
use Rattle.writing.specs.Shapes.{plus, joined, last_kind, text_shape}

-- the kind that stands before what comes after the tokens
abbrev pub after : Option TokenKind → List Lexeme → Option TokenKind
after last [] = last
after last (x ∷ xs) = after (Some x.kind) xs

pub spaced_append : (last : Option TokenKind) (xs ys : List Lexeme) → spaced_after last (xs ++ ys) ≡ spaced_after last xs ++ spaced_after (after last xs) ys
spaced_append last [] ys = refl
spaced_append last (x ∷ xs) ys = rw (spaced_append (Some x.kind) xs ys) (simp append_assoc)

pub after_some : (k : TokenKind) (xs : List Lexeme) → after (Some k) xs ≡ Some (last_kind k xs)
after_some k [] = refl
after_some k (x ∷ xs) = after_some x.kind xs

space_long : (j k : TokenKind) → length (between (Some j) k) ≡ cond (together j k) 1 0
space_long j k = spaced_one (together j k) where
  spaced_one : (b : Bool) → length (cond b (codes " ") []) ≡ cond b 1 0
  spaced_one true = refl
  spaced_one false = refl

pub spaced_join : (x y : Lexeme) (xs ys : List Lexeme)
    → length (spaced ((x ∷ xs) ++ (y ∷ ys))) ≡ length (spaced (x ∷ xs)) + cond (together (last_kind x.kind xs) y.kind) 1 0 + length (spaced (y ∷ ys))
spaced_join x y xs ys =
    rw (spaced_append (Some x.kind) xs (y ∷ ys)) (rw (after_some x.kind xs) (simp length-append (omega (arith, space_long (last_kind x.kind xs) y.kind))))

pub pairs_append : (xs ys : List Lexeme) → pairs_among (xs ++ ys) ≡ pairs_among xs + pairs_among ys
pairs_append [] ys = omega arith
pairs_append (x ∷ xs) ys = omega (arith, pairs_append xs ys)

pub last_append : (k : TokenKind) (xs : List Lexeme) (y : Lexeme) (ys : List Lexeme) → last_kind k (xs ++ (y ∷ ys)) ≡ last_kind y.kind ys
last_append k [] y ys = refl
last_append k (x ∷ xs) y ys = last_append x.kind xs y ys

plus_small : (m n : ℕ) → m + n ≤ 2 ^ 64 - 1 → plus m n ≡ m + n
plus_small m n h = omega arith

abbrev pub shape : ℕ → ℕ → ℕ → ℕ → ℕ → TokenKind → TokenKind → Shape
shape l r p b n f k = record { left = l; right = r; pairs = p; bytes = b; tokens = n; first = f; last = k }

pub shape_same : (l r p q b c n m : ℕ) (f k j : TokenKind) → p ≡ q → b ≡ c → n ≡ m → k ≡ j → shape l r p b n f k ≡ shape l r q c m f j
shape_same l r p q b c n m f k j e h i g = cc

pub space_small : (b : Bool) → cond b 1 0 ≤ 1
space_small true = omega arith
space_small false = omega arith

-- what is joined is the shape of the tokens of both, while no number passes 64 bits
pub joined_text : (l r i j : ℕ) (x y : Lexeme) (xs ys : List Lexeme)
    → pairs_among (x ∷ xs) + pairs_among (y ∷ ys) ≤ 2 ^ 64 - 1
    → length (spaced (x ∷ xs)) + 1 + length (spaced (y ∷ ys)) ≤ 2 ^ 64 - 1
    → length (x ∷ xs) + length (y ∷ ys) ≤ 2 ^ 64 - 1
    → joined (text_shape l r (x ∷ xs)) (text_shape i j (y ∷ ys)) ≡ text_shape l j ((x ∷ xs) ++ (y ∷ ys))
joined_text l r i j x y xs ys few short some =
    let space = cond (together (last_kind x.kind xs) y.kind) 1 0 in
    let small : space ≤ 1 = space_small (together (last_kind x.kind xs) y.kind) in
    let once : plus (length (spaced (x ∷ xs))) space ≡ length (spaced (x ∷ xs)) + space = plus_small (length (spaced (x ∷ xs))) space (omega arith) in
    let twice : plus (length (spaced (x ∷ xs)) + space) (length (spaced (y ∷ ys))) ≡ length (spaced (x ∷ xs)) + space + length (spaced (y ∷ ys)) =
    plus_small (length (spaced (x ∷ xs)) + space) (length (spaced (y ∷ ys))) (omega arith) in
    let count : length ((x ∷ xs) ++ (y ∷ ys)) ≡ length (x ∷ xs) + length (y ∷ ys) = length-append (x ∷ xs) (y ∷ ys) in
    shape_same l j _ _ _ _ _ _ x.kind _ _
    (plus_small (pairs_among (x ∷ xs)) (pairs_among (y ∷ ys)) few ∙ sym (pairs_append (x ∷ xs) (y ∷ ys)))
    (ap (λ n. plus n (length (spaced (y ∷ ys)))) once ∙ twice ∙ sym (spaced_join x y xs ys))
    (plus_small (length (x ∷ xs)) (length (y ∷ ys)) some ∙ sym count)
    (sym (last_append x.kind xs y ys))
