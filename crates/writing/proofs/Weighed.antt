-- The shape that is reckoned for a tree is that of the text that the writing rule gives it.
use Rattle.std.proofs.Common.{◌≡◌, ℕ, ◌+◌, ◌-◌, ◌*◌, ◌^◌, ◌<◌, ◌≤◌, max, Bool, true, false, List, [], ◌∷◌, ◌++◌, length, Some, None, Option, refl, ap, sym, ◌∙◌, arith}
use Rattle.std.specs.Option.{option_map}
use Rattle.std.proofs.lemmas.List.{length-append, append-nil, append_assoc}
use Rattle.tokens.specs.Spacing.{spaced, closes, pairs_among}
use Rattle.tokens.specs.Tokens.{Lexeme, together}
use Rattle.tokens.specs.declared.token.TokenKind.{TokenKind}
use Rattle.tokens.specs.declared.token.TokenKind.TheVariants as K
use Rattle.notation.specs.Operators.{Op, Fixity, fixity_of}
use Rattle.notation.specs.Operators.Fixity.{prefix, postfix, between}
use Rattle.notation.specs.Tables.{Table, LawfulTable}
use Rattle.grammar.specs.Trees.{Tree, Bracketed}
use Rattle.grammar.specs.Trees.Tree.{name, one, two}
use Rattle.grammar.specs.Trees.Bracketed.{pair, prefixed, postfixed, infixed}
use Rattle.grammar.specs.Weights.{operator_in, or_absent, left_weight, right_weight, admits_left, admits_right}
use Rattle.grammar.specs.Reading.{word, opening, closing, sign_of, lexemes}
use Rattle.grammar.specs.Writing as W
use Rattle.grammar.specs.Writing.{write, as_left, as_right, write_one}
use Rattle.rack.specs.Nodes.{size}
use Rattle.rack.specs.Racks.{ProperTree}
use Rattle.rack.specs.Reckoning.{fold}
use Rattle.writing.specs.declared.shape.Shape.{Shape}
use Rattle.writing.specs.Shapes.{last_kind, token_shape, weighing, joined, bracketed, paired, sign_shape, left_operand, right_operand, prefixed_shape, postfixed_shape, infixed_shape, single_shape, shapes, text_shape, shape_of}
use Rattle.writing.proofs.Joining.{joined_text, spaced_join, pairs_append, space_small, shape_same}

-- some tokens, and no number of their shape passes n
pub record Sized (n : ℕ) (xs : List Lexeme) : Type 0 where
  pub pairs : pairs_among xs ≤ n
  pub bytes : length (spaced xs) ≤ n
  pub tokens : length xs ≤ n
  pub some : 1 ≤ length xs

pub spaced_short : (xs ys : List Lexeme) → length (spaced (xs ++ ys)) ≤ length (spaced xs) + 1 + length (spaced ys)
spaced_short [] ys = omega arith
spaced_short (x ∷ xs) [] = rw (append-nil xs) (omega arith)
spaced_short (x ∷ xs) (y ∷ ys) = omega (arith, spaced_join x y xs ys, space_small (together (last_kind x.kind xs) y.kind))

-- the same as `joined_text`, of lists that are not empty
join : (l r i j : ℕ) (xs ys : List Lexeme) → 1 ≤ length xs → 1 ≤ length ys
    → pairs_among xs + pairs_among ys ≤ 2 ^ 64 - 1
    → length (spaced xs) + 1 + length (spaced ys) ≤ 2 ^ 64 - 1
    → length xs + length ys ≤ 2 ^ 64 - 1
    → joined (text_shape l r xs) (text_shape i j ys) ≡ text_shape l j (xs ++ ys)
join l r i j [] ys h k few short some = absurd (omega arith)
join l r i j (x ∷ xs) [] h k few short some = absurd (omega arith)
join l r i j (x ∷ xs) (y ∷ ys) h k few short some = joined_text l r i j x y xs ys few short some

pub join_sized : (l r i j m n : ℕ) (xs ys : List Lexeme) → Sized m xs → Sized n ys → m + 1 + n < 1000000 → joined (text_shape l r xs) (text_shape i j ys) ≡ text_shape l j (xs ++ ys)
join_sized l r i j m n xs ys a b small = join l r i j xs ys a.some b.some (omega arith) (omega arith) (omega arith)

pub sized_append : (m n : ℕ) (xs ys : List Lexeme) → Sized m xs → Sized n ys → Sized (m + 1 + n) (xs ++ ys)
sized_append m n xs ys a b = record {
  pairs = omega (arith, pairs_append xs ys);
  bytes = omega (arith, spaced_short xs ys);
  tokens = omega (arith, length-append xs ys);
  some = omega (arith, length-append xs ys);
}

sized_more : (m n : ℕ) (xs : List Lexeme) → m ≤ n → Sized m xs → Sized n xs
sized_more m n xs h a = record { pairs = omega arith; bytes = omega arith; tokens = omega arith; some = a.some }

closes_few : (k : TokenKind) → closes k ≤ 1
closes_few K.Word = omega arith
closes_few K.Symbol = omega arith
closes_few K.Open = omega arith
closes_few K.Close = omega arith

sized_one : (x : Lexeme) → length x.bytes ≤ 16 → Sized 16 (x ∷ [])
sized_one x h = record {
  pairs = omega (arith, closes_few x.kind);
  bytes = omega (arith, length-append x.bytes []);
  tokens = omega arith;
  some = omega arith;
}

pub token_text : (x : Lexeme) → token_shape x.kind (length x.bytes) ≡ text_shape 0 0 (x ∷ [])
token_text x = shape_same 0 0 (closes x.kind) (closes x.kind + 0) (length x.bytes) (length (x.bytes ++ [])) 1 1 x.kind x.kind x.kind (omega arith) (ap length (sym (append-nil x.bytes))) refl refl

opening_sized : Sized 16 (opening ∷ [])
opening_sized = sized_one opening (omega arith)

closing_sized : Sized 16 (closing ∷ [])
closing_sized = sized_one closing (omega arith)

module _ (t : Table) where
  pair_sized : (n : ℕ) (b : Bracketed) → Sized n (lexemes t b) → Sized (n + 34) (lexemes t (pair b))
  pair_sized n b h =
      sized_more _ _ _ (omega arith)
      (sized_append 16 (n + 1 + 16) (opening ∷ []) (lexemes t b ++ (closing ∷ [])) opening_sized (sized_append n 16 (lexemes t b) (closing ∷ []) h closing_sized))

  pair_shape : (n : ℕ) (b : Bracketed) → n < 900000 → Sized n (lexemes t b) → bracketed (shape_of t b) ≡ shape_of t (pair b)
  pair_shape n b small h =
      let first : joined (token_shape K.Open 1) (shape_of t b) ≡ text_shape 0 (right_weight t b) (opening ∷ lexemes t b) =
      join_sized 0 0 (left_weight t b) (right_weight t b) 16 n (opening ∷ []) (lexemes t b) opening_sized h (omega arith) in
      ap (λ a. joined a (token_shape K.Close 1)) first
      ∙ join_sized 0 (right_weight t b) 0 0 (16 + 1 + n) 16 (opening ∷ lexemes t b) (closing ∷ [])
      (sized_append 16 n (opening ∷ []) (lexemes t b) opening_sized h) closing_sized (omega arith)

  paired_sized : (n : ℕ) (admitted : Bool) (b : Bracketed) → Sized n (lexemes t b) → Sized (n + 34) (lexemes t (W.paired admitted b))
  paired_sized n true b h = sized_more _ _ _ (omega arith) h
  paired_sized n false b h = pair_sized n b h

  paired_shape : (n : ℕ) (admitted : Bool) (b : Bracketed) → n < 900000 → Sized n (lexemes t b) → paired admitted (shape_of t b) ≡ shape_of t (W.paired admitted b)
  paired_shape n true b small h = refl
  paired_shape n false b small h = pair_shape n b small h

  short_spelling : (o : Option Op) → ((p : Op) → o ≡ Some p → length p.spelling ≤ 12) → length (or_absent o).spelling ≤ 12
  short_spelling None h = omega arith
  short_spelling (Some p) h = h p refl

  module _ (lawful : LawfulTable t) where
    sign_sized : (f : ℕ) → Sized 16 (sign_of t f ∷ [])
    sign_sized f =
        let short : length (operator_in t f).spelling ≤ 12 = short_spelling (t f) (λ p e. (lawful.each f p e).spelling.short) in
        sized_one (sign_of t f) (omega arith)

    prefixed_sized : (n f : ℕ) (b : Bracketed) → Sized n (lexemes t b) → Sized (n + 51) (lexemes t (prefixed f (as_right t f b)))
    prefixed_sized n f b h =
        sized_more _ _ _ (omega arith)
        (sized_append 16 (n + 34) (sign_of t f ∷ []) (lexemes t (as_right t f b)) (sign_sized f) (paired_sized n (admits_right t f b) b h))

    prefixed_weighed : (n f : ℕ) (b : Bracketed) → n < 900000 → Sized n (lexemes t b)
        → prefixed_shape (operator_in t f) (shape_of t b) ≡ shape_of t (prefixed f (as_right t f b))
    prefixed_weighed n f b small h =
        let o = operator_in t f in
        let b′ = as_right t f b in
        ap (λ r. weighing 0 (max o.priority r.right) (joined (sign_shape o) r)) (paired_shape n (admits_right t f b) b small h)
        ∙ ap (λ s. weighing 0 (max o.priority (right_weight t b′)) (joined s (shape_of t b′))) (token_text (sign_of t f))
        ∙ ap (weighing 0 (max o.priority (right_weight t b′)))
        (join_sized 0 0 (left_weight t b′) (right_weight t b′) 16 (n + 34) (sign_of t f ∷ []) (lexemes t b′) (sign_sized f) (paired_sized n (admits_right t f b) b h) (omega arith))

    postfixed_sized : (n f : ℕ) (a : Bracketed) → Sized n (lexemes t a) → Sized (n + 51) (lexemes t (postfixed f (as_left t f a)))
    postfixed_sized n f a h =
        sized_more _ _ _ (omega arith)
        (sized_append (n + 34) 16 (lexemes t (as_left t f a)) (sign_of t f ∷ []) (paired_sized n (admits_left t f a) a h) (sign_sized f))

    postfixed_weighed : (n f : ℕ) (a : Bracketed) → n < 900000 → Sized n (lexemes t a)
        → postfixed_shape (operator_in t f) (shape_of t a) ≡ shape_of t (postfixed f (as_left t f a))
    postfixed_weighed n f a small h =
        let o = operator_in t f in
        let a′ = as_left t f a in
        ap (λ r. weighing (max o.priority r.left) 0 (joined r (sign_shape o))) (paired_shape n (admits_left t f a) a small h)
        ∙ ap (λ s. weighing (max o.priority (left_weight t a′)) 0 (joined (shape_of t a′) s)) (token_text (sign_of t f))
        ∙ ap (weighing (max o.priority (left_weight t a′)) 0)
        (join_sized (left_weight t a′) (right_weight t a′) 0 0 (n + 34) 16 (lexemes t a′) (sign_of t f ∷ []) (paired_sized n (admits_left t f a) a h) (sign_sized f) (omega arith))

    infixed_sized : (m n f : ℕ) (a b : Bracketed) → Sized m (lexemes t a) → Sized n (lexemes t b) → Sized (m + n + 86) (lexemes t (infixed f (as_left t f a) (as_right t f b)))
    infixed_sized m n f a b h k =
        sized_more _ _ _ (omega arith)
        (sized_append (m + 34) (16 + 1 + (n + 34)) (lexemes t (as_left t f a)) (sign_of t f ∷ lexemes t (as_right t f b)) (paired_sized m (admits_left t f a) a h)
        (sized_append 16 (n + 34) (sign_of t f ∷ []) (lexemes t (as_right t f b)) (sign_sized f) (paired_sized n (admits_right t f b) b k)))

    infixed_weighed : (m n f : ℕ) (a b : Bracketed) → m + n < 900000 → Sized m (lexemes t a) → Sized n (lexemes t b)
        → infixed_shape (operator_in t f) (shape_of t a) (shape_of t b) ≡ shape_of t (infixed f (as_left t f a) (as_right t f b))
    infixed_weighed m n f a b small h k =
        let o = operator_in t f in
        let a′ = as_left t f a in
        let b′ = as_right t f b in
        let left : left_operand o (shape_of t a) ≡ shape_of t a′ = paired_shape m (admits_left t f a) a (omega arith) h in
        let right : right_operand o (shape_of t b) ≡ shape_of t b′ = paired_shape n (admits_right t f b) b (omega arith) k in
        let sized_a = paired_sized m (admits_left t f a) a h in
        let sized_b = paired_sized n (admits_right t f b) b k in
        let whole = λ (l r : Shape). weighing (max o.priority l.left) (max o.priority r.right) (joined (joined l (sign_shape o)) r) in
        let outer = weighing (max o.priority (left_weight t a′)) (max o.priority (right_weight t b′)) in
        ap (λ l. whole l (right_operand o (shape_of t b))) left
        ∙ ap (whole (shape_of t a′)) right
        ∙ ap (λ s. outer (joined (joined (shape_of t a′) s) (shape_of t b′))) (token_text (sign_of t f))
        ∙ ap (λ s. outer (joined s (shape_of t b′)))
        (join_sized (left_weight t a′) (right_weight t a′) 0 0 (m + 34) 16 (lexemes t a′) (sign_of t f ∷ []) sized_a (sign_sized f) (omega arith))
        ∙ ap outer
        (join_sized (left_weight t a′) 0 (left_weight t b′) (right_weight t b′) (m + 34 + 1 + 16) (n + 34) (lexemes t a′ ++ (sign_of t f ∷ [])) (lexemes t b′)
        (sized_append (m + 34) 16 (lexemes t a′) (sign_of t f ∷ []) sized_a (sign_sized f)) sized_b (omega arith))
        ∙ ap (text_shape (max o.priority (left_weight t a′)) (max o.priority (right_weight t b′))) (append_assoc (lexemes t a′) (sign_of t f ∷ []) (lexemes t b′))

    single_weighed : (k : Fixity) (n f : ℕ) (b : Bracketed) → n < 900000 → Sized n (lexemes t b)
        → (single_shape k (operator_in t f) (shape_of t b) ≡ shape_of t (write_one t (Some k) f b)) × Sized (n + 51) (lexemes t (write_one t (Some k) f b))
    single_weighed prefix n f b small h = (prefixed_weighed n f b small h, prefixed_sized n f b h)
    single_weighed postfix n f b small h = (postfixed_weighed n f b small h, postfixed_sized n f b h)
    single_weighed between n f b small h = (prefixed_weighed n f b small h, prefixed_sized n f b h)

    one_weighed : (q : Option Op) (n f : ℕ) (b : Bracketed) → n < 900000 → Sized n (lexemes t b)
        → (single_shape (fixity_of (or_absent q).form) (operator_in t f) (shape_of t b) ≡ shape_of t (write_one t (option_map (λ o. fixity_of o.form) q) f b))
        × Sized (n + 51) (lexemes t (write_one t (option_map (λ o. fixity_of o.form) q) f b))
    one_weighed None n f b small h = (prefixed_weighed n f b small h, prefixed_sized n f b h)
    one_weighed (Some o) n f b small h = single_weighed (fixity_of o.form) n f b small h

    -- the shape that is reckoned for a tree of a rack, and how large it may be
    pub weighed : (tree : Tree) → ProperTree tree → size tree ≤ 4096
        → (fold (shapes t) tree ≡ shape_of t (write t tree)) × Sized (100 * size tree) (lexemes t (write t tree))
    weighed (name w) proper small =
        let short : length w ≤ 16 = proper.short in
        (token_text (word w), sized_more 16 100 (word w ∷ []) (omega arith) (sized_one (word w) short))
    weighed (one f x) (low, proper) small =
        let inner = weighed x proper (omega arith) in
        let outer = one_weighed (t f) (100 * size x) f (write t x) (omega arith) inner.1 in (
          ap (single_shape (fixity_of (operator_in t f).form) (operator_in t f)) inner.0 ∙ outer.0,
          sized_more (100 * size x + 51) (100 * (size x + 1)) _ (omega arith) outer.1,
        )
    weighed (two f x y) (low, high, proper_x, proper_y) small =
        let first = weighed x proper_x (omega arith) in
        let second = weighed y proper_y (omega arith) in (
          ap (λ a. infixed_shape (operator_in t f) a (fold (shapes t) y)) first.0
              ∙ ap (infixed_shape (operator_in t f) (shape_of t (write t x))) second.0
              ∙ infixed_weighed (100 * size x) (100 * size y) f (write t x) (write t y) (omega arith) first.1 second.1,
          sized_more (100 * size x + 100 * size y + 86) (100 * (size x + size y + 1)) _ (omega arith)
              (infixed_sized (100 * size x) (100 * size y) f (write t x) (write t y) first.1 second.1),
        )
