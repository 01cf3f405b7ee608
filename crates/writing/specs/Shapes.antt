-- Shapes: how the shape of a text comes from those of its parts.
use Rattle.std.specs.Prelude.{ℕ, ◌+◌, ◌-◌, ◌^◌, min, max, Bool, true, false, cond, List, [], ◌∷◌, length, nat_le}
use Rattle.tokens.specs.declared.token.TokenKind.{TokenKind}
use Rattle.tokens.specs.declared.token.TokenKind.TheVariants as K
use Rattle.tokens.specs.Spacing.{closes, spaced, pairs_among}
use Rattle.tokens.specs.Tokens.{Lexeme, together}
use Rattle.notation.specs.Operators.{Op, Fixity, fixity_of}
use Rattle.notation.specs.Operators.Fixity.{prefix, postfix, between}
use Rattle.notation.specs.Tables.{Table}
use Rattle.grammar.specs.Trees.{Bracketed}
use Rattle.grammar.specs.Reading.{kind_of_spelling, lexemes}
use Rattle.grammar.specs.Weights.{operator_in, left_limit, right_limit, left_weight, right_weight}
use Rattle.rack.specs.Reckoning.{Meaning}
use Rattle.writing.specs.declared.shape.Shape.{Shape}

-- numbers of 64 bits, which end at the largest
abbrev pub plus : ℕ → ℕ → ℕ
plus m n = min (m + n) (2 ^ 64 - 1)

-- one token of so many bytes
abbrev pub token_shape : TokenKind → ℕ → Shape
token_shape k n = record { left = 0; right = 0; pairs = closes k; bytes = n; tokens = 1; first = k; last = k }

-- with these weights
abbrev pub weighing : ℕ → ℕ → Shape → Shape
weighing l r a = record { left = l; right = r; pairs = a.pairs; bytes = a.bytes; tokens = a.tokens; first = a.first; last = a.last }

-- one after the other, by the spacing rule
abbrev pub joined : Shape → Shape → Shape
joined a b = record {
  left = a.left;
  right = b.right;
  pairs = plus a.pairs b.pairs;
  bytes = plus (plus a.bytes (cond (together a.last b.first) 1 0)) b.bytes;
  tokens = plus a.tokens b.tokens;
  first = a.first;
  last = b.last;
}

-- in a pair of brackets
abbrev pub bracketed : Shape → Shape
bracketed a = joined (joined (token_shape K.Open 1) a) (token_shape K.Close 1)

-- as it stands if it is admitted, else in a pair
abbrev pub paired : Bool → Shape → Shape
paired true a = a
paired false a = bracketed a

-- the shape of an operator's spelling
abbrev pub sign_shape : Op → Shape
sign_shape o = token_shape (kind_of_spelling o.spelling) (length o.spelling)

-- its left operand, and its right one, each in a pair if its weight towards the operator is outside the limit
abbrev pub left_operand : Op → Shape → Shape
left_operand o a = paired (nat_le a.right (left_limit o)) a

abbrev pub right_operand : Op → Shape → Shape
right_operand o a = paired (nat_le a.left (right_limit o)) a

-- the operator before its operand, after it, and between two
abbrev pub prefixed_shape : Op → Shape → Shape
prefixed_shape o a = weighing 0 (max o.priority (right_operand o a).right) (joined (sign_shape o) (right_operand o a))

abbrev pub postfixed_shape : Op → Shape → Shape
postfixed_shape o a = weighing (max o.priority (left_operand o a).left) 0 (joined (left_operand o a) (sign_shape o))

abbrev pub infixed_shape : Op → Shape → Shape → Shape
infixed_shape o a b =
    weighing (max o.priority (left_operand o a).left) (max o.priority (right_operand o b).right)
    (joined (joined (left_operand o a) (sign_shape o)) (right_operand o b))

-- a function with its one operand; only a prefix or a postfix operator is written so
abbrev pub single_shape : Fixity → Op → Shape → Shape
single_shape prefix = prefixed_shape
single_shape postfix = postfixed_shape
single_shape between = prefixed_shape

-- the rules by which the shape of the text for a tree is worked out
abbrev pub shapes : Table → Meaning Shape
shapes t = record {
  named = λ w. token_shape K.Word (length w);
  single = λ f. single_shape (fixity_of (operator_in t f).form) (operator_in t f);
  double = λ f. infixed_shape (operator_in t f);
}

-- the kind of the first token, and of the last, after one of kind k if there is none
abbrev pub first_kind : TokenKind → List Lexeme → TokenKind
first_kind k [] = k
first_kind k (x ∷ xs) = x.kind

abbrev pub last_kind : TokenKind → List Lexeme → TokenKind
last_kind k [] = k
last_kind k (x ∷ xs) = last_kind x.kind xs

-- The shape of tokens, with the weights of their bracketed tree; and of a bracketed tree.
abbrev pub text_shape : ℕ → ℕ → List Lexeme → Shape
text_shape l r xs = record {
  left = l;
  right = r;
  pairs = pairs_among xs;
  bytes = length (spaced xs);
  tokens = length xs;
  first = first_kind K.Word xs;
  last = last_kind K.Word xs;
}

abbrev pub shape_of : Table → Bracketed → Shape
shape_of t b = text_shape (left_weight t b) (right_weight t b) (lexemes t b)
