-- A tree has no more nodes than its text has tokens, since each node has a token of its own.
use Rattle.std.proofs.Common.{◌≤◌, [], ◌∷◌, length, ap, arith}
use Rattle.std.proofs.lemmas.List.{length-append, length-map}
use Rattle.tokens.specs.Tokens.{lexeme, tokens_of}
use Rattle.notation.specs.Tables.{Table}
use Rattle.grammar.specs.Trees.{Bracketed, erase}
use Rattle.grammar.specs.Trees.Bracketed.{named, pair, prefixed, postfixed, infixed}
use Rattle.grammar.specs.Reading.{lexemes, sign_of, closing}
use Rattle.rack.specs.Nodes.{size}
use Rattle.rack.specs.Sizes.{NoMoreNodesThanTokens}

within : (t : Table) (b : Bracketed) → size (erase b) ≤ length (lexemes t b)
within t (named w) = omega arith
within t (pair b) = omega (arith, within t b, length-append (lexemes t b) (closing ∷ []))
within t (prefixed f b) = omega (arith, within t b)
within t (postfixed f a) = omega (arith, within t a, length-append (lexemes t a) (sign_of t f ∷ []))
within t (infixed f a b) = omega (arith, within t a, within t b, length-append (lexemes t a) (sign_of t f ∷ lexemes t b))

pub no_more_nodes_than_tokens : NoMoreNodesThanTokens
no_more_nodes_than_tokens t text tree r =
    let b = r.reading.bracketed in
    omega (arith, within t b, ap size r.reading.erased, ap length r.reading.tokens, length-map (tokens_of text) lexeme)
