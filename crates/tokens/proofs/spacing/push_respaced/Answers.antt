use Rattle.std.proofs.Common.{◌++◌, vec_items, ap, arith}
use Rattle.std.proofs.lemmas.List.{length-append}
use Rattle.tokens.specs.Cutters.{ahead}
use Rattle.tokens.specs.Spacing.{closes, respaced, pairs_of}
use Rattle.tokens.specs.Tokens.{placed}
use Rattle.tokens.proofs.Spaces.{spacing_keeps_tokens, respaced_tokens, respaced_fits, pairs_fit, turn_room, turn_pairs}
use Rattle.tokens.proofs.spacing.push_respaced.Goals as goal

pub returns-in_err-reserve-clause-law : goal.returns-in_err-reserve-clause-law
returns-in_err-reserve-clause-law c = spacing_keeps_tokens

pub returns-in_err-reserve-clause-tokens : goal.returns-in_err-reserve-clause-tokens
returns-in_err-reserve-clause-tokens c = respaced_tokens c.args.text.now

pub push_token-requires : goal.push_token-requires
push_token-requires c =
    let inv = c.loop-token.invariant in
    let start = c.reserve.new.self in
    omega (
      arith,
      c.in_ok-reserve.ensures.ok,
      respaced_fits c.args.text.now,
      length-append (vec_items start) (respaced c.args.text.now),
      turn_room (vec_items c.loop-token.out) c.loop-token.last (ahead c.loop-token.token-iterator) (ahead c.next.new.self) (placed c.in-Some.token) c.in-Some.ensures.steps (vec_items start ++ respaced c.args.text.now) inv.2,
    )

pub overflow_add-pairs : goal.overflow_add-pairs
overflow_add-pairs c =
    let inv = c.loop-token.invariant in
    let all = turn_pairs (vec_items c.loop-token.out) c.loop-token.last (ahead c.loop-token.token-iterator) (ahead c.next.new.self) (placed c.in-Some.token) c.in-Some.ensures.steps c.loop-token.pairs (pairs_of c.args.text.now) inv.3 in
    omega (arith, all, ap closes c.kind-kind.ensures, pairs_fit c.args.text.now, c.well_formed)

pub returns-clause-law : goal.returns-clause-law
returns-clause-law c = spacing_keeps_tokens

pub returns-clause-tokens : goal.returns-clause-tokens
returns-clause-tokens c = respaced_tokens c.args.text.now
