use Rattle.std.proofs.Common.{◌≡◌, ◌+◌, ◌≤◌, ◌++◌, map, vec_items, vec_capacity}
use Rattle.tokens.specs.Cutters.{ahead}
use Rattle.tokens.specs.Spacing.{spaced_after, respaced, pairs_among, pairs_of}
use Rattle.tokens.specs.Tokens.{lexeme}
use Rattle.tokens.proofs.spacing.push_respaced.Given as goal

-- what is out and what is to come are the whole, for bytes and for pairs
abbrev pub invariant-loop-token : goal.invariant-loop-token
invariant-loop-token l =
    (goal.iterator-loop-token).can_next l.token-iterator ×
    (goal.iterator-loop-token).is_finite l.token-iterator ×
    (vec_items l.out ++ spaced_after l.last (map lexeme (ahead l.token-iterator)) ≡ vec_items l.initial.out ++ respaced l.text) ×
    (l.pairs + pairs_among (map lexeme (ahead l.token-iterator)) ≡ pairs_of l.text) ×
    (vec_capacity l.initial.out ≤ vec_capacity l.out)
