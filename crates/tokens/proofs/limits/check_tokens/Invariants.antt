use Rattle.std.specs.Iterator.Adapters.{enumerate_source, enumerate_count}
use Rattle.tokens.specs.Cutters.{ahead}
use Rattle.tokens.proofs.Checks.{Counted}
use Rattle.tokens.proofs.limits.check_tokens.Given as goal

abbrev pub invariant-loop-count : goal.invariant-loop-count
invariant-loop-count l =
    (goal.iterator-loop-count).can_next l.count-iterator ×
    (goal.iterator-loop-count).is_finite l.count-iterator ×
    Counted l.text (ahead (enumerate_source l.count-iterator)) (enumerate_count l.count-iterator) l.long_word
