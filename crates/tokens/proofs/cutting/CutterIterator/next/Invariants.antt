use Rattle.std.proofs.Common.{◌≡◌, length}
use Rattle.tokens.specs.Tokens.{tokens_from}
use Rattle.tokens.proofs.cutting.CutterIterator.next.Given as goal

abbrev pub invariant-loop-first : goal.invariant-loop-first
invariant-loop-first l = tokens_from l.initial.self.place l.initial.self.rest.now ≡ tokens_from l.self.place l.self.rest.now

abbrev pub decreases-loop-first : goal.decreases-loop-first
decreases-loop-first l = length l.self.rest.now
