use Rattle.std.proofs.Common.{sym, ap, ◌∙◌, rules}
use Rattle.reading.specs.Yard.{site_of, unwound_at}
use Rattle.reading.proofs.Turns.{unwound_more, unwound_end}
use Rattle.reading.proofs.reading.Reading.unwind.Goals as goal

pub loop-function-preserved : goal.loop-function-preserved
loop-function-preserved g c =
    (ap unwound_at c.complete.ensures.state ∙ sym (unwound_more (site_of c.loop-function.self) c.in-Some.function (sym c.last_function.ensures ∙ c.in-Some.is)) ∙ c.loop-function.invariant.0, search rules)

pub returns-clause-state : goal.returns-clause-state
returns-clause-state g c = sym (unwound_end (site_of c.loop-function.self) (sym c.last_function.ensures ∙ c.in_default.is)) ∙ c.loop-function.invariant.0
