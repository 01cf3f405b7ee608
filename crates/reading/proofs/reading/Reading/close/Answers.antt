use Rattle.std.proofs.Common.{List, sym, ap, ◌∙◌}
use Rattle.grammar.specs.declared.due.Due.TheVariants.{Operator}
use Rattle.reading.specs.Waiting.{Waits, waits_of}
use Rattle.reading.specs.Yard.{site, site_of, shut_at}
use Rattle.reading.specs.Yard.Yard.{stands}
use Rattle.reading.proofs.Turns.{shut_below}
use Rattle.reading.proofs.reading.Reading.close.Goals as goal

pub returns-clause-state : goal.returns-clause-state
returns-clause-state g c =
    ap (λ (k : List Waits). stands Operator (site c.unwind.new.self.mark k c.unwind.new.self.rack.now c.unwind.new.self.at)) c.in_ok-pop.ensures.after
    ∙ sym (shut_below (site_of c.args.self.now) (site_of c.unwind.new.self) (waits_of c.in_ok-pop.field-0) c.unwind.ensures.state (sym c.in_ok-pop.ensures.answer))
    ∙ ap shut_at c.unwind.ensures.state
