use Rattle.std.proofs.Common.{Some, None, Option, sym, ap, ◌∙◌, rules}
use Rattle.notation.specs.Operators.{Op, meant}
use Rattle.grammar.specs.declared.taker.Taker.TheVariants.{Left, Right}
use Rattle.reading.specs.Yard.{site_of, taker_of, settled_at}
use Rattle.reading.proofs.Turns.{settled_by, settled_end}
use Rattle.reading.proofs.reading.Reading.settle.Goals as goal

pub returns-in_err-left-clause-state : goal.returns-in_err-left-clause-state
returns-in_err-left-clause-state g c =
    rw c.from_residual.ensures
    (sym (settled_by (g.N.Notation.table c.loop-function.self.notation.now) (meant c.args.right) None (site_of c.loop-function.self) c.in-Some.function (sym c.last_function.ensures ∙ c.in-Some.is)
    (ap (λ (r : Option Op). taker_of r (meant c.args.right)) c.in_err-left.ensures)) ∙ c.loop-function.invariant.0)

pub returns-in_err-taker_between-clause-state : goal.returns-in_err-taker_between-clause-state
returns-in_err-taker_between-clause-state g c =
    rw c.from_residual-in_err-taker_between.ensures
    (sym (settled_by (g.N.Notation.table c.loop-function.self.notation.now) (meant c.args.right) None (site_of c.loop-function.self) c.in-Some.function (sym c.last_function.ensures ∙ c.in-Some.is)
    (c.in_err-taker_between.ensures.answer ∙ ap (λ (r : Option Op). taker_of r (meant c.args.right)) c.in_ok-left.ensures)) ∙ c.loop-function.invariant.0)

pub loop-function-preserved : goal.loop-function-preserved
loop-function-preserved g c = (
  ap (λ n. settled_at (g.N.Notation.table n.now) (meant c.args.right) (site_of c.complete.new.self)) c.complete.ensures.same.2
      ∙ ap (settled_at (g.N.Notation.table c.loop-function.self.notation.now) (meant c.args.right)) c.complete.ensures.state
      ∙ sym (settled_by (g.N.Notation.table c.loop-function.self.notation.now) (meant c.args.right) (Some Left) (site_of c.loop-function.self) c.in-Some.function (sym c.last_function.ensures ∙ c.in-Some.is)
      (ap Some (sym c.in-Left.is) ∙ c.in_ok-taker_between.ensures.answer ∙ ap (λ (r : Option Op). taker_of r (meant c.args.right)) c.in_ok-left.ensures)) ∙ c.loop-function.invariant.0,
  search rules,
)

pub returns-in-Right-clause-state : goal.returns-in-Right-clause-state
returns-in-Right-clause-state g c =
    sym (settled_by (g.N.Notation.table c.loop-function.self.notation.now) (meant c.args.right) (Some Right) (site_of c.loop-function.self) c.in-Some.function (sym c.last_function.ensures ∙ c.in-Some.is)
    (ap Some (sym c.in-Right.is) ∙ c.in_ok-taker_between.ensures.answer ∙ ap (λ (r : Option Op). taker_of r (meant c.args.right)) c.in_ok-left.ensures)) ∙ c.loop-function.invariant.0

pub returns-clause-state : goal.returns-clause-state
returns-clause-state g c =
    sym (settled_end (g.N.Notation.table c.loop-function.self.notation.now) (meant c.args.right) (site_of c.loop-function.self) (sym c.last_function.ensures ∙ c.in_default.is)) ∙ c.loop-function.invariant.0
