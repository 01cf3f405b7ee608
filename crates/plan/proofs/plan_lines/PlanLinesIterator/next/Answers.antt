use Rattle.std.proofs.Common.{length, sym, ap, arith, rules}
use Rattle.plan.specs.NumberedAhead.{numbered_ahead}
use Rattle.plan.specs.PlanLinesAhead.{plan_ahead}
use Rattle.plan.specs.Plans.{up_to_tail}
use Rattle.plan.proofs.Counts.{plan_tail, plan_more}
use Rattle.plan.proofs.plan_lines.PlanLinesIterator.next.Goals as goal
use Rattle.std.proofs.iter.Next.{firm}

pub returns-in_err-line : goal.returns-in_err-line
unfolding plan_ahead
returns-in_err-line c =
    let end = ap up_to_tail c.in_err-line.ensures.steps.0 in
    rw c.from_residual.ensures (record { steps = end; goes = firm (tt) (λ h. search rules) })

pub returns-then-begins_tail : goal.returns-then-begins_tail
unfolding plan_ahead
returns-then-begins_tail c =
    record {
      steps = plan_tail (numbered_ahead c.args.self.now.lines) c.in_ok-line.line.bytes.now (numbered_ahead c.next.new.self) c.in_ok-line.ensures.steps.0 (sym c.if-begins_tail.ensures);
      goes = firm (tt) (λ h. search rules);
    }

pub returns-else-begins_tail : goal.returns-else-begins_tail
unfolding plan_ahead
returns-else-begins_tail c =
    let step = c.in_ok-line.ensures.steps in
    let e = plan_more (numbered_ahead c.args.self.now.lines) c.in_ok-line.line.bytes.now (numbered_ahead c.next.new.self) step.0 (sym c.if-begins_tail.ensures) in
    record { steps = (e, step.1, step.2, step.3); goes = firm ((tt, tt, omega (arith, ap length e))) (λ h. search rules) }
