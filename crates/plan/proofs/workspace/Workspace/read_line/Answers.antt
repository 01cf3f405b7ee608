use Rattle.std.proofs.Common.{◌≤◌, Ok, Err, subst, inr, arith}
use Rattle.std.proofs.lemmas.Result.{err_from_is_err_and}
use Rattle.rack.specs.Nodes.{room}
use Rattle.reading.specs.Readings.{ReadsInto}
use Rattle.plan.proofs.ReadLines.{line_accepted, line_refused}
use Rattle.plan.proofs.workspace.Workspace.read_line.Goals as goal

pub returns-in_err-read : goal.returns-in_err-read
returns-in_err-read g c =
    let p = err_from_is_err_and c.from_residual-in_err-read.result c.from_residual-in_err-read.ensures.1 in
    let t = g.N.Notation.table c.args.notation.now in
    let text = c.in_ok-plan_line.plan_line.expression.now in
    let rack = c.as_mut_slice.result.now in
    let large : 4096 ≤ room rack = omega (arith, c.as_mut_slice.ensures.len, c.args.self.now.whole) in
    let told = subst (λ n. ReadsInto t text rack n (Err c.in_err-read.field-0.0) c.read.new.rack c.read.new.fill.used) c.new-fill.ensures c.in_err-read.ensures.is in
    rw (p.1, p.2) (inr (_, _, c.in_ok-plan_line.ensures.answer, line_refused t text rack c.read.new.rack c.read.new.fill.used large c.in_err-read.field-0.0 told))

pub returns : goal.returns
returns g c =
    let t = g.N.Notation.table c.args.notation.now in
    let text = c.in_ok-plan_line.plan_line.expression.now in
    let rack = c.as_mut_slice.result.now in
    let large : 4096 ≤ room rack = omega (arith, c.as_mut_slice.ensures.len, c.args.self.now.whole) in
    let told = subst (λ n. ReadsInto t text rack n (Ok c.in_ok-read.field-0) c.read.new.rack c.read.new.fill.used) c.new-fill.ensures c.in_ok-read.ensures.is in
    let (within, (tree, reads)) = line_accepted t text rack c.read.new.rack c.read.new.fill.used large c.in_ok-read.field-0 told in
    record { is = c.in_ok-plan_line.ensures.answer; within = within; tree = tree; reads = reads }
