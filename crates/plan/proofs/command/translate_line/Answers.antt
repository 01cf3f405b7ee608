use Rattle.std.proofs.Common.{◌∷◌, ◌++◌, Ok, Err, refl}
use Rattle.tokens.specs.Spacing.{respaced}
use Rattle.plan.specs.Reports.{line_end, fault_line}
use Rattle.plan.proofs.Outputs.{comes_out_only}
use Rattle.plan.proofs.command.translate_line.Goals as goal

pub returns-in_ok-push_plan_line-in-Ok-clause-answer : goal.returns-in_ok-push_plan_line-in-Ok-clause-answer
returns-in_ok-push_plan_line-in-Ok-clause-answer g c =
    let line = c.in-Ok.plan_line in
    let told = c.in_ok-push_plan_line-in-Ok.ensures in
    let bytes = line.digits.now ++ (9 ∷ (respaced line.expression.now ++ line_end)) in
    (bytes, told.bytes, comes_out_only (g.N.Notation.table c.args.notation.now) (g.met.N.Notation.lawful c.args.notation.now) c.args.line.number c.args.line.bytes.now (record { outcome = Ok c.in_ok-push_plan_line-in-Ok.field-0; bytes = bytes }) (line.digits.now, line.expression.now, c.in-Ok.ensures, told.pairs, refl))

pub returns-in_ok-push_fault_line-in-Err-clause-answer : goal.returns-in_ok-push_fault_line-in-Err-clause-answer
returns-in_ok-push_fault_line-in-Err-clause-answer g c =
    let bytes = fault_line c.args.line.number c.in-Err.fault in
    (bytes, c.in_ok-push_fault_line-in-Err.ensures.bytes, comes_out_only (g.N.Notation.table c.args.notation.now) (g.met.N.Notation.lawful c.args.notation.now) c.args.line.number c.args.line.bytes.now (record { outcome = Err c.in-Err.fault; bytes = bytes }) (c.in-Err.ensures, refl))
