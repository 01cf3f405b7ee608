use Rattle.std.proofs.Common.{◌^◌, ◌<◌, length, arith}
use Rattle.std.proofs.lemmas.Result.{err_from_is_err_and}
use Rattle.rack.proofs.Members.{refused_only, set_only}
use Rattle.rack.proofs.function_bits.functions.Goals as goal

pub returns-in_err-bits : goal.returns-in_err-bits
returns-in_err-bits c =
    let p = err_from_is_err_and c.from_residual.result c.from_residual.ensures.1 in
    let reckoned = c.in_err-bits.ensures in
    rw (p.1, p.2) (record { answer = refused_only c.args.rack.now c.args.fill.now.used c.args.root (length c.args.values.now) c.in_err-bits.field-0.0 reckoned.answer.is; values = reckoned.values })

pub returns : goal.returns
returns c =
    let reckoned = c.in_ok-bits.ensures in
    let fits : c.in_ok-bits.bits < 2 ^ 64 = omega arith in
    record { answer = set_only c.args.rack.now c.args.fill.now.used c.args.root (length c.args.values.now) c.in_ok-bits.bits fits reckoned.answer.is; values = reckoned.values }
