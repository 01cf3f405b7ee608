use Rattle.std.proofs.Common.{◌≤◌, length, arith}
use Rattle.std.proofs.lemmas.Result.{err_from_is_err_and}
use Rattle.tokens.proofs.Checks.{limits_only, unlawful_found, tokens_checked}
use Rattle.tokens.proofs.limits.check_expression.Goals as goal

pub returns-in_err-check_bytes-clause-answer : goal.returns-in_err-check_bytes-clause-answer
returns-in_err-check_bytes-clause-answer c =
    let short : length c.args.text.now ≤ 4096 = omega arith in
    let p = err_from_is_err_and c.from_residual.result c.from_residual.ensures.1 in
    rw (p.1, p.2) (limits_only c.args.text.now _ (unlawful_found c.args.text.now _ short c.in_err-check_bytes.ensures))

pub returns-clause-answer : goal.returns-clause-answer
returns-clause-answer c =
    let short : length c.args.text.now ≤ 4096 = omega arith in
    limits_only c.args.text.now _ (tokens_checked c.args.text.now _ short c.in_ok-check_bytes.ensures c.check_tokens.ensures.answer)
