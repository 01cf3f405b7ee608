use Rattle.std.proofs.Common.{Err, ap, ◌∙◌, arith, rules}
use Rattle.std.proofs.lemmas.Result.{err_from_is_err_and}
use Rattle.reading.proofs.Endings.{limit_passed, text_refused, end_refused, some_put, no_room, tree_put}
use Rattle.reading.proofs.Sofar.{sofar_whole}
use Rattle.reading.proofs.reader.Reader.read.Goals as goal

pub returns-in_err-check_expression : goal.returns-in_err-check_expression
returns-in_err-check_expression g c =
    let p = err_from_is_err_and c.from_residual.result c.from_residual.ensures.1 in
    limit_passed (g.N.Notation.table c.args.notation.now) (g.met.N.Notation.lawful c.args.notation.now) c.args.text.now c.args.rack.now c.args.fill.now.used
    c.in_err-check_expression.field-0.0 c.in_err-check_expression.ensures.answer.is c.from_residual.result _ (p.1 ∙ ap Err p.2) (search rules)

pub returns-in_err-run : goal.returns-in_err-run
returns-in_err-run g c =
    let p = err_from_is_err_and c.from_residual-in_err-run.result c.from_residual-in_err-run.ensures.1 in
    text_refused (g.N.Notation.table c.args.notation.now) (g.met.N.Notation.lawful c.args.notation.now) c.args.text.now c.args.rack.now c.args.fill.now.used c.in_ok-check_expression.ensures.within
    c.in_err-run.field-0.0 c.run.new.self.rack.now _ (search rules) c.in_err-run.ensures.fault c.from_residual-in_err-run.result _ (p.1 ∙ ap Err p.2) (search rules)

pub returns-in_err-end : goal.returns-in_err-end
returns-in_err-end g c =
    let p = err_from_is_err_and c.from_residual-in_err-end.result c.from_residual-in_err-end.ensures.1 in
    text_refused (g.N.Notation.table c.args.notation.now) (g.met.N.Notation.lawful c.args.notation.now) c.args.text.now c.args.rack.now c.args.fill.now.used c.in_ok-check_expression.ensures.within
    _ c.finish.new.self.rack.now _ (search rules) (end_refused (g.N.Notation.table c.args.notation.now) (g.met.N.Notation.lawful c.args.notation.now) c.args.text.now c.args.rack.now c.args.fill.now.used c.in_ok-check_expression.ensures.within _ _ (sofar_whole _ _ _ _ _ _ c.in_ok-run.ensures.state) _ c.in_err-end.ensures.state)
    c.from_residual-in_err-end.result _ (p.1 ∙ ap Err (p.2 ∙ c.in_err-end.ensures.fault)) (search rules)

pub returns-then-end-room : goal.returns-then-end-room
returns-then-end-room g c =
    no_room (g.N.Notation.table c.args.notation.now) (g.met.N.Notation.lawful c.args.notation.now) c.args.text.now c.args.rack.now c.args.fill.now.used c.in_ok-check_expression.ensures.within _ _ (sofar_whole _ _ _ _ _ _ c.in_ok-run.ensures.state) _ c.in_ok-end.ensures.state (omega (arith, c.if-end-room.true, c.room.ensures)) _ (search rules) _ (search rules)

pub overflow_sub-result : goal.overflow_sub-result
overflow_sub-result g c =
    some_put (g.N.Notation.table c.args.notation.now) (g.met.N.Notation.lawful c.args.notation.now) c.args.text.now c.args.rack.now c.args.fill.now.used c.in_ok-check_expression.ensures.within _ _ (sofar_whole _ _ _ _ _ _ c.in_ok-run.ensures.state) _ c.in_ok-end.ensures.state

pub returns : goal.returns
returns g c =
    tree_put (g.N.Notation.table c.args.notation.now) (g.met.N.Notation.lawful c.args.notation.now) c.args.text.now c.args.rack.now c.args.fill.now.used c.in_ok-check_expression.ensures.within _ _ (sofar_whole _ _ _ _ _ _ c.in_ok-run.ensures.state) _ c.in_ok-end.ensures.state (omega (arith, c.if-end-room.false, c.room.ensures)) _ (search rules) _ (search rules)
