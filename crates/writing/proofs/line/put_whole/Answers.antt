use Rattle.std.proofs.lemmas.Result.{err_from_is_err_and}
use Rattle.writing.proofs.LinePuts.{tab_refused, tree_refused, line_end_put}
use Rattle.writing.proofs.line.put_whole.Goals as goal

pub returns-in_err-put-2-clause-answer : goal.returns-in_err-put-2-clause-answer
returns-in_err-put-2-clause-answer g c tree l =
    let p = err_from_is_err_and c.from_residual-in_err-put-2.result c.from_residual-in_err-put-2.ensures.1 in
    rw (p.1, p.2)
    (tab_refused g.O.Outlet.rule (g.N.Notation.table c.args.tree.now.notation.now) c.args.digits.now tree (g.O.Outlet.holding c.args.outlet.now) (g.O.Outlet.holding c.put.new.self)
    (g.O.Outlet.holding c.put-2.new.self) (g.O.Outlet.holding c.put-2.new.self) c.in_err-put-2.field-0.0 c.in_ok-put.ensures.answer c.in_err-put-2.ensures.answer)

pub returns-in_err-put_tree-clause-answer : goal.returns-in_err-put_tree-clause-answer
returns-in_err-put_tree-clause-answer g c tree l =
    let p = err_from_is_err_and c.from_residual-in_err-put_tree.result c.from_residual-in_err-put_tree.ensures.1 in
    rw (p.1, p.2)
    (tree_refused g.O.Outlet.rule (g.N.Notation.table c.args.tree.now.notation.now) c.args.digits.now tree (g.O.Outlet.holding c.args.outlet.now) (g.O.Outlet.holding c.put.new.self)
    (g.O.Outlet.holding c.put-2.new.self) (g.O.Outlet.holding c.put_tree.new.outlet) (g.O.Outlet.holding c.put_tree.new.outlet) c.in_err-put_tree.field-0.0
    c.in_ok-put.ensures.answer c.in_ok-put-2.ensures.answer (c.in_err-put_tree.ensures.answer tree l))

pub returns-clause-answer : goal.returns-clause-answer
returns-clause-answer g c tree l =
    line_end_put g.O.Outlet.rule (g.N.Notation.table c.args.tree.now.notation.now) c.args.digits.now tree (g.O.Outlet.holding c.args.outlet.now) (g.O.Outlet.holding c.put.new.self)
    (g.O.Outlet.holding c.put-2.new.self) (g.O.Outlet.holding c.put_tree.new.outlet) (g.O.Outlet.holding c.put-3.new.self) c.in_ok-put_tree.field-0 c.put-3.result
    c.in_ok-put.ensures.answer c.in_ok-put-2.ensures.answer (c.in_ok-put_tree.ensures.answer tree l) c.put-3.ensures.answer
