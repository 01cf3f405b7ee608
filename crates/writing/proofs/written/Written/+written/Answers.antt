use Rattle.std.proofs.Common.{◌-◌, refl, sym, arith}
use Rattle.std.proofs.lemmas.Result.{err_from_is_err_and}
use Rattle.notation.specs.Operators.{meant}
use Rattle.grammar.specs.Writing.{write}
use Rattle.rack.specs.Racks.{size_at}
use Rattle.rack.proofs.Lying.{one_tree_lies}
use Rattle.writing.proofs.NodePuts.{at_prefix, at_prefix_unsigned, at_postfix, at_postfix_unfilled, infix_there, at_infix, at_infix_unfilled, at_infix_unsigned}
use Rattle.writing.proofs.TreeParts.{named_there}
use Rattle.writing.proofs.TreePuts.{pair_puts, pair_unopened, pair_unfilled}
use Rattle.writing.proofs.written.Written.+written.Goals as goal

pub put_operand-returns-in_err-open-clause-answer :
    goal.put_operand-returns-in_err-open-clause-answer
put_operand-returns-in_err-open-clause-answer g t c tree l =
    let p = err_from_is_err_and c.from_residual.result c.from_residual.ensures.1 in
    let table = g.N.Notation.table c.args.self.now.notation.now in
    rw (c.if-admitted.false, p.1, p.2)
    (pair_unopened g.O.Outlet.rule table c.args.last (g.O.Outlet.holding c.args.outlet.now) (write table tree) (g.O.Outlet.holding c.put_token.new.outlet) (g.O.Outlet.holding c.put_token.new.outlet) c.in_err-open.field-0.0 c.in_err-open.ensures.answer)

pub put_operand-returns-in_err-end-clause-answer :
    goal.put_operand-returns-in_err-end-clause-answer
put_operand-returns-in_err-end-clause-answer g t c tree l =
    let p = err_from_is_err_and c.from_residual-in_err-end.result c.from_residual-in_err-end.ensures.1 in
    let table = g.N.Notation.table c.args.self.now.notation.now in
    rw (c.if-admitted.false, p.1, p.2)
    (pair_unfilled g.O.Outlet.rule table c.args.last (g.O.Outlet.holding c.args.outlet.now) (write table tree) c.in_ok-open.open (g.O.Outlet.holding c.put_token.new.outlet)
    (g.O.Outlet.holding c.put_tree-2.new.outlet) (g.O.Outlet.holding c.put_tree-2.new.outlet) c.in_err-end.field-0.0 c.in_ok-open.ensures.answer (c.in_err-end.ensures.answer tree l))

pub put_operand-returns-clause-answer : goal.put_operand-returns-clause-answer
put_operand-returns-clause-answer g t c tree l =
    let table = g.N.Notation.table c.args.self.now.notation.now in
    rw (c.if-admitted.false)
    (pair_puts g.O.Outlet.rule table c.args.last (g.O.Outlet.holding c.args.outlet.now) (write table tree) c.in_ok-open.open c.in_ok-end.end (g.O.Outlet.holding c.put_token.new.outlet)
    (g.O.Outlet.holding c.put_tree-2.new.outlet) (g.O.Outlet.holding c.put_token-2.new.outlet) c.put_token-2.result c.in_ok-open.ensures.answer (c.in_ok-end.ensures.answer tree l) c.put_token-2.ensures.answer)

pub put_tree-returns-in-Name-clause-answer : goal.put_tree-returns-in-Name-clause-answer
put_tree-returns-in-Name-clause-answer g t c tree l =
    let table = g.N.Notation.table c.args.self.now.notation.now in
    let is = named_there table c.args.self.now.nodes.now c.args.self.now.shapes.now c.requires.ready c.args.at c.in-Name.name tree l c.in-Name.is in
    rw is (rw (sym c.word.ensures) c.put_token.ensures.answer)

pub put_tree-returns-in_err-sign-in-Fx-clause-answer :
    goal.put_tree-returns-in_err-sign-in-Fx-clause-answer
put_tree-returns-in_err-sign-in-Fx-clause-answer g t c tree l =
    let p = err_from_is_err_and c.from_residual.result c.from_residual.ensures.1 in
    let table = g.N.Notation.table c.args.self.now.notation.now in
    let node = at_prefix_unsigned g.O.Outlet.rule table c.args.self.now.nodes.now c.args.self.now.shapes.now c.requires.ready c.args.at c.requires.within c.in-Function.function c.in-Function.is
    (meant c.operator_of-operator.result) c.operator_of-operator.ensures c.args.last (g.O.Outlet.holding c.args.outlet.now) tree l in
    rw (p.1, p.2) (node (g.O.Outlet.holding c.put_sign.new.outlet) (g.O.Outlet.holding c.put_sign.new.outlet) c.in_err-sign-in-Fx.field-0.0 c.in-Fx.is c.in_err-sign-in-Fx.ensures.answer)

pub put_tree-returns-in_ok-sign-in-Fx-clause-answer :
    goal.put_tree-returns-in_ok-sign-in-Fx-clause-answer
put_tree-returns-in_ok-sign-in-Fx-clause-answer g t c tree l =
    let table = g.N.Notation.table c.args.self.now.notation.now in
    let node = at_prefix g.O.Outlet.rule table c.args.self.now.nodes.now c.args.self.now.shapes.now c.requires.ready c.args.at c.requires.within c.in-Function.function c.in-Function.is
    (meant c.operator_of-operator.result) c.operator_of-operator.ensures c.args.last (g.O.Outlet.holding c.args.outlet.now) tree l in
    node c.in_ok-sign-in-Fx.sign c.right_limit.result (g.O.Outlet.holding c.put_sign.new.outlet) (g.O.Outlet.holding c.put_operand.new.outlet) c.put_operand.result c.in-Fx.is c.right_limit.ensures c.in_ok-sign-in-Fx.ensures.answer
    (λ x m. (_, c.put_operand.ensures.answer x m))

pub put_tree-returns-in_err-end-in-Xf-clause-answer :
    goal.put_tree-returns-in_err-end-in-Xf-clause-answer
put_tree-returns-in_err-end-in-Xf-clause-answer g t c tree l =
    let p = err_from_is_err_and c.from_residual-in_err-end-in-Xf.result c.from_residual-in_err-end-in-Xf.ensures.1 in
    let table = g.N.Notation.table c.args.self.now.notation.now in
    let node = at_postfix_unfilled g.O.Outlet.rule table c.args.self.now.nodes.now c.args.self.now.shapes.now c.requires.ready c.args.at c.requires.within c.in-Function.function c.in-Function.is
    (meant c.operator_of-operator.result) c.operator_of-operator.ensures c.args.last (g.O.Outlet.holding c.args.outlet.now) tree l in
    rw (p.1, p.2) (node c.left_limit.result (g.O.Outlet.holding c.put_operand-in-Xf.new.outlet) (g.O.Outlet.holding c.put_operand-in-Xf.new.outlet) c.in_err-end-in-Xf.field-0.0 c.in-Xf.is c.left_limit.ensures (λ x m. (_, c.in_err-end-in-Xf.ensures.answer x m)))

pub put_tree-returns-in_ok-end-in-Xf-clause-answer :
    goal.put_tree-returns-in_ok-end-in-Xf-clause-answer
put_tree-returns-in_ok-end-in-Xf-clause-answer g t c tree l =
    let table = g.N.Notation.table c.args.self.now.notation.now in
    let node = at_postfix g.O.Outlet.rule table c.args.self.now.nodes.now c.args.self.now.shapes.now c.requires.ready c.args.at c.requires.within c.in-Function.function c.in-Function.is
    (meant c.operator_of-operator.result) c.operator_of-operator.ensures c.args.last (g.O.Outlet.holding c.args.outlet.now) tree l in
    node c.in_ok-end-in-Xf.end c.left_limit.result (g.O.Outlet.holding c.put_operand-in-Xf.new.outlet) (g.O.Outlet.holding c.put_sign-in-Xf.new.outlet) c.put_sign-in-Xf.result c.in-Xf.is c.left_limit.ensures (λ x m. (_, c.in_ok-end-in-Xf.ensures.answer x m)) c.put_sign-in-Xf.ensures.answer

pub put_tree-overflow_sub-first : goal.put_tree-overflow_sub-first
put_tree-overflow_sub-first g t c =
    let table = g.N.Notation.table c.args.self.now.notation.now in
    let nodes = c.args.self.now.nodes.now in
    let (tree, only) = one_tree_lies nodes c.args.at (λ i lt. c.requires.ready.sound i (omega arith)) in
    let there = infix_there g.O.Outlet.rule table nodes c.args.self.now.shapes.now c.requires.ready c.args.at c.requires.within c.in-Function.function c.in-Function.is
    (meant c.operator_of-operator.result) c.operator_of-operator.ensures c.args.last (g.O.Outlet.holding c.args.outlet.now) tree only.is c.in-Xfx.is in
    omega (arith, there.begins)

pub put_tree-returns-in_err-end-in-Xfx-clause-answer :
    goal.put_tree-returns-in_err-end-in-Xfx-clause-answer
put_tree-returns-in_err-end-in-Xfx-clause-answer g t c tree l =
    let p = err_from_is_err_and c.from_residual-in_err-end-in-Xfx.result c.from_residual-in_err-end-in-Xfx.ensures.1 in
    let table = g.N.Notation.table c.args.self.now.notation.now in
    let node = at_infix_unfilled g.O.Outlet.rule table c.args.self.now.nodes.now c.args.self.now.shapes.now c.requires.ready c.args.at c.requires.within c.in-Function.function c.in-Function.is
    (meant c.operator_of-operator.result) c.operator_of-operator.ensures c.args.last (g.O.Outlet.holding c.args.outlet.now) tree l in
    rw (p.1, p.2) (node c.in-Xfx.is (c.args.at - 1 - size_at c.args.self.now.nodes.now (c.args.at - 1)) refl c.left_limit-in-Xfx.result c.left_limit-in-Xfx.ensures (g.O.Outlet.holding c.put_operand-in-Xfx.new.outlet) (g.O.Outlet.holding c.put_operand-in-Xfx.new.outlet) c.in_err-end-in-Xfx.field-0.0 (λ x m. (_, c.in_err-end-in-Xfx.ensures.answer x m)))

pub put_tree-returns-in_err-sign-in-Xfx-clause-answer :
    goal.put_tree-returns-in_err-sign-in-Xfx-clause-answer
put_tree-returns-in_err-sign-in-Xfx-clause-answer g t c tree l =
    let p = err_from_is_err_and c.from_residual-in_err-sign-in-Xfx.result c.from_residual-in_err-sign-in-Xfx.ensures.1 in
    let table = g.N.Notation.table c.args.self.now.notation.now in
    let node = at_infix_unsigned g.O.Outlet.rule table c.args.self.now.nodes.now c.args.self.now.shapes.now c.requires.ready c.args.at c.requires.within c.in-Function.function c.in-Function.is
    (meant c.operator_of-operator.result) c.operator_of-operator.ensures c.args.last (g.O.Outlet.holding c.args.outlet.now) tree l in
    rw (p.1, p.2) (node c.in-Xfx.is (c.args.at - 1 - size_at c.args.self.now.nodes.now (c.args.at - 1)) refl c.left_limit-in-Xfx.result c.left_limit-in-Xfx.ensures c.in_ok-end-in-Xfx.end (g.O.Outlet.holding c.put_operand-in-Xfx.new.outlet) (g.O.Outlet.holding c.put_sign-in-Xfx.new.outlet) (g.O.Outlet.holding c.put_sign-in-Xfx.new.outlet) c.in_err-sign-in-Xfx.field-0.0 (λ x m. (_, c.in_ok-end-in-Xfx.ensures.answer x m)) c.in_err-sign-in-Xfx.ensures.answer)

pub put_tree-returns-in_ok-sign-in-Xfx-clause-answer :
    goal.put_tree-returns-in_ok-sign-in-Xfx-clause-answer
put_tree-returns-in_ok-sign-in-Xfx-clause-answer g t c tree l =
    let table = g.N.Notation.table c.args.self.now.notation.now in
    let node = at_infix g.O.Outlet.rule table c.args.self.now.nodes.now c.args.self.now.shapes.now c.requires.ready c.args.at c.requires.within c.in-Function.function c.in-Function.is
    (meant c.operator_of-operator.result) c.operator_of-operator.ensures c.args.last (g.O.Outlet.holding c.args.outlet.now) tree l in
    node c.in-Xfx.is (c.args.at - 1 - size_at c.args.self.now.nodes.now (c.args.at - 1)) refl c.left_limit-in-Xfx.result c.left_limit-in-Xfx.ensures c.in_ok-end-in-Xfx.end c.in_ok-sign-in-Xfx.sign c.right_limit-in-Xfx.result (g.O.Outlet.holding c.put_operand-in-Xfx.new.outlet) (g.O.Outlet.holding c.put_sign-in-Xfx.new.outlet) (g.O.Outlet.holding c.put_operand-in-Xfx-2.new.outlet) c.put_operand-in-Xfx-2.result c.right_limit-in-Xfx.ensures (λ x m. (_, c.in_ok-end-in-Xfx.ensures.answer x m)) c.in_ok-sign-in-Xfx.ensures.answer
    (λ x m. (_, c.put_operand-in-Xfx-2.ensures.answer x m))
