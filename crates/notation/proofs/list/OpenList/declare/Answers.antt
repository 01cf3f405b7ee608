use Rattle.std.proofs.Common.{ℕ, ◌∙◌}
use Rattle.std.proofs.lemmas.Result.{err_from_is_err_and}
use Rattle.notation.specs.Declarations.{Answer, OperatorRules, TableRules, extended}
use Rattle.notation.specs.Operators.{Op}
use Rattle.notation.specs.Tables.{Table}
use Rattle.notation.specs.Views.{declared_op, open_table}
use Rattle.notation.proofs.Rules.{line_refused, line_then, line_added, operator_refused, operator_then, candidate_of, declares_only}
use Rattle.notation.proofs.list.OpenList.declare.Goals as goal

-- the rules after those of a line
abbrev After : Table → ℕ → Op → Answer → Type 0
After t f o = OperatorRules f o (TableRules t f o)

pub returns-in_err-declaration-clause-answer : goal.returns-in_err-declaration-clause-answer
returns-in_err-declaration-clause-answer c =
    let t = open_table c.args.self.now in
    let line = c.args.line.now in
    let p = err_from_is_err_and c.from_residual.result c.from_residual.ensures.1 in
    rw (p.1, p.2) (declares_only t line _ (line_refused line (After t) _ c.in_err-declaration.ensures))

pub returns-in_err-candidate-clause-answer : goal.returns-in_err-candidate-clause-answer
returns-in_err-candidate-clause-answer c =
    let t = open_table c.args.self.now in
    let line = c.args.line.now in
    let d = c.in_ok-declaration.declaration in
    let p = err_from_is_err_and c.from_residual-in_err-candidate.result c.from_residual-in_err-candidate.ensures.1 in
    rw (p.1, p.2)
    (declares_only t line _ (line_then line (After t) d c.in_ok-declaration.ensures _ (operator_refused d.function (declared_op d) (TableRules t) _ c.in_err-candidate.ensures)))

pub returns-in_err-check_free-clause-answer : goal.returns-in_err-check_free-clause-answer
returns-in_err-check_free-clause-answer c =
    let t = open_table c.args.self.now in
    let line = c.args.line.now in
    let d = c.in_ok-declaration.declaration in
    let p = err_from_is_err_and c.from_residual-in_err-check_free.result c.from_residual-in_err-check_free.ensures.1 in
    rw (p.1, p.2)
    (declares_only t line _ (line_then line (After t) d c.in_ok-declaration.ensures _ (operator_then d.function (declared_op d) (TableRules t) c.in_ok-candidate.candidate c.in_ok-candidate.ensures _ c.in_err-check_free.ensures)))

pub returns-clause-answer : goal.returns-clause-answer
returns-clause-answer c =
    let t = open_table c.args.self.now in
    let line = c.args.line.now in
    let d = c.in_ok-declaration.declaration in
    declares_only t line _ (line_then line (After t) d c.in_ok-declaration.ensures _ (operator_then d.function (declared_op d) (TableRules t) c.in_ok-candidate.candidate c.in_ok-candidate.ensures _ c.in_ok-check_free.ensures))

pub returns-clause-added : goal.returns-clause-added
returns-clause-added c =
    let t = open_table c.args.self.now in
    let line = c.args.line.now in
    let d = c.in_ok-declaration.declaration in
    let is = candidate_of d.function (declared_op d) c.in_ok-candidate.candidate c.in_ok-candidate.ensures in
    line_added line d c.in_ok-declaration.ensures t _ (c.put.ensures ∙ (λ i. extended t (is.0 i) (is.1 i)))
