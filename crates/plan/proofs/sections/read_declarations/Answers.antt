use Rattle.std.proofs.Common.{◌≡◌, ◌+◌, Err, sym, ap, ◌∙◌, subst}
use Rattle.std.proofs.lemmas.Result.{err_from_is_err_and}
use Rattle.notation.specs.Views.{open_table}
use Rattle.plan.specs.declared.input_fault.InputFault.{InputFault}
use Rattle.plan.specs.NumberedAhead.{numbered_ahead}
use Rattle.plan.specs.Sections.{Declarations, fault_at_line}
use Rattle.plan.proofs.Sectioning.{other_word, list_refused}
use Rattle.plan.proofs.sections.read_declarations.Goals as goal

pub returns-in_err-declare_line : goal.returns-in_err-declare_line
returns-in_err-declare_line c =
    let p = err_from_is_err_and c.from_residual.result c.from_residual.ensures.1 in
    let step = c.in-Some.ensures.steps in
    let told = c.in_err-declare_line.ensures in
    let e = c.in_err-declare_line.field-0.0 in
    let lines = c.loop-line.lines in
    let refused = list_refused (open_table c.loop-line.list) lines.count (numbered_ahead lines) c.in-Some.line.bytes.now (numbered_ahead c.next.new.self) step.0 (other_word _ _ _ c.eq.ensures c.if-eq.false) e.fault told.1 in
    let same : fault_at_line (lines.count + 1) e.fault ≡ e = ap (λ n. fault_at_line n e.fault) (sym (told.0 ∙ step.2)) in
    rw (p.1, p.2) (c.loop-line.invariant.2 _ (subst (λ (x : InputFault). Declarations (open_table c.loop-line.list) lines.count (numbered_ahead lines) (Err x)) same refused))
