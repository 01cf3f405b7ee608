use Rattle.std.proofs.Common.{Ok, Err, subst}
use Rattle.std.proofs.lemmas.Result.{err_from_is_err_and}
use Rattle.notation.specs.Views.{sealed_table}
use Rattle.plan.specs.NumberedAhead.{numbered_ahead}
use Rattle.plan.specs.Sections.{section, Sectioned, empty_table, Declarations}
use Rattle.plan.proofs.Sectioning.{same_word, other_word, declared_read, notation_only}
use Rattle.plan.proofs.sections.read_notation.Goals as goal

pub returns-in_err-read_declarations : goal.returns-in_err-read_declarations
returns-in_err-read_declarations c =
    let p = err_from_is_err_and c.from_residual.result c.from_residual.ensures.1 in
    let lines = c.args.lines.now in
    let step = c.in-Some.ensures.steps in
    let rest = numbered_ahead c.next.new.self in
    let r = Err c.in_err-read_declarations.field-0.0 in
    rw (p.1, p.2) (notation_only (numbered_ahead lines) lines.count r (declared_read lines.count (numbered_ahead lines) c.in-Some.line.bytes.now rest step.0 (other_word _ _ _ c.eq.ensures c.if-eq.false) (same_word _ _ _ c.eq-2.ensures c.if-eq-2.true) r (subst (λ n. Declarations empty_table n rest r) step.3 c.in_err-read_declarations.ensures)))

pub returns-then-eq-2 : goal.returns-then-eq-2
returns-then-eq-2 c =
    let lines = c.args.lines.now in
    let step = c.in-Some.ensures.steps in
    let rest = numbered_ahead c.next.new.self in
    let r : Sectioned = Ok (section (sealed_table c.in_ok-read_declarations.field-0) (numbered_ahead c.read_declarations.new.lines) c.read_declarations.new.lines.count) in
    notation_only (numbered_ahead lines) lines.count r (declared_read lines.count (numbered_ahead lines) c.in-Some.line.bytes.now rest step.0 (other_word _ _ _ c.eq.ensures c.if-eq.false) (same_word _ _ _ c.eq-2.ensures c.if-eq-2.true) r (subst (λ n. Declarations empty_table n rest r) step.3 c.in_ok-read_declarations.ensures))
