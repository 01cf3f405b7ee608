use Rattle.std.proofs.lemmas.Bool.{false≢true}
use Rattle.notation.proofs.Lines.{no_second, no_third, no_fourth}
use Rattle.notation.proofs.declaration.fields_of.Goals as goal

pub returns-in_err-priority : goal.returns-in_err-priority
returns-in_err-priority c =
    let first = c.in_ok-function.ensures in
    rw c.from_residual-in_err-priority.ensures (no_second _ _ _ first.0 first.1 c.in_err-priority.ensures)

pub returns-in_err-word : goal.returns-in_err-word
returns-in_err-word c =
    let first = c.in_ok-function.ensures in
    let second = c.in_ok-priority.ensures in
    rw c.from_residual-in_err-word.ensures (no_third _ _ _ first.0 first.1 _ _ second.0 second.1 c.in_err-word.ensures)

pub returns-then-not-is_field : goal.returns-then-not-is_field
returns-then-not-is_field c =
    let first = c.in_ok-function.ensures in
    let second = c.in_ok-priority.ensures in
    let third = c.in_ok-word.ensures in
    no_fourth _ _ _ first.0 first.1 _ _ second.0 second.1 _ _ third.0 third.1 (λ field. false≢true (c.if-not-is_field.ensures.1 field))
