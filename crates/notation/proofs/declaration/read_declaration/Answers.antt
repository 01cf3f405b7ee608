use Rattle.std.proofs.Common.{◌≡◌, List, ℕ, Some, None, Ok, Err, Option, Result, Bor, sym, refl, ap, ◌∙◌, subst, rules}
use Rattle.std.specs.Option.{ok_or}
use Rattle.std.specs.Result.{MatchResult, IsErrAnd}
use Rattle.std.proofs.lemmas.Option.{MatchOption-at_none, MatchOption-at_some}
use Rattle.std.proofs.lemmas.Result.{err_from_is_err_and, MatchResult-at_ok, MatchResult-at_err}
use Rattle.tokens.specs.declared.fault.Fault.{Fault}
use Rattle.tokens.specs.declared.fault.FaultKind.{FaultKind}
use Rattle.tokens.specs.declared.fault.FaultKind.TheVariants.{UnknownType}
use Rattle.tokens.specs.Faults.{fault}
use Rattle.notation.specs.declared.form.Form.{Form}
use Rattle.notation.specs.Lines.{Names, word_of}
use Rattle.notation.specs.Views.{DeclarationOf, fields_of}
use Rattle.notation.proofs.Rules.{no_function, no_priority, no_type, line_said}
use Rattle.notation.proofs.declaration.read_declaration.Goals as goal

-- the fault of what there is not
fault_of : {T : Type 0} (o : Option T) (e f : Fault) → ◌≡◌ {A = Result T Fault} (Err e) (ok_or o f) → e ≡ f
fault_of None e f is = cc
fault_of (Some x) e f is = cc

-- the type that the word names, or the fault of the third field
abbrev Typed : Bor (List ℕ) → Result Form Fault → Type 0
Typed word r = MatchResult r (λ m. word.now ≡ word_of m) (λ e. (e ≡ fault UnknownType 3) × ((m : Form) → word.now ≡ word_of m → ⊥))

typed : (word : Bor (List ℕ)) (named : Result Form FaultKind) (r : Result Form Fault) {Q : FaultKind → Fault → Type 0} → Names word named → MatchResult named (λ m. r ≡ Ok m) (λ k. IsErrAnd r (Q k)) → ((k : FaultKind) (e : Fault) → Q k e → e ≡ fault k 3) → Typed word r
typed word (Ok m) r names is at = subst (Typed word) (sym is) names
typed word (Err k) (Ok m) names never at = absurd never
typed word (Err k) (Err e) names is at = (at k e is ∙ ap (λ n. fault n 3) names.0, names.1)

pub returns-in_err-function : goal.returns-in_err-function
returns-in_err-function c =
    let parted = MatchOption-at_some _ _ _ c.in_ok-fields.ensures.ok_part c.fields_of.ensures in
    let none = MatchOption-at_none _ _ c.in_err-function.ensures.ok_part c.number_of.ensures in
    let p = err_from_is_err_and c.from_residual-in_err-function.result c.from_residual-in_err-function.ensures.1 in
    rw (p.1, p.2, fault_of _ _ _ c.in_err-function.ensures.value) (no_function c.args.line.now DeclarationOf (fields_of c.in_ok-fields.fields) parted none)

pub returns-in_err-priority : goal.returns-in_err-priority
returns-in_err-priority c =
    let parted = MatchOption-at_some _ _ _ c.in_ok-fields.ensures.ok_part c.fields_of.ensures in
    let none = MatchOption-at_none _ _ c.in_err-priority.ensures.ok_part c.number_of-2.ensures in
    let p = err_from_is_err_and c.from_residual-in_err-priority.result c.from_residual-in_err-priority.ensures.1 in
    rw (p.1, p.2, fault_of _ _ _ c.in_err-priority.ensures.value) (no_priority c.args.line.now DeclarationOf (fields_of c.in_ok-fields.fields) parted none)

pub returns-in_err-form : goal.returns-in_err-form
returns-in_err-form c =
    let parted = MatchOption-at_some _ _ _ c.in_ok-fields.ensures.ok_part c.fields_of.ensures in
    let function = MatchOption-at_some _ _ _ c.in_ok-function.ensures.ok_part c.number_of.ensures in
    let priority = MatchOption-at_some _ _ _ c.in_ok-priority.ensures.ok_part c.number_of-2.ensures in
    let type = typed c.in_ok-fields.fields.word c.try_from.result c.map_err.result c.try_from.ensures c.map_err.ensures.cases (λ k e is. search rules) in
    let none = MatchResult-at_err _ _ _ c.in_err-form.was type in
    let p = err_from_is_err_and c.from_residual-in_err-form.result c.from_residual-in_err-form.ensures.1 in
    rw (p.1, p.2, none.0) (no_type c.args.line.now DeclarationOf (fields_of c.in_ok-fields.fields) parted _ _ function priority none.1)

pub returns : goal.returns
returns c =
    let parted = MatchOption-at_some _ _ _ c.in_ok-fields.ensures.ok_part c.fields_of.ensures in
    let function = MatchOption-at_some _ _ _ c.in_ok-function.ensures.ok_part c.number_of.ensures in
    let priority = MatchOption-at_some _ _ _ c.in_ok-priority.ensures.ok_part c.number_of-2.ensures in
    let type = typed c.in_ok-fields.fields.word c.try_from.result c.map_err.result c.try_from.ensures c.map_err.ensures.cases (λ k e is. search rules) in
    line_said c.args.line.now DeclarationOf (fields_of c.in_ok-fields.fields) parted _ _ function priority c.in_ok-form.form (MatchResult-at_ok _ _ _ c.in_ok-form.was type) _ (refl, refl)
