use Rattle.std.proofs.Common.{◌≡◌, ℕ, Ok, Err, Result, MatchResult, IsErrAnd, OnOk, refl, rules}
use Rattle.tokens.specs.declared.fault.Fault.{Fault}
use Rattle.notation.specs.Declarations.{Declares, Added}
use Rattle.notation.specs.Views.{open_table}
use Rattle.plan.specs.declared.input_fault.InputFault.{InputFault}
use Rattle.plan.specs.Sections.{fault_at_line}
use Rattle.plan.proofs.sections.declare_line.Goals as goal

-- the fault of a line, if it has one, comes with the line's number
at_line : (P : Type 0) (Q : Fault → Type 0) (n : ℕ) (told : Result (Unit {0}) Fault) (r : Result (Unit {0}) InputFault) → MatchResult told (λ _. P) Q → MatchResult told (λ x. r ≡ Ok x) (λ f. IsErrAnd r (λ e. e ≡ fault_at_line n f))
    → MatchResult r (λ _. P) (λ e. (e.line ≡ n) × Q e.fault)
at_line P Q n (Ok x) r h e = rw e h
at_line P Q n (Err f) (Ok x) h e = absurd e
at_line P Q n (Err f) (Err x) h e = rw e (refl, h)

both : (D : Result (Unit {0}) Fault → Type 0) (A : Type 0) (told : Result (Unit {0}) Fault) → D told → OnOk told A → MatchResult told (λ _. D (Ok tt) × A) (λ f. D (Err f))
both D A (Ok x) h a = (h, a)
both D A (Err f) h a = h

pub returns : goal.returns
returns c =
    let old = open_table c.args.list.now in
    let line = c.args.line.bytes.now in
    let told = both (Declares old line) (Added old line (open_table c.declare.new.self)) c.declare.result c.declare.ensures.answer.is c.declare.ensures.added in
    at_line _ (λ f. Declares old line (Err f)) c.args.line.number c.declare.result c.map_err.result told (search rules)
