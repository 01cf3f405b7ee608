use Rattle.std.proofs.Common.{◌≡◌, ℕ, cond, List, [], ◌++◌, is_ok, IfOk, Ok, Err, Result, sym, refl, ◌∙◌, append-nil}
use Rattle.std.specs.declared.alloc.AllocError.{AllocError}
use Rattle.plan.specs.Command.{Output}
use Rattle.plan.specs.Reports.{fault_line}
use Rattle.plan.proofs.Whole.{whole, plan_room, less_room}
use Rattle.plan.proofs.command.translate_input.Goals as goal

pub returns-in-Ok-clause-succeeds : goal.returns-in-Ok-clause-succeeds
returns-in-Ok-clause-succeeds c =
    let start = c.new-lines.ensures in
    let room = plan_room c.args.input.now _ _ start.ahead start.count _ c.in-Ok.ensures in
    λ enough. c.translate_plan.ensures.succeeds (less_room _ _ _ _ room enough)

-- the fault line is put, or memory was wanting and nothing is
after_fault : (P : List ℕ → Type 0) (start final line : List ℕ) (r : Result (Unit {0}) AllocError) → P line → final ≡ cond (is_ok r) (start ++ line) start → (added : List ℕ) × (final ≡ start ++ added) × IfOk r (λ _. P added)
after_fault P start final line (Ok x) h e = (line, e, h)
after_fault P start final line (Err x) h e = ([], e ∙ sym (append-nil start), tt)

pub returns-in-Err-clause-answer : goal.returns-in-Err-clause-answer
returns-in-Err-clause-answer c =
    let start = c.new-lines.ensures in
    let e = c.in-Err.refused in
    after_fault (Output c.args.input.now) _ _ (fault_line e.line e.fault) c.push_fault_line.result (whole c.args.input.now _ _ start.ahead start.count (Err e) c.in-Err.ensures _ refl) c.push_fault_line.ensures.bytes
