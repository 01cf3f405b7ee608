use Rattle.std.proofs.Common.{◌≡◌, ℕ, false, List, ◌++◌, is_err, IfOk, Ok, Err, Result, MatchResult, sym}
use Rattle.std.specs.declared.alloc.AllocError.{AllocError}
use Rattle.std.proofs.lemmas.Bool.{false≢true}
use Rattle.tokens.specs.InOrder.{Only}
use Rattle.plan.specs.Command.{Output}
use Rattle.plan.proofs.Whole.{output_only}
use Rattle.plan.proofs.command.translate.Goals as goal

accepted : (input start final : List ℕ) (r : Result (Unit {0}) AllocError) → is_err r ≡ false → (added : List ℕ) → final ≡ start ++ added → IfOk r (λ _. Output input added)
    → MatchResult r (λ _. (added : List ℕ) × (final ≡ start ++ added) × Only (Output input) added) (λ _. final ≡ start)
accepted input start final (Ok x) e added whole out = (added, whole, output_only input added out)
accepted input start final (Err x) e added whole out = absurd (false≢true (sym e))

pub returns-else-is_err-clause-answer : goal.returns-else-is_err-clause-answer
returns-else-is_err-clause-answer c =
    let told = c.translate_input-done.ensures.answer in
    accepted c.args.input.now _ _ c.translate_input-done.result (sym c.if-is_err.ensures.value) told.0 told.1 told.2
