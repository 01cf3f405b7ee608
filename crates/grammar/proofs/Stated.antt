-- The machine's state tells what is due.
use Rattle.std.proofs.Common.{◌≡◌, ℕ, Bool, true, false, List, [], ◌∷◌, Some, None, Option, sym, refl, ap, subst}
use Rattle.tokens.specs.declared.token.TokenKind.{TokenKind}
use Rattle.tokens.specs.declared.token.TokenKind.TheVariants.{Word, Symbol, Open, Close}
use Rattle.tokens.specs.Tokens.{Lexeme}
use Rattle.notation.specs.declared.form.Position.TheVariants.{Before, After}
use Rattle.notation.specs.Operators.{Fixity}
use Rattle.notation.specs.Operators.Fixity.{prefix, postfix, between}
use Rattle.notation.specs.Tables.{Table, listed}
use Rattle.grammar.specs.declared.due.Due.{Due}
use Rattle.grammar.specs.declared.due.Due.TheVariants.{Operand, Operator}
use Rattle.grammar.specs.declared.taker.Taker.{Taker}
use Rattle.grammar.specs.declared.taker.Taker.TheVariants.{Left, Right}
use Rattle.grammar.specs.Trees.{Bracketed}
use Rattle.grammar.specs.Weights.{fixity_in, operator_in}
use Rattle.grammar.specs.Neighbours.{taker}
use Rattle.grammar.specs.Machine.{Frame, State, start, function_of, completed, closed, standing, decided, settled, is_name, begun, continued, operand_step, operator_step, step, run}
use Rattle.grammar.specs.Machine.Frame.{bracket, pending}
use Rattle.grammar.specs.Machine.State.{operand_due, operator_due, refused}
use Rattle.grammar.specs.Dues.{due_behind, due_behind_sign, due_next, due_from, Tells, MachineTellsDue}
use Rattle.grammar.proofs.Tables.{listed_prefix}

closed_tells : (k : List Frame) (b : Bracketed) → Tells (closed k b) Operator
closed_tells [] b = tt
closed_tells (bracket ∷ k) b = refl
closed_tells (pending u ∷ k) b = closed_tells k (completed u b)

standing_tells : (x : Option Fixity) (f : ℕ) (k : List Frame) (b : Bracketed) → Tells (standing x f k b) (due_behind x)
standing_tells None f k b = tt
standing_tells (Some prefix) f k b = tt
standing_tells (Some postfix) f k b = refl
standing_tells (Some between) f k b = refl

decided_tells : (v : Option Taker) (further here : State) (d : Due) → Tells further d → Tells here d → Tells (decided v further here) d
decided_tells (Some Left) further here d f h = f
decided_tells (Some Right) further here d f h = h
decided_tells None further here d f h = tt

module _ (t : Table) where
  settled_tells : (f : ℕ) (k : List Frame) (b : Bracketed) → Tells (settled t f k b) (due_behind (fixity_in t f))
  settled_tells f [] b = standing_tells (fixity_in t f) f [] b
  settled_tells f (bracket ∷ k) b = standing_tells (fixity_in t f) f (bracket ∷ k) b
  settled_tells f (pending u ∷ k) b =
      decided_tells (taker (operator_in t (function_of u)) (operator_in t f)) (settled t f k (completed u b)) (standing (fixity_in t f) f (pending u ∷ k) b) (due_behind (fixity_in t f))
      (settled_tells f k (completed u b)) (standing_tells (fixity_in t f) f (pending u ∷ k) b)

  begun_tells : (s : List ℕ) (o : Option ℕ) (n : Bool) (k : List Frame) → listed t Before s ≡ o → Tells (begun s o n k) (due_behind_sign t o)
  begun_tells s (Some f) n k e = ap due_behind (listed_prefix t s f e)
  begun_tells s None true k e = refl
  begun_tells s None false k e = tt

  continued_tells : (o : Option ℕ) (k : List Frame) (b : Bracketed) → Tells (continued t o k b) (due_behind_sign t o)
  continued_tells (Some f) k b = settled_tells f k b
  continued_tells None k b = tt

  operand_tells : (kind : TokenKind) (s : List ℕ) (k : List Frame) → Tells (operand_step t kind s k) (due_next t Operand kind s)
  operand_tells Word s k = begun_tells s (listed t Before s) (is_name t s) k refl
  operand_tells Symbol s k = begun_tells s (listed t Before s) false k refl
  operand_tells Open s k = refl
  operand_tells Close s k = tt

  operator_tells : (kind : TokenKind) (s : List ℕ) (k : List Frame) (b : Bracketed) → Tells (operator_step t kind s k b) (due_next t Operator kind s)
  operator_tells Word s k b = continued_tells (listed t After s) k b
  operator_tells Symbol s k b = continued_tells (listed t After s) k b
  operator_tells Open s k b = tt
  operator_tells Close s k b = closed_tells k b

  step_tells : (st : State) (d : Due) (x : Lexeme) → Tells st d → Tells (step t st x) (due_next t d x.kind x.bytes)
  step_tells (operand_due k) d x e = subst (λ (v : Due). Tells (operand_step t x.kind x.bytes k) (due_next t v x.kind x.bytes)) (sym e) (operand_tells x.kind x.bytes k)
  step_tells (operator_due k b) d x e = subst (λ (v : Due). Tells (operator_step t x.kind x.bytes k b) (due_next t v x.kind x.bytes)) (sym e) (operator_tells x.kind x.bytes k b)
  step_tells refused d x e = tt

  run_tells : (xs : List Lexeme) (st : State) (d : Due) → Tells st d → Tells (run t st xs) (due_from t d xs)
  run_tells [] st d h = h
  run_tells (x ∷ xs) st d h = run_tells xs (step t st x) (due_next t d x.kind x.bytes) (step_tells st d x h)

pub machine_tells_due : MachineTellsDue
machine_tells_due t lawful xs = run_tells t xs start Operand refl
