-- Every operator that waits in the reading machine is one of the table. Assumes nothing.
use Rattle.std.proofs.Common.{◌≡◌, ℕ, Bool, true, false, List, [], ◌∷◌, Some, None, Option, refl, arith}
use Rattle.std.specs.Option.{option_map}
use Rattle.tokens.specs.declared.token.TokenKind.{TokenKind}
use Rattle.tokens.specs.declared.token.TokenKind.TheVariants.{Word, Symbol, Open, Close}
use Rattle.tokens.specs.Tokens.{Lexeme}
use Rattle.notation.specs.declared.form.Position.TheVariants.{Before, After}
use Rattle.notation.specs.LookupsLemmas.{listed_is}
use Rattle.notation.specs.Operators.{Op, Fixity, fixity_of}
use Rattle.notation.specs.Operators.Fixity.{prefix, postfix, between}
use Rattle.notation.specs.Tables.{Table, listed}
use Rattle.grammar.specs.declared.taker.Taker.{Taker}
use Rattle.grammar.specs.declared.taker.Taker.TheVariants.{Left, Right}
use Rattle.grammar.specs.Trees.{Bracketed}
use Rattle.grammar.specs.Weights.{fixity_in, operator_in}
use Rattle.grammar.specs.Neighbours.{taker}
use Rattle.grammar.specs.Machine.{Frame, State, start, function_of, completed, is_name, closed, standing, decided, begun, settled, continued, operand_step, operator_step, step, run}
use Rattle.grammar.specs.Machine.Frame.{bracket, pending}
use Rattle.grammar.specs.Machine.State.{operand_due, operator_due, refused}

has_operator : (x : Fixity) (r : Option Op) → option_map (λ o. fixity_of o.form) r ≡ Some x → (o : Op) × (r ≡ Some o)
has_operator x None e = let z : ◌≡◌ {A = ℕ} 0 1 = cc in absurd (omega arith)
has_operator x (Some o) e = (o, refl)

module _ (t : Table) where
  abbrev pub Known : List Frame → Type 0
  Known [] = Unit {0}
  Known (bracket ∷ k) = Known k
  Known (pending u ∷ k) = (o : Op) × (t (function_of u) ≡ Some o) × Known k

  abbrev pub KnownIn : State → Type 0
  KnownIn (operand_due k) = Known k
  KnownIn (operator_due k b) = Known k
  KnownIn refused = Unit {0}

  standing_known : (x : Option Fixity) (f : ℕ) (k : List Frame) (b : Bracketed) → fixity_in t f ≡ x → Known k → KnownIn (standing x f k b)
  standing_known None f k b e h = tt
  standing_known (Some prefix) f k b e h = tt
  standing_known (Some postfix) f k b e h = h
  standing_known (Some between) f k b e h = let has = has_operator between (t f) e in (has.0, has.1, h)

  decided_known : (v : Option Taker) (further here : State) → KnownIn further → KnownIn here → KnownIn (decided v further here)
  decided_known (Some Left) further here f h = f
  decided_known (Some Right) further here f h = h
  decided_known None further here f h = tt

  settled_known : (f : ℕ) (k : List Frame) (b : Bracketed) → Known k → KnownIn (settled t f k b)
  settled_known f [] b h = standing_known (fixity_in t f) f [] b refl h
  settled_known f (bracket ∷ k) b h = standing_known (fixity_in t f) f (bracket ∷ k) b refl h
  settled_known f (pending u ∷ k) b h =
      decided_known (taker (operator_in t (function_of u)) (operator_in t f)) _ _ (settled_known f k (completed u b) h.2) (standing_known (fixity_in t f) f (pending u ∷ k) b refl h)

  closed_known : (k : List Frame) (b : Bracketed) → Known k → KnownIn (closed k b)
  closed_known [] b h = tt
  closed_known (bracket ∷ k) b h = h
  closed_known (pending u ∷ k) b h = closed_known k (completed u b) h.2

  begun_known : (w : List ℕ) (o : Option ℕ) (name : Bool) (k : List Frame) → listed t Before w ≡ o → Known k → KnownIn (begun w o name k)
  begun_known w (Some f) name k e h = let is = listed_is t Before w f e in (is.op, is.has, h)
  begun_known w None true k e h = h
  begun_known w None false k e h = tt

  continued_known : (o : Option ℕ) (k : List Frame) (b : Bracketed) → Known k → KnownIn (continued t o k b)
  continued_known (Some f) k b h = settled_known f k b h
  continued_known None k b h = tt

  operand_known : (kind : TokenKind) (w : List ℕ) (k : List Frame) → Known k → KnownIn (operand_step t kind w k)
  operand_known Word w k h = begun_known w (listed t Before w) (is_name t w) k refl h
  operand_known Symbol w k h = begun_known w (listed t Before w) false k refl h
  operand_known Open w k h = h
  operand_known Close w k h = tt

  operator_known : (kind : TokenKind) (w : List ℕ) (k : List Frame) (b : Bracketed) → Known k → KnownIn (operator_step t kind w k b)
  operator_known Word w k b h = continued_known (listed t After w) k b h
  operator_known Symbol w k b h = continued_known (listed t After w) k b h
  operator_known Open w k b h = tt
  operator_known Close w k b h = closed_known k b h

  pub step_known : (st : State) (x : Lexeme) → KnownIn st → KnownIn (step t st x)
  step_known (operand_due k) x h = operand_known x.kind x.bytes k h
  step_known (operator_due k b) x h = operator_known x.kind x.bytes k b h
  step_known refused x h = tt

  run_known : (xs : List Lexeme) (st : State) → KnownIn st → KnownIn (run t st xs)
  run_known [] st h = h
  run_known (x ∷ xs) st h = run_known xs (step t st x) (step_known st x h)

  -- from the start
  pub known : (xs : List Lexeme) → KnownIn (run t start xs)
  known xs = run_known xs start tt
