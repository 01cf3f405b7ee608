-- The machine in the rack goes step by step with the machine of bracketed trees. Assumes nothing.
use Rattle.std.proofs.Common.{◌≡◌, ℕ, ◌+◌, ◌-◌, Bool, true, false, List, [], ◌∷◌, ◌++◌, length, Some, None, Option, Ok, Err, Result, sym, refl, ap, ◌∙◌, subst, append_assoc, arith}
use Rattle.std.proofs.lemmas.List.{length-append}
use Rattle.tokens.specs.declared.token.TokenKind.{TokenKind}
use Rattle.tokens.specs.declared.token.TokenKind.TheVariants.{Word, Symbol, Open, Close}
use Rattle.tokens.specs.Tokens.{Lexeme}
use Rattle.notation.specs.declared.form.Position.TheVariants.{Before, After}
use Rattle.notation.specs.Operators.{Op, Fixity}
use Rattle.notation.specs.Operators.Fixity.{prefix, postfix, between}
use Rattle.notation.specs.Tables.{Table, listed}
use Rattle.grammar.specs.declared.due.Due.TheVariants.{Operand, Operator}
use Rattle.grammar.specs.declared.taker.Taker.{Taker}
use Rattle.grammar.specs.declared.taker.Taker.TheVariants.{Left, Right}
use Rattle.grammar.specs.Trees.{Bracketed, erase}
use Rattle.grammar.specs.Trees.Bracketed.{prefixed, infixed}
use Rattle.grammar.specs.Machine as M
use Rattle.grammar.specs.Machine.{Frame, State, is_name}
use Rattle.grammar.specs.Machine.Pending.{prefixing, infixing}
use Rattle.grammar.specs.Machine.Frame.{bracket, pending}
use Rattle.grammar.specs.Machine.State.{operand_due, operator_due}
use Rattle.grammar.specs.Neighbours.{taker}
use Rattle.grammar.specs.Weights.{fixity_in, or_absent, operator_in}
use Rattle.rack.specs.declared.node.Node.{Node}
use Rattle.rack.specs.Nodes.{size, function_node, name_node, nodes_of}
use Rattle.reading.specs.Outside.{SameOutside}
use Rattle.reading.specs.Waiting.{Waits, begins}
use Rattle.reading.specs.Waiting as P
use Rattle.reading.specs.Yard.{Site, site, Yard, shut_at, over_at, taker_of, decided, covered, unwound, finished, standing, begun, settled, continued, operand_step, operator_step, step, run}
use Rattle.reading.specs.Yard.Yard.{stands, refused}
use Rattle.reading.proofs.Known.{Known, KnownIn, step_known}
use Rattle.reading.proofs.Racks.{length-nodes, Holding, nothing_put, one_put}

-- the nodes that were put for what is not finished, and those with a finished tree after them
abbrev pub outs : List Frame → List Node
outs [] = []
outs (bracket ∷ k) = outs k
outs (pending (prefixing f) ∷ k) = outs k
outs (pending (infixing f a) ∷ k) = outs k ++ nodes_of (erase a)

abbrev pub outs_with : List Frame → Bracketed → List Node
outs_with k b = outs k ++ nodes_of (erase b)

module _ (old : List Node) (mark : ℕ) where
  -- how what is not finished waits on the reader's stack
  abbrev waits : List Frame → List Waits
  waits [] = []
  waits (bracket ∷ k) = P.bracket (mark + length (outs k)) ∷ waits k
  waits (pending (prefixing f) ∷ k) = P.operator f (mark + length (outs k)) ∷ waits k
  waits (pending (infixing f a) ∷ k) = P.operator f (mark + length (outs_with k a)) ∷ waits k

  waits_begin : (k : List Frame) → begins mark (waits k) ≡ mark + length (outs k)
  waits_begin [] = omega arith
  waits_begin (bracket ∷ k) = refl
  waits_begin (pending (prefixing f) ∷ k) = refl
  waits_begin (pending (infixing f a) ∷ k) = refl

  -- the rack holds what was put before an operand is due, and before an operator is due, after b
  abbrev AtOperand : List Frame → List Node → ℕ → Type 0
  AtOperand k rack n = Holding old rack mark n (outs k)

  abbrev AtOperator : List Frame → Bracketed → List Node → ℕ → Type 0
  AtOperator k b rack n = Holding old rack mark n (outs_with k b)

  -- the size of the tree that a function makes of the current operand, and of the one before it and the current one
  one_size : (k : List Frame) (b : Bracketed) (n : ℕ) → n ≡ mark + length (outs_with k b) → n - begins mark (waits k) + 1 ≡ size (erase b) + 1
  one_size k b n e = omega (arith, waits_begin k, length-append (outs k) (nodes_of (erase b)), length-nodes (erase b))

  two_size : (k : List Frame) (a b : Bracketed) (n : ℕ) → n ≡ mark + length ((outs k ++ nodes_of (erase a)) ++ nodes_of (erase b)) → n - begins mark (waits k) + 1 ≡ size (erase a) + size (erase b) + 1
  two_size k a b n e =
      omega (arith, waits_begin k, length-append (outs k ++ nodes_of (erase a)) (nodes_of (erase b)), length-append (outs k) (nodes_of (erase a)), length-nodes (erase a), length-nodes (erase b))

  -- a function with one operand takes b; a function that waits with its left operand a takes b
  one_after : (f : ℕ) (k : List Frame) (b : Bracketed) (rack : List Node) (n : ℕ) → AtOperator k b rack n → AtOperator k (prefixed f b) (covered mark f (waits k) rack n) (n + 1)
  one_after f k b rack n h =
      subst (Holding old (covered mark f (waits k) rack n) mark (n + 1))
      (ap (λ m. (outs k ++ nodes_of (erase b)) ++ (function_node f m ∷ [])) (one_size k b n h.next) ∙ append_assoc (outs k) (nodes_of (erase b)) (function_node f (size (erase b) + 1) ∷ []))
      (one_put old mark rack n (outs_with k b) (function_node f (n - begins mark (waits k) + 1)) h)

  two_after : (f : ℕ) (a : Bracketed) (k : List Frame) (b : Bracketed) (rack : List Node) (n : ℕ) → AtOperator (pending (infixing f a) ∷ k) b rack n → AtOperator k (infixed f a b) (covered mark f (waits k) rack n) (n + 1)
  two_after f a k b rack n h =
      subst (Holding old (covered mark f (waits k) rack n) mark (n + 1))
      (ap (λ m. ((outs k ++ nodes_of (erase a)) ++ nodes_of (erase b)) ++ (function_node f m ∷ [])) (two_size k a b n h.next) ∙ simp append_assoc)
      (one_put old mark rack n (outs_with (pending (infixing f a) ∷ k) b) (function_node f (n - begins mark (waits k) + 1)) h)

  -- the yard shows the state: the same is due, the same waits, and the rack holds its nodes
  abbrev pub Shows : State → Yard → Type 0
  Shows (operand_due k) y = (rack : List Node) × (n : ℕ) × (y ≡ stands Operand (site mark (waits k) rack n)) × AtOperand k rack n
  Shows (operator_due k b) y = (rack : List Node) × (n : ℕ) × (y ≡ stands Operator (site mark (waits k) rack n)) × AtOperator k b rack n
  Shows M.refused y = (rack : List Node) × (y ≡ refused rack) × SameOutside mark old rack

  abbrev pub Finishes : Option Bracketed → Result Site (List Node) → Type 0
  Finishes None r = (rack : List Node) × (r ≡ Err rack) × SameOutside mark old rack
  Finishes (Some b) r = (rack : List Node) × (n : ℕ) × (r ≡ Ok (site mark [] rack n)) × Holding old rack mark n (nodes_of (erase b))

  closed_shows : (k : List Frame) (b : Bracketed) (rack : List Node) (n : ℕ) → AtOperator k b rack n → Shows (M.closed k b) (shut_at (unwound mark (waits k) rack n))
  unfolding unwound
  closed_shows [] b rack n h = (rack, refl, h.outside)
  closed_shows (bracket ∷ k) b rack n h = (rack, n, refl, h)
  closed_shows (pending (prefixing f) ∷ k) b rack n h = closed_shows k (prefixed f b) _ _ (one_after f k b rack n h)
  closed_shows (pending (infixing f a) ∷ k) b rack n h = closed_shows k (infixed f a b) _ _ (two_after f a k b rack n h)

  ended_finishes : (k : List Frame) (b : Bracketed) (rack : List Node) (n : ℕ) → AtOperator k b rack n → Finishes (M.ended k b) (over_at (unwound mark (waits k) rack n))
  unfolding unwound
  ended_finishes [] b rack n h = (rack, n, refl, h)
  ended_finishes (bracket ∷ k) b rack n h = (rack, refl, h.outside)
  ended_finishes (pending (prefixing f) ∷ k) b rack n h = ended_finishes k (prefixed f b) _ _ (one_after f k b rack n h)
  ended_finishes (pending (infixing f a) ∷ k) b rack n h = ended_finishes k (infixed f a b) _ _ (two_after f a k b rack n h)

  pub outcome_finishes : (st : State) (y : Yard) → Shows st y → Finishes (M.outcome st) (finished y)
  outcome_finishes (operand_due k) y (rack, n, e, h) = (rack, ap finished e, h.outside)
  outcome_finishes (operator_due k b) y (rack, n, e, h) = subst (λ (z : Yard). Finishes (M.ended k b) (finished z)) (sym e) (ended_finishes k b rack n h)
  outcome_finishes M.refused y (rack, e, h) = (rack, ap finished e, h)

  standing_shows : (x : Option Fixity) (f : ℕ) (before : List Node) (k : List Frame) (b : Bracketed) (rack : List Node) (n : ℕ) → SameOutside mark old before → AtOperator k b rack n → Shows (M.standing x f k b) (standing x f before (Ok (site mark (waits k) rack n)))
  standing_shows None f before k b rack n o h = (before, refl, o)
  standing_shows (Some prefix) f before k b rack n o h = (rack, refl, h.outside)
  standing_shows (Some postfix) f before k b rack n o h = (_, _, refl, one_after f k b rack n h)
  standing_shows (Some between) f before k b rack n o h = (rack, n, ap (λ m. stands Operand (site mark (P.operator f m ∷ waits k) rack n)) h.next, h)

  none_stands : (x : Option Fixity) (f : ℕ) (before rack : List Node) → SameOutside mark old before → SameOutside mark old rack → Shows M.refused (standing x f before (Err rack))
  none_stands None f before rack o h = (before, refl, o)
  none_stands (Some x) f before rack o h = (rack, refl, h)

  decided_shows : (v : Option Taker) (x : Option Fixity) (f : ℕ) (s t : State) (before : List Node) (further : Result Site (List Node)) (here : Site) → SameOutside mark old before → SameOutside mark old here.rack → Shows s (standing x f before further) → Shows t (standing x f before (Ok here)) → Shows (M.decided v s t) (standing x f before (decided v further here))
  decided_shows (Some Left) x f s t before further here o h p q = p
  decided_shows (Some Right) x f s t before further here o h p q = q
  decided_shows None x f s t before further here o h p q = none_stands x f before here.rack o h

  begun_shows : (w : List ℕ) (o : Option ℕ) (name : Bool) (k : List Frame) (rack : List Node) (n : ℕ) → AtOperand k rack n → Shows (M.begun w o name k) (begun w o name (site mark (waits k) rack n))
  begun_shows w (Some f) name k rack n h = (rack, n, ap (λ m. stands Operand (site mark (P.operator f m ∷ waits k) rack n)) h.next, h)
  begun_shows w None true k rack n h = (_, _, refl, one_put old mark rack n (outs k) (name_node w) h)
  begun_shows w None false k rack n h = (rack, refl, h.outside)

  module _ (t : Table) where
    -- the operator that waits is known, so that the two machines decide alike
    known_shows : (r : Option Op) (u : Op) (f : ℕ) (s m : State) (before : List Node) (further : Result Site (List Node)) (here : Site) → r ≡ Some u → SameOutside mark old before → SameOutside mark old here.rack → Shows s (standing (fixity_in t f) f before further) → Shows m (standing (fixity_in t f) f before (Ok here)) → Shows (M.decided (taker (or_absent r) (operator_in t f)) s m) (standing (fixity_in t f) f before (decided (taker_of r (operator_in t f)) further here))
    known_shows None u f s m before further here e o h p q = let z : ◌≡◌ {A = ℕ} 0 1 = cc in absurd (omega arith)
    known_shows (Some v) u f s m before further here e o h p q = decided_shows (taker v (operator_in t f)) (fixity_in t f) f s m before further here o h p q

    settled_shows : (f : ℕ) (before : List Node) (k : List Frame) (b : Bracketed) (rack : List Node) (n : ℕ) → Known t k → SameOutside mark old before → AtOperator k b rack n → Shows (M.settled t f k b) (standing (fixity_in t f) f before (settled mark t (operator_in t f) (waits k) rack n))
    unfolding settled
    settled_shows f before [] b rack n w o h = standing_shows (fixity_in t f) f before [] b rack n o h
    settled_shows f before (bracket ∷ k) b rack n w o h = standing_shows (fixity_in t f) f before (bracket ∷ k) b rack n o h
    settled_shows f before (pending (prefixing g) ∷ k) b rack n w o h =
        known_shows (t g) w.0 f _ _ before _ _ w.1 o h.outside (settled_shows f before k (prefixed g b) _ _ w.2 o (one_after g k b rack n h)) (standing_shows (fixity_in t f) f before (pending (prefixing g) ∷ k) b rack n o h)
    settled_shows f before (pending (infixing g a) ∷ k) b rack n w o h =
        known_shows (t g) w.0 f _ _ before _ _ w.1 o h.outside (settled_shows f before k (infixed g a b) _ _ w.2 o (two_after g a k b rack n h)) (standing_shows (fixity_in t f) f before (pending (infixing g a) ∷ k) b rack n o h)

    continued_shows : (o : Option ℕ) (k : List Frame) (b : Bracketed) (rack : List Node) (n : ℕ) → Known t k → AtOperator k b rack n → Shows (M.continued t o k b) (continued t o (site mark (waits k) rack n))
    continued_shows (Some f) k b rack n w h = settled_shows f rack k b rack n w h.outside h
    continued_shows None k b rack n w h = (rack, refl, h.outside)

    operand_shows : (kind : TokenKind) (w : List ℕ) (k : List Frame) (rack : List Node) (n : ℕ) → AtOperand k rack n → Shows (M.operand_step t kind w k) (operand_step t kind w (site mark (waits k) rack n))
    operand_shows Word w k rack n h = begun_shows w (listed t Before w) (is_name t w) k rack n h
    operand_shows Symbol w k rack n h = begun_shows w (listed t Before w) false k rack n h
    operand_shows Open w k rack n h = (rack, n, ap (λ m. stands Operand (site mark (P.bracket m ∷ waits k) rack n)) h.next, h)
    operand_shows Close w k rack n h = (rack, refl, h.outside)

    operator_shows : (kind : TokenKind) (w : List ℕ) (k : List Frame) (b : Bracketed) (rack : List Node) (n : ℕ) → Known t k → AtOperator k b rack n → Shows (M.operator_step t kind w k b) (operator_step t kind w (site mark (waits k) rack n))
    operator_shows Word w k b rack n g h = continued_shows (listed t After w) k b rack n g h
    operator_shows Symbol w k b rack n g h = continued_shows (listed t After w) k b rack n g h
    operator_shows Open w k b rack n g h = (rack, refl, h.outside)
    operator_shows Close w k b rack n g h = closed_shows k b rack n h

    pub step_shows : (st : State) (y : Yard) (x : Lexeme) → KnownIn t st → Shows st y → Shows (M.step t st x) (step t y x)
    step_shows (operand_due k) y x w (rack, n, e, h) =
        subst (λ (z : Yard). Shows (M.operand_step t x.kind x.bytes k) (step t z x)) (sym e) (operand_shows x.kind x.bytes k rack n h)
    step_shows (operator_due k b) y x w (rack, n, e, h) =
        subst (λ (z : Yard). Shows (M.operator_step t x.kind x.bytes k b) (step t z x)) (sym e) (operator_shows x.kind x.bytes k b rack n w h)
    step_shows M.refused y x w (rack, e, h) = (rack, ap (λ (z : Yard). step t z x) e, h)

    run_shows : (xs : List Lexeme) (st : State) (y : Yard) → KnownIn t st → Shows st y → Shows (M.run t st xs) (run t y xs)
    unfolding run
    run_shows [] st y w h = h
    run_shows (x ∷ xs) st y w h = run_shows xs (M.step t st x) (step t y x) (step_known t st x w) (step_shows st y x w h)

    -- from the start
    pub shown : (xs : List Lexeme) → Shows (M.run t M.start xs) (run t (stands Operand (site mark [] old mark)) xs)
    shown xs = run_shows xs M.start (stands Operand (site mark [] old mark)) tt (old, mark, refl, nothing_put old mark)
