-- How far a site goes: nodes put and things that wait together grow by one at most with each token. Assumes nothing.
use Rattle.std.proofs.Common.{◌≡◌, ℕ, ◌+◌, ◌≤◌, Bool, true, false, List, [], ◌∷◌, length, Some, None, Option, Ok, Err, Result, sym, refl, subst, arith}
use Rattle.tokens.specs.declared.token.TokenKind.{TokenKind}
use Rattle.tokens.specs.declared.token.TokenKind.TheVariants.{Word, Symbol, Open, Close}
use Rattle.tokens.specs.Tokens.{Lexeme}
use Rattle.notation.specs.declared.form.Position.TheVariants.{Before, After}
use Rattle.notation.specs.Operators.{Op, Fixity}
use Rattle.notation.specs.Operators.Fixity.{prefix, postfix, between}
use Rattle.notation.specs.Tables.{Table, listed}
use Rattle.grammar.specs.declared.due.Due.TheVariants.{Operand, Operator}
use Rattle.grammar.specs.declared.taker.Taker.{Taker}
use Rattle.grammar.specs.declared.taker.Taker.TheVariants.{Left, Right}
use Rattle.grammar.specs.Machine.{is_name}
use Rattle.grammar.specs.Weights.{fixity_in, operator_in}
use Rattle.rack.specs.declared.node.Node.{Node}
use Rattle.reading.specs.Waiting.{Waits}
use Rattle.reading.specs.Waiting.Waits.{bracket, operator}
use Rattle.reading.specs.Yard.{Site, site, Yard, shut, taker_of, decided, covered, unwound, unwound_at, shut_at, standing, begun, settled, settled_at, continued, operand_step, operator_step, step, run}
use Rattle.reading.specs.Yard.Yard.{stands, refused}

module _ (mark : ℕ) where
  -- the tree's nodes begin at the mark, and at most `high` counts the places before the next one and what waits
  pub record Spans (high : ℕ) (s : Site) : Type 0 where
    pub marked : s.mark ≡ mark
    pub few : s.next + length s.waiting ≤ high

  abbrev pub Reaches : ℕ → Result Site (List Node) → Type 0
  Reaches high (Ok s) = Spans high s
  Reaches high (Err rack) = Unit {0}

  abbrev pub Within : ℕ → Yard → Type 0
  Within high (stands d s) = Spans high s
  Within high (refused rack) = Unit {0}

  spans : (high : ℕ) (k : List Waits) (rack : List Node) (n : ℕ) → n + length k ≤ high → Spans high (site mark k rack n)
  spans high k rack n h = record { marked = refl; few = h }

  decided_reaches : (high : ℕ) (v : Option Taker) (further : Result Site (List Node)) (here : Site) → Reaches high further → Spans high here → Reaches high (decided v further here)
  decided_reaches high (Some Left) further here f h = f
  decided_reaches high (Some Right) further here f h = h
  decided_reaches high None further here f h = tt

  unwound_spans : (high : ℕ) (k : List Waits) (rack : List Node) (n : ℕ) → n + length k ≤ high → Spans high (unwound mark k rack n)
  unfolding unwound
  unwound_spans high [] rack n h = spans high [] rack n h
  unwound_spans high (bracket m ∷ k) rack n h = spans high (bracket m ∷ k) rack n h
  unwound_spans high (operator g m ∷ k) rack n h = unwound_spans high k (covered mark g k rack n) (n + 1) (omega arith)

  shut_within : (high : ℕ) (k : List Waits) (rack : List Node) (n : ℕ) → n + length k ≤ high → Within high (shut mark k rack n)
  shut_within high [] rack n h = tt
  shut_within high (bracket m ∷ k) rack n h = spans high k rack n (omega arith)
  shut_within high (operator g m ∷ k) rack n h = tt

  standing_within : (high : ℕ) (x : Option Fixity) (f : ℕ) (rack : List Node) (r : Result Site (List Node)) → Reaches high r → Within (high + 1) (standing x f rack r)
  standing_within high None f rack r h = tt
  standing_within high (Some x) f rack (Err after) h = tt
  standing_within high (Some prefix) f rack (Ok s) h = tt
  standing_within high (Some postfix) f rack (Ok s) h = record { marked = h.marked; few = omega (arith, h.few) }
  standing_within high (Some between) f rack (Ok s) h = record { marked = h.marked; few = omega (arith, h.few) }

  begun_within : (high : ℕ) (w : List ℕ) (o : Option ℕ) (name : Bool) (s : Site) → Spans high s → Within (high + 1) (begun w o name s)
  begun_within high w (Some f) name s h = record { marked = h.marked; few = omega (arith, h.few) }
  begun_within high w None true s h = record { marked = h.marked; few = omega (arith, h.few) }
  begun_within high w None false s h = tt

  more : (high : ℕ) (y : Yard) → Within high y → Within (high + 1) y
  more high (stands d s) h = record { marked = h.marked; few = omega (arith, h.few) }
  more high (refused rack) h = tt

  -- `)` at the site
  closed_within : (high : ℕ) (s : Site) → Spans high s → Within (high + 1) (shut_at (unwound_at s))
  closed_within high s h =
      let u = unwound_spans high s.waiting s.rack s.next h.few in
      let at = subst (λ m. Spans high (unwound m s.waiting s.rack s.next)) (sym h.marked) u in
      more high (shut_at (unwound_at s)) (subst (λ m. Within high (shut m (unwound_at s).waiting (unwound_at s).rack (unwound_at s).next)) (sym at.marked) (shut_within high _ _ _ at.few))

  module _ (t : Table) where
    settled_reaches : (high : ℕ) (o : Op) (k : List Waits) (rack : List Node) (n : ℕ) → n + length k ≤ high → Reaches high (settled mark t o k rack n)
    unfolding settled
    settled_reaches high o [] rack n h = spans high [] rack n h
    settled_reaches high o (bracket m ∷ k) rack n h = spans high (bracket m ∷ k) rack n h
    settled_reaches high o (operator g m ∷ k) rack n h =
        decided_reaches high (taker_of (t g) o) (settled mark t o k (covered mark g k rack n) (n + 1)) (site mark (operator g m ∷ k) rack n) (settled_reaches high o k (covered mark g k rack n) (n + 1) (omega arith)) (spans high (operator g m ∷ k) rack n h)

    pub settled_within : (high : ℕ) (o : Op) (s : Site) → Spans high s → Reaches high (settled_at t o s)
    settled_within high o s h = subst (λ m. Reaches high (settled m t o s.waiting s.rack s.next)) (sym h.marked) (settled_reaches high o s.waiting s.rack s.next h.few)

    continued_within : (high : ℕ) (o : Option ℕ) (s : Site) → Spans high s → Within (high + 1) (continued t o s)
    continued_within high (Some f) s h = standing_within high (fixity_in t f) f s.rack (settled_at t (operator_in t f) s) (settled_within high (operator_in t f) s h)
    continued_within high None s h = tt

    operand_within : (high : ℕ) (kind : TokenKind) (w : List ℕ) (s : Site) → Spans high s → Within (high + 1) (operand_step t kind w s)
    operand_within high Word w s h = begun_within high w (listed t Before w) (is_name t w) s h
    operand_within high Symbol w s h = begun_within high w (listed t Before w) false s h
    operand_within high Open w s h = record { marked = h.marked; few = omega (arith, h.few) }
    operand_within high Close w s h = tt

    operator_within : (high : ℕ) (kind : TokenKind) (w : List ℕ) (s : Site) → Spans high s → Within (high + 1) (operator_step t kind w s)
    operator_within high Word w s h = continued_within high (listed t After w) s h
    operator_within high Symbol w s h = continued_within high (listed t After w) s h
    operator_within high Open w s h = tt
    operator_within high Close w s h = closed_within high s h

    step_within : (high : ℕ) (y : Yard) (x : Lexeme) → Within high y → Within (high + 1) (step t y x)
    step_within high (stands Operand s) x h = operand_within high x.kind x.bytes s h
    step_within high (stands Operator s) x h = operator_within high x.kind x.bytes s h
    step_within high (refused rack) x h = tt

    pub run_within : (xs : List Lexeme) (high : ℕ) (y : Yard) → Within high y → Within (high + length xs) (run t y xs)
    unfolding run
    run_within [] high y h = let e : high ≡ high + 0 = omega arith in subst (λ n. Within n y) e h
    run_within (x ∷ xs) high y h =
        let e : high + 1 + length xs ≡ high + length (x ∷ xs) = omega arith in subst (λ n. Within n (run t (step t y x) xs)) e (run_within xs (high + 1) (step t y x) (step_within high y x h))

-- the site that settling leaves
pub settled_spans : (t : Table) (o : Op) (s r : Site) → Ok r ≡ settled_at t o s → Spans s.mark (s.next + length s.waiting) r
settled_spans t o s r e =
    subst (Reaches s.mark (s.next + length s.waiting)) (sym e) (settled_within s.mark t (s.next + length s.waiting) o s (record { marked = refl; few = omega arith }))
