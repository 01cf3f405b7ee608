-- One turn of the reader's loops is one step of the machine in the rack. Assumes nothing.
use Rattle.std.proofs.Common.{◌≡◌, ℕ, ◌+◌, List, [], ◌∷◌, Some, None, Option, Ok, refl, ap, ◌∙◌, arith}
use Rattle.notation.specs.Operators.{Op}
use Rattle.notation.specs.Tables.{Table}
use Rattle.grammar.specs.declared.due.Due.TheVariants.{Operator}
use Rattle.grammar.specs.declared.taker.Taker.{Taker}
use Rattle.rack.specs.declared.node.Node.{Node}
use Rattle.reading.specs.Waiting.{Waits, first, rest, last_function}
use Rattle.reading.specs.Waiting.Waits.{bracket, operator}
use Rattle.reading.specs.Yard.{Site, site, shut, shut_at, taker_of, decided, covered, settled, unwound, covered_at, below, unwound_at, settled_at}
use Rattle.reading.specs.Yard.Yard.{stands}

module _ (mark : ℕ) where
  unwound_rest : (k : List Waits) (f : ℕ) (rack : List Node) (n : ℕ) → last_function k ≡ Some f → unwound mark k rack n ≡ unwound mark (rest k) (covered mark f (rest k) rack n) (n + 1)
  unfolding unwound
  unwound_rest [] f rack n e = let z : ◌≡◌ {A = ℕ} 0 1 = cc in absurd (omega arith)
  unwound_rest (bracket m ∷ k) f rack n e = let z : ◌≡◌ {A = ℕ} 0 1 = cc in absurd (omega arith)
  unwound_rest (operator g m ∷ k) f rack n e = let same : g ≡ f = cc in ap (λ h. unwound mark k (covered mark h k rack n) (n + 1)) same

  unwound_here : (k : List Waits) (rack : List Node) (n : ℕ) → last_function k ≡ None → unwound mark k rack n ≡ site mark k rack n
  unfolding unwound
  unwound_here [] rack n e = refl
  unwound_here (bracket m ∷ k) rack n e = refl
  unwound_here (operator g m ∷ k) rack n e = let z : ◌≡◌ {A = ℕ} 0 1 = cc in absurd (omega arith)

  settled_rest : (t : Table) (o : Op) (v : Option Taker) (k : List Waits) (f : ℕ) (rack : List Node) (n : ℕ) → last_function k ≡ Some f → v ≡ taker_of (t f) o → settled mark t o k rack n ≡ decided v (settled mark t o (rest k) (covered mark f (rest k) rack n) (n + 1)) (site mark k rack n)
  unfolding settled
  settled_rest t o v [] f rack n e d = let z : ◌≡◌ {A = ℕ} 0 1 = cc in absurd (omega arith)
  settled_rest t o v (bracket m ∷ k) f rack n e d = let z : ◌≡◌ {A = ℕ} 0 1 = cc in absurd (omega arith)
  settled_rest t o v (operator g m ∷ k) f rack n e d =
      let same : g ≡ f = cc in
      ap (λ h. decided (taker_of (t h) o) (settled mark t o k (covered mark h k rack n) (n + 1)) (site mark (operator g m ∷ k) rack n)) same
      ∙ ap (λ (w : Option Taker). decided w (settled mark t o k (covered mark f k rack n) (n + 1)) (site mark (operator g m ∷ k) rack n)) (cc)

  settled_here : (t : Table) (o : Op) (k : List Waits) (rack : List Node) (n : ℕ) → last_function k ≡ None → settled mark t o k rack n ≡ Ok (site mark k rack n)
  unfolding settled
  settled_here t o [] rack n e = refl
  settled_here t o (bracket m ∷ k) rack n e = refl
  settled_here t o (operator g m ∷ k) rack n e = let z : ◌≡◌ {A = ℕ} 0 1 = cc in absurd (omega arith)

  unwound_no_operator : (k : List Waits) (rack : List Node) (n : ℕ) → last_function (unwound mark k rack n).waiting ≡ None
  unfolding unwound
  unwound_no_operator [] rack n = refl
  unwound_no_operator (bracket m ∷ k) rack n = refl
  unwound_no_operator (operator g m ∷ k) rack n = unwound_no_operator k (covered mark g k rack n) (n + 1)

  shut_bracket : (k : List Waits) (w : Waits) (rack : List Node) (n : ℕ) → last_function k ≡ None → first k ≡ Some w → shut mark k rack n ≡ stands Operator (site mark (rest k) rack n)
  shut_bracket [] w rack n e f = let z : ◌≡◌ {A = ℕ} 0 1 = cc in absurd (omega arith)
  shut_bracket (bracket m ∷ k) w rack n e f = refl
  shut_bracket (operator g m ∷ k) w rack n e f = let z : ◌≡◌ {A = ℕ} 0 1 = cc in absurd (omega arith)

-- `)` where something waits since all operators took their operands: it is a bracket
pub shut_below : (s r : Site) (w : Waits) → r ≡ unwound_at s → first r.waiting ≡ Some w → shut_at r ≡ stands Operator (below r)
shut_below s r w e f = shut_bracket r.mark r.waiting w r.rack r.next (ap (λ (v : Site). last_function v.waiting) e ∙ unwound_no_operator s.mark s.waiting s.rack s.next) f

pub unwound_more : (s : Site) (f : ℕ) → last_function s.waiting ≡ Some f → unwound_at s ≡ unwound_at (covered_at f (below s))
unwound_more s f e = unwound_rest s.mark s.waiting f s.rack s.next e

pub unwound_end : (s : Site) → last_function s.waiting ≡ None → unwound_at s ≡ s
unwound_end s e = unwound_here s.mark s.waiting s.rack s.next e

-- the operator on top, by who takes the operand
pub settled_by : (t : Table) (o : Op) (v : Option Taker) (s : Site) (f : ℕ) → last_function s.waiting ≡ Some f → v ≡ taker_of (t f) o → settled_at t o s ≡ decided v (settled_at t o (covered_at f (below s))) s
settled_by t o v s f e d = settled_rest s.mark t o v s.waiting f s.rack s.next e d

pub settled_end : (t : Table) (o : Op) (s : Site) → last_function s.waiting ≡ None → settled_at t o s ≡ Ok s
settled_end t o s e = settled_here s.mark t o s.waiting s.rack s.next e
