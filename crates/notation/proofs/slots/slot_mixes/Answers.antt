use Rattle.std.proofs.Common.{◌≡◌, Bool, false, Some, None, Decides, MatchOption, Option, Bor, refl, sym, ◌∙◌, subst, rules}
use Rattle.std.specs.Option.{option_map, option_copied}
use Rattle.std.proofs.lemmas.Bool.{false≢true}
use Rattle.notation.specs.declared.entry.Entry.{Entry}
use Rattle.notation.specs.Operators.{Op}
use Rattle.notation.specs.Slots.{op_in}
use Rattle.notation.proofs.slots.slot_mixes.Goals as goal

-- a test of the operator in a slot, if it has one
slot_decides : (o : Option (Bor Entry)) (P : Op → Type 0) (r : Bool) {Q : Bor Entry → Type 0} → MatchOption o (r ≡ false) Q → ((e : Bor Entry) → Q e → Decides r (P (op_in e.now))) → Decides r ((q : Op) × (option_map op_in (option_copied o) ≡ Some q) × P q)
slot_decides None P r h f = (λ e. absurd (false≢true (sym h ∙ e)), λ it. let clash = it.1 in cc)
slot_decides (Some e) P r h f = (λ yes. (op_in e.now, refl, (f e h).0 yes), λ it. let same : op_in e.now ≡ it.0 = (let is = it.1 in cc) in (f e h).1 (subst P (sym same) it.2))

pub returns : goal.returns
returns c = rw (← c.as_ref.ensures.value) (slot_decides c.as_ref.result _ _ c.is_some_and.ensures (λ e k. search rules))
