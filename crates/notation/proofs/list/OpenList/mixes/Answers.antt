use Rattle.std.proofs.Common.{◌≡◌, ℕ, ◌<◌, Bool, true, false, List, length, Some, None, Decides, MatchBool, Option, refl, arith, rules, tests}
use Rattle.std.specs.List.{AllWithin, HoldsAt}
use Rattle.std.specs.Option.{option_map}
use Rattle.std.proofs.lemmas.Bool.{false≢true}
use Rattle.std.proofs.lemmas.Iterator.{cases_from_any, YieldsList-from_slice}
use Rattle.notation.specs.declared.entry.Entry.{Entry}
use Rattle.notation.specs.Declarations.{Mixed, Mixes}
use Rattle.notation.specs.Laws.{lawful_in}
use Rattle.notation.specs.LookupsLemmas.{inside}
use Rattle.notation.specs.Operators.{Op}
use Rattle.notation.specs.Slots.{op_in, table_in}
use Rattle.notation.specs.Views.{open_table}
use Rattle.notation.proofs.list.OpenList.mixes.Goals as goal

abbrev MixesIn : Op → Option Entry → Type 0
MixesIn o slot = (q : Op) × (option_map op_in slot ≡ Some q) × Mixed o q

mixes_decides : (slots : List (Option Entry)) (o : Op) (r : Bool) → ((g : ℕ) (q : Op) → table_in slots g ≡ Some q → g < length slots) → MatchBool r ((k : ℕ) × (k < length slots) × HoldsAt (MixesIn o) slots k) (AllWithin (λ slot. MixesIn o slot → ⊥) slots 0 (length slots)) → Decides r ((g : ℕ) × Mixes (table_in slots) o g)
mixes_decides slots o true within (g, lt, at) = let it = at None in (λ _. (g, record { op = it.0; has = it.1; mixed = it.2 }), λ _. refl)
mixes_decides slots o false within none = (
  λ never. absurd (false≢true never),
  λ (g, it). absurd (none g None (omega arith) (within g it.op it.has) (it.op, it.has, it.mixed)),
)

pub returns : goal.returns
returns c =
    let list = c.args.self.now in
    let o = op_in c.args.entry.now in
    let any = cases_from_any _ _ c.any.result (MixesIn o) (λ (slot : Option Entry). MixesIn o slot → ⊥) c.any.ensures.ran (YieldsList-from_slice list.slots cc) (λ x q k. search (rules, tests)) (λ x q k. search (rules, tests)) in
    mixes_decides list.slots o c.any.result (λ g q has. let below : g < 64 = inside (open_table list) (lawful_in (open_table list) list.lawful) g q has in search rules) any
