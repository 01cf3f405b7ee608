use Rattle.std.proofs.Common.{◌<◌, length, sym, ◌∙◌, subst, rules}
use Rattle.notation.specs.Declarations.{extended}
use Rattle.notation.specs.Slots.{op_in}
use Rattle.notation.specs.Tables.{LawfulTable}
use Rattle.notation.specs.Views.{open_table}
use Rattle.notation.specs.Additions.{set_entry, lawful_extended}
use Rattle.notation.specs.Laws.{lawful_in}
use Rattle.notation.proofs.Rules.{table_free}
use Rattle.notation.proofs.list.OpenList.put.Goals as goal

pub invariant_of-self : goal.invariant_of-self
invariant_of-self c =
    let list = c.args.self.now in
    let t = open_table list in
    let f = c.args.candidate.function in
    let e = c.args.candidate.entry in
    let within : c.from.result < length list.slots = search rules in
    let table = set_entry list.slots c.from.result e within ∙ (λ i. extended t (c.from.ensures i) (op_in e)) in
    record { lawful = ∣ subst LawfulTable (sym table) (lawful_extended t f (op_in e) (lawful_in t list.lawful) c.args.candidate.lawful (table_free t f (op_in e) c.requires)) ∣₁ }
