use Rattle.std.proofs.Common.{Bool, None, is_some, sym, ap, ◌∙◌}
use Rattle.rack.specs.declared.name.Name.{Name}
use Rattle.rack.specs.declared.node.Item.TheVariants as I
use Rattle.reading.specs.Yard.{site_of, added, begun}
use Rattle.reading.specs.Yard.Yard.{stands}
use Rattle.grammar.specs.declared.due.Due.TheVariants.{Operator}
use Rattle.reading.proofs.NameTests.{a_name, no_name_listed, no_name_long}
use Rattle.reading.proofs.reading.Reading.name.Goals as goal

pub returns-then-is_some-clause-state : goal.returns-then-is_some-clause-state
returns-then-is_some-clause-state g c =
    sym (ap (λ (b : Bool). begun c.args.word.now None b (site_of c.args.self.now))
    (no_name_listed (g.N.Notation.table c.args.self.now.notation.now) c.args.word.now (ap is_some (sym c.listed.ensures) ∙ sym c.if-is_some.ensures)))

pub returns-in_err-new-clause-state : goal.returns-in_err-new-clause-state
returns-in_err-new-clause-state g c =
    rw c.from_residual.ensures (sym (ap (λ (b : Bool). begun c.args.word.now None b (site_of c.args.self.now))
    (no_name_long (g.N.Notation.table c.args.self.now.notation.now) c.args.word.now c.in_err-new.ensures)))

pub returns-clause-state : goal.returns-clause-state
returns-clause-state g c =
    let named = c.in_ok-new.ensures in
    let short = a_name (g.N.Notation.table c.args.self.now.notation.now) c.args.word.now c.requires.unlisted (ap is_some (sym c.listed.ensures) ∙ sym c.if-is_some.ensures) named.0 in
    ap (stands Operator) (c.put.ensures.state ∙ ap (λ (m : Name). added (record { item = I.Name m; size = 1 }) (site_of c.args.self.now)) named.1)
    ∙ sym (ap (λ (b : Bool). begun c.args.word.now None b (site_of c.args.self.now)) short)
