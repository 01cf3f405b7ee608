use Rattle.std.proofs.Common.{◌<◌, ◌≤◌, length, ap, ◌∙◌, arith}
use Rattle.rack.proofs.Valuing.{stored_more, stored_all}
use Rattle.rack.proofs.reckoning.store_values.Goals as goal

pub loop-place-preserved : goal.loop-place-preserved
loop-place-preserved g c =
    let i = c.loop-place.place in
    let nodes = c.tree.inside.nodes.now in
    let lt : i < length nodes = omega arith in
    let room : i < length c.loop-place.values = omega (arith, ap length c.tree.view_is) in
    stored_more (g.R.Rules.meaning c.args.rules.now) nodes c.args.values.now c.loop-place.values i c.next_value.result c.loop-place.invariant lt room (c.tree.invariant i lt) c.next_value.ensures

pub returns : goal.returns
returns g c t proper is =
    let i = c.loop-place.place in
    let nodes = c.tree.inside.nodes.now in
    let end : length nodes ≤ i = omega arith in
    let within : i ≤ length nodes = omega arith in
    stored_all (g.R.Rules.meaning c.args.rules.now) nodes c.args.values.now c.loop-place.values i c.loop-place.invariant end within t proper (c.tree.view_is ∙ is)
