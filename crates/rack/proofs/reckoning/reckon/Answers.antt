use Rattle.std.proofs.Common.{List, length, sym, subst, arith}
use Rattle.rack.specs.declared.node.Node.{Node}
use Rattle.rack.specs.Racks.{SoundBelow}
use Rattle.rack.specs.Reckoning.{ValueOf, Valued}
use Rattle.rack.proofs.Answering.{rooted_size, rooted_part, rooted_only}
use Rattle.rack.proofs.Postorder.{proper_tree}
use Rattle.rack.proofs.Valuing.{sound_alone, reckoned, value_one}
use Rattle.rack.proofs.reckoning.reckon.Goals as goal

pub invariant_of-tree : goal.invariant_of-tree
invariant_of-tree g c =
    let rooted = c.in_ok-size.ensures.tree in
    let tree = rooted.tree in
    let l = rooted.lies.is in
    let part = rooted_part c.args.rack.now c.args.fill.now.used c.args.root c.in_ok-size.size rooted tree l in
    subst (λ (ns : List Node). SoundBelow ns (length ns)) (sym part) (sound_alone tree (proper_tree c.args.rack.now c.args.root tree l))

pub returns : goal.returns
returns g c =
    let m = g.R.Rules.meaning c.args.rules.now in
    let rack = c.args.rack.now in
    let used = c.args.fill.now.used in
    let root = c.args.root in
    let n = c.in_ok-size.size in
    let rooted = c.in_ok-size.ensures.tree in
    let stored : Valued m rack root c.args.values.now c.store_values.new.values = λ tree l. c.store_values.ensures tree (proper_tree rack root tree l) (rooted_part rack used root n rooted tree l) in
    record {
      answer = rooted_only rack used root n rooted (ValueOf m (length c.args.values.now)) (value_one m (length c.args.values.now)) _ (λ tree l.
          reckoned m tree c.args.values.now c.store_values.new.values n c.index-values-size.result (rooted_size rack used root n rooted tree l) (stored tree l) c.index-values-size.is (omega arith));
      values = stored;
    }
