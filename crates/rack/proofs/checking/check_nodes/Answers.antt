use Rattle.std.proofs.Common.{refl, arith}
use Rattle.std.proofs.lemmas.List.{length-take}
use Rattle.rack.specs.declared.node.Node.{Node}
use Rattle.rack.proofs.Keeping.{unsound_here}
use Rattle.rack.proofs.checking.check_nodes.Goals as goal

pub returns-then-ne : goal.returns-then-ne
returns-then-ne c = (
  record {
    up_to = omega (arith, length-take {A = Node});
    broken = unsound_here c.args.rack.now _ c.loop-place.place c.headed_size.result c.loop-place-test.true c.headed_size.ensures c.if-ne.ensures;
    earlier = c.loop-place.invariant;
  },
  refl,
)
