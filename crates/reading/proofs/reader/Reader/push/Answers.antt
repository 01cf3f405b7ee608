use Rattle.std.proofs.Common.{arith}
use Rattle.reading.proofs.Stacks.{length-waiting, pushed}
use Rattle.reading.proofs.reader.Reader.push.Goals as goal

pub push_reserved-requires : goal.push_reserved-requires
push_reserved-requires c = omega (arith, c.requires, length-waiting c.args.self.now, c.args.self.now.reserved)

pub returns : goal.returns
returns c = pushed _ _ _ c.push_reserved.ensures.items
