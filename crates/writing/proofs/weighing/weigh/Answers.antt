use Rattle.std.proofs.Common.{length}
use Rattle.writing.proofs.Answered.{shape_only}
use Rattle.writing.proofs.weighing.weigh.Goals as goal

pub returns-clause-answer : goal.returns-clause-answer
returns-clause-answer g c =
    shape_only c.args.rack.now c.args.fill.now.used c.args.root (g.N.Notation.table c.args.notation.now) (g.met.N.Notation.lawful c.args.notation.now) (length c.args.values.now)
    c.reckon.result c.reckon.ensures.answer.is
