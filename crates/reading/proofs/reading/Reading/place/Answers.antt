use Rattle.notation.specs.Operators.{meant}
use Rattle.reading.specs.Yard.{site_of}
use Rattle.reading.proofs.Stacks.{room_kept}
use Rattle.reading.proofs.reading.Reading.place.Goals as goal

pub cover-requires : goal.cover-requires
cover-requires g c = room_kept (g.N.Notation.table c.args.self.now.notation.now) (meant c.in_ok-operator.operator) (site_of c.args.self.now) (site_of c.settle.new.self) c.in_ok-settle.ensures.state c.requires

pub wait-requires : goal.wait-requires
wait-requires g c = room_kept (g.N.Notation.table c.args.self.now.notation.now) (meant c.in_ok-operator.operator) (site_of c.args.self.now) (site_of c.settle.new.self) c.in_ok-settle.ensures.state c.requires
