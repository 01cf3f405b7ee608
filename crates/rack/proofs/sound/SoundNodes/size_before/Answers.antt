use Rattle.rack.proofs.Lying.{size_before}
use Rattle.rack.proofs.sound.SoundNodes.size_before.Goals as goal

pub returns : goal.returns
returns c = rw (← c.self.view_is) (size_before c.self.inside.nodes.now c.args.place c.in_ok-last.field-0.now (rw c.self.view_is c.requires) c.self.invariant c.in_ok-last.ensures.value)
