use Rattle.reading.proofs.Stacks.{popped}
use Rattle.reading.proofs.reader.Reader.pop.Goals as goal

pub returns : goal.returns
returns c =
    let taken = popped c.pop.result _ _ _ _ c.pop.ensures.items c.args.self.now.pending.ok.0 c.pop.ensures.cases in
    record { answer = taken.0; after = taken.1 }
