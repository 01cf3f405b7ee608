use Rattle.std.proofs.Common.{ap}
use Rattle.reading.specs.Waiting.{stacked}
use Rattle.reading.proofs.reader.Reader.clear.Goals as goal

pub returns : goal.returns
unfolding stacked
returns c = ap stacked c.clear.ensures.items
