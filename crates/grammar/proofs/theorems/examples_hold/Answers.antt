use Rattle.grammar.proofs.Shown.{examples_hold}
use Rattle.grammar.proofs.theorems.examples_hold.Goals as goal

pub returns : goal.returns
returns c = examples_hold
