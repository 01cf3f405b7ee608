use Rattle.grammar.proofs.Stated.{machine_tells_due}
use Rattle.grammar.proofs.theorems.machine_tells_due.Goals as goal

pub returns : goal.returns
returns c = machine_tells_due
