use Rattle.grammar.proofs.Completeness.{machine_finds_all}
use Rattle.grammar.proofs.theorems.machine_finds_all.Goals as goal

pub returns : goal.returns
returns c = machine_finds_all
