use Rattle.grammar.proofs.Soundness.{machine_finds_only_lawful}
use Rattle.grammar.proofs.theorems.machine_finds_only_lawful.Goals as goal

pub returns : goal.returns
returns c = machine_finds_only_lawful
