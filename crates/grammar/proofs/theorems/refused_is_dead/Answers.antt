use Rattle.grammar.proofs.Viability.{refused_is_dead}
use Rattle.grammar.proofs.theorems.refused_is_dead.Goals as goal

pub returns : goal.returns
returns c = refused_is_dead
