use Rattle.grammar.proofs.Viability.{unrefused_is_live}
use Rattle.grammar.proofs.theorems.unrefused_is_live.Goals as goal

pub returns : goal.returns
returns c = unrefused_is_live
