use Rattle.grammar.proofs.Partners.{unmatched_is_unmatched}
use Rattle.grammar.proofs.theorems.unmatched_is_unmatched.Goals as goal

pub returns : goal.returns
returns c = unmatched_is_unmatched
