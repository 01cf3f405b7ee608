use Rattle.grammar.proofs.Writings.{writes_fewest}
use Rattle.grammar.proofs.theorems.writes_fewest.Goals as goal

pub returns : goal.returns
returns c = writes_fewest
