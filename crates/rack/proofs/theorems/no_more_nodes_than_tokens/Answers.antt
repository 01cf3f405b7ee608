use Rattle.rack.proofs.Sizes.{no_more_nodes_than_tokens}
use Rattle.rack.proofs.theorems.no_more_nodes_than_tokens.Goals as goal

pub returns : goal.returns
returns c = no_more_nodes_than_tokens
