use Rattle.grammar.proofs.Viability.{texts_live_as_tokens}
use Rattle.grammar.proofs.theorems.texts_live_as_tokens.Goals as goal

pub returns : goal.returns
returns c = texts_live_as_tokens
