use Rattle.grammar.proofs.Texts.{spaced_tokens_read}
use Rattle.grammar.proofs.theorems.spaced_tokens_read.Goals as goal

pub returns : goal.returns
returns c = spaced_tokens_read
