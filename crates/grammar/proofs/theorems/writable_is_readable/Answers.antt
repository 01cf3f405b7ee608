use Rattle.grammar.proofs.Writings.{writable_is_readable}
use Rattle.grammar.proofs.theorems.writable_is_readable.Goals as goal

pub returns : goal.returns
returns c = writable_is_readable
