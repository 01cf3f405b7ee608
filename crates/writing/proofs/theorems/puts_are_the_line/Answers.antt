use Rattle.writing.proofs.PutBytes.{puts_are_the_line}
use Rattle.writing.proofs.theorems.puts_are_the_line.Goals as goal

pub returns : goal.returns
returns c = puts_are_the_line
