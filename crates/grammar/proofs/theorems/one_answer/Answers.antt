use Rattle.grammar.proofs.Verdicts.{one_answer}
use Rattle.grammar.proofs.theorems.one_answer.Goals as goal

pub returns : goal.returns
returns c = one_answer
