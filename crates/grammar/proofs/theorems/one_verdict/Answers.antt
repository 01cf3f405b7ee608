use Rattle.grammar.proofs.Verdicts.{one_verdict}
use Rattle.grammar.proofs.theorems.one_verdict.Goals as goal

pub returns : goal.returns
returns c = one_verdict
