use Rattle.notation.specs.Rows.{ladder_table}
use Rattle.notation.proofs.ladder.LadderNotation.operator.Goals as goal

pub returns : goal.returns
unfolding ladder_table
returns c = c.ladder_operator.ensures
