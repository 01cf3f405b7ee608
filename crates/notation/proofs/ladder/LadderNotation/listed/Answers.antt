use Rattle.std.proofs.Common.{sym, refl, ◌∙◌}
use Rattle.notation.specs.Rows.{ladder_rows, ladder_table}
use Rattle.notation.specs.RowsLemmas.{rows_listed}
use Rattle.notation.proofs.ladder.LadderNotation.listed.Goals as goal

pub returns : goal.returns
unfolding ladder_table
returns c = c.ladder_listed.ensures ∙ sym (rows_listed c.args.position c.args.spelling.now ladder_rows refl)
