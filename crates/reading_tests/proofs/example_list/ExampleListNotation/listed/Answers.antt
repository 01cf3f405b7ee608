use Rattle.std.proofs.Common.{sym, refl, ◌∙◌}
use Rattle.notation.specs.RowsLemmas.{rows_listed}
use Rattle.grammar.specs.Examples.{example_rows}
use Rattle.reading_tests.proofs.example_list.ExampleListNotation.listed.Goals as goal

pub returns : goal.returns
returns c = c.function_listed.ensures ∙ sym (rows_listed c.args.position c.args.spelling.now example_rows refl)
