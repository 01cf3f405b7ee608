-- The table of a notation of either kind.
use Rattle.notation.specs.Rows.{ladder_table}
use Rattle.notation.specs.Tables.{Table}
use Rattle.notation.specs.Views.{sealed_table}
use Rattle.plan.specs.declared.any_notation.AnyNotation.{AnyNotation}
use Rattle.plan.specs.declared.any_notation.AnyNotation.TheVariants.{Ladder, Declared}

abbrev pub any_table : AnyNotation → Table
any_table (Ladder l) = ladder_table
any_table (Declared l) = sealed_table l
