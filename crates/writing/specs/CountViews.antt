-- What an outlet that counts holds.
use Rattle.writing.specs.declared.counting_outlet.Tally.{Tally}
use Rattle.writing.specs.Counts.{Counts}

abbrev pub counts_of : Tally → Counts
counts_of t = record { puts = t.puts; bytes = t.bytes; pairs = t.pairs }
