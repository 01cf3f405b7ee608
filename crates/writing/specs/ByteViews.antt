-- What the outlet that holds its bytes holds and keeps.
use Rattle.std.specs.Prelude.{take}
use Rattle.writing.specs.declared.byte_outlet.ByteOutlet.{ByteOutlet}
use Rattle.writing.specs.ByteHoldings.{ByteHolding}

abbrev pub holding : ByteOutlet → ByteHolding
holding o = record { bytes = o.bytes.items; pairs = o.pairs; room = o.room }

abbrev pub kept : ByteOutlet → ByteHolding
kept o = record { bytes = take o.kept.bytes o.bytes.items; pairs = o.kept.pairs; room = o.room }
