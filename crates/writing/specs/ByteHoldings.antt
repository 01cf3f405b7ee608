-- The holdings of the outlet that holds its bytes.
use Rattle.std.proofs.Common.{rules}
use Rattle.std.proofs.lemmas.Grind.{common_steps}
use Rattle.std.specs.Prelude.{ℕ, ◌+◌, ◌^◌, Bool, ◌&&◌, List, [], ◌++◌, length, Some, None, nat_le, if◌then◌else◌}
use Rattle.writing.specs.declared.put_kind.PutKind.{PutKind}
use Rattle.writing.specs.Outlets.{longest, closed, Rule, OutletLaws}

-- the bytes and their pairs, and the room for bytes, which stays as it is
pub record ByteHolding : Type 0 where
  pub bytes : List ℕ
  pub pairs : ℕ
  pub room : ℕ

-- A Put of a lawful length is refused exactly if its bytes would pass the room, or its pairs 2^40.
abbrev pub fits_bytes : ByteHolding → PutKind → List ℕ → Bool
fits_bytes h kind bytes =
    nat_le 1 (length bytes) && nat_le (length bytes) (longest kind) && nat_le (length h.bytes + length bytes) h.room && nat_le (h.pairs + closed kind) (2 ^ 40)

abbrev pub byte_rule : Rule ByteHolding
byte_rule h kind bytes =
    if fits_bytes h kind bytes then Some (record { bytes = h.bytes ++ bytes; pairs = h.pairs + closed kind; room = h.room }) else None

pub byte_laws : OutletLaws ByteHolding byte_rule (λ h. h.pairs)
byte_laws = record {
  lengths = λ h after kind bytes e. grind (rules, common_steps);
  pairs = λ h after kind bytes e. grind (rules, common_steps);
}

-- without its bytes
abbrev pub emptied : ByteHolding → ByteHolding
emptied h = record { bytes = []; pairs = h.pairs; room = h.room }
