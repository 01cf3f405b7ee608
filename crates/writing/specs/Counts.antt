-- The holdings of the outlet that counts.
use Rattle.std.proofs.Common.{rules}
use Rattle.std.proofs.lemmas.Grind.{common_steps}
use Rattle.std.specs.Prelude.{ℕ, ◌+◌, Bool, ◌&&◌, List, length, Some, None, nat_le, if◌then◌else◌}
use Rattle.writing.specs.declared.put_kind.PutKind.{PutKind}
use Rattle.writing.specs.Outlets.{longest, closed, Rule, OutletLaws}

-- the numbers of Puts, of bytes and of pairs
pub record Counts : Type 0 where
  pub puts : ℕ
  pub bytes : ℕ
  pub pairs : ℕ

-- A Put of a lawful length is refused exactly if its bytes would pass 1,000,000.
abbrev pub fits_counts : Counts → PutKind → List ℕ → Bool
fits_counts h kind bytes =
    nat_le 1 (length bytes) && nat_le (length bytes) (longest kind) && nat_le (h.bytes + length bytes) 1000000

abbrev pub count_rule : Rule Counts
count_rule h kind bytes =
    if fits_counts h kind bytes then Some (record { puts = h.puts + 1; bytes = h.bytes + length bytes; pairs = h.pairs + closed kind }) else None

pub count_laws : OutletLaws Counts count_rule (λ h. h.pairs)
count_laws = record {
  lengths = λ h after kind bytes e. grind (rules, common_steps);
  pairs = λ h after kind bytes e. grind (rules, common_steps);
}
