use Rattle.notation.specs.Additions.{no_entries, nothing_lawful}
use Rattle.notation.proofs.list.OpenList.new.Goals as goal

pub invariant_of-result : goal.invariant_of-result
invariant_of-result c = record { lawful = ∣ nothing_lawful _ (no_entries 64) ∣₁ }

pub returns : goal.returns
returns c = no_entries 64
