-- Spellings and their first bytes. Assumes nothing.
use Rattle.std.proofs.Common.{◌≡◌, ℕ, ◌<◌, ◌≤◌, List, length, get_or, take, ap, ⊎_elim, arith}
use Rattle.std.proofs.lemmas.List.{get_or-take, length-take-le}
use Rattle.std.proofs.lemmas.Bool.{cases_lt}
use Rattle.notation.specs.declared.entry.Entry.{Entry}
use Rattle.notation.specs.declared.form.Position.{Position}
use Rattle.notation.specs.Operators.{Spelling}
use Rattle.notation.specs.Slots.{op_in}
use Rattle.notation.specs.Tables.{Table, Listed, LawfulTable}

pub spelling_some : (s : List ℕ) → Spelling s → 0 < length s
spelling_some s h = ⊎_elim (λ k. k.some) (λ k. k.0.some) h.token

module _ (t : Table) (lawful : LawfulTable t) where
  pub none_empty : (p : Position) (s : List ℕ) → length s ≡ 0 → (g : ℕ) → Listed t p s g → ⊥
  none_empty p s empty g is = omega (arith, spelling_some is.op.spelling (lawful.each g is.op is.has).spelling, ap length is.spelt)

-- the first byte of an entry
pub entry_first : (e : Entry) → Spelling (op_in e).spelling → get_or (op_in e).spelling 0 0 ≡ get_or e.bytes 0 0
entry_first e s = ⊎_elim (λ lt. get_or-take e.length e.bytes 0 0 lt) (λ zero. absurd (none zero)) (cases_lt 0 e.length)
  where
    none : e.length ≤ 0 → ⊥
    none zero = let size = length-take-le e.length e.bytes (omega arith) in omega (arith, spelling_some (take e.length e.bytes) s)
