use Rattle.std.proofs.Common.{◌≡◌, ℕ, ◌<◌, length, get_or, None, Option, sym, refl, ap, ◌∙◌, subst, arith, rules}
use Rattle.std.specs.Option.{option_map}
use Rattle.std.proofs.lemmas.List.{get_or_default}
use Rattle.std.proofs.lemmas.Bool.{both_ways}
use Rattle.notation.specs.declared.entry.Entry.{Entry}
use Rattle.notation.specs.Slots.{op_in}
use Rattle.notation.specs.Tables.{is_listed}
use Rattle.notation.specs.Views.{sealed_table}
use Rattle.notation.specs.Laws.{lawful_in}
use Rattle.notation.proofs.Chained.{along_end, along_within, along_begins, along_more, ahead, along_less}
use Rattle.notation.specs.LookupsLemmas.{test_listed, listed_test, is_listed_lem, listed_none, inside}
use Rattle.notation.proofs.Seals.{none_empty}
use Rattle.notation.proofs.list.SealedList.find.Goals as goal

pub returns-in_err-first : goal.returns-in_err-first
returns-in_err-first c =
    let l = c.args.self.now in
    let p = c.args.position in
    let s = c.args.spelling.now in
    let none = c.in_err-first.ensures.value in
    let empty : length s ≡ 0 = search rules in
    rw c.from_residual.ensures (sym (listed_none (sealed_table l) p s (none_empty (sealed_table l) (lawful_in (sealed_table l) l.list.lawful) p s empty)))

pub listed : goal.listed
listed c =
    let l = c.args.self.now in
    let s = c.args.spelling.now in
    let here = rw c.in-Some.is at c.loop-next.invariant in
    let below = along_within (sealed_table l) c.args.position s (get_or s 0 0) refl c.in-Some.function here in
    let slot : c.from-slot.result < 64 = omega (arith, below, c.from-slot.ensures) in
    search rules

pub bounds-self-slot : goal.bounds-self-slot
bounds-self-slot c =
    let l = c.args.self.now in
    let s = c.args.spelling.now in
    let here = rw c.in-Some.is at c.loop-next.invariant in
    let below = along_within (sealed_table l) c.args.position s (get_or s 0 0) refl c.in-Some.function here in
    omega (arith, below, c.from-slot.ensures)

pub returns-then-slot_lists : goal.returns-then-slot_lists
returns-then-slot_lists c =
    let l = c.args.self.now in
    let t = sealed_table l in
    let p = c.args.position in
    let s = c.args.spelling.now in
    let here = rw c.in-Some.is at c.loop-next.invariant in
    let below = along_within t p s (get_or s 0 0) refl c.in-Some.function here in
    let slot : c.from-slot.result < 64 = omega (arith, below, c.from-slot.ensures) in
    let within : c.from-slot.result < length l.list.slots = search rules in
    let filled = get_or_default l.list.slots c.from-slot.result None c.index-self-slot.result within in
    let is = test_listed t p s c.from-slot.result (ap (λ (o : Option Entry). is_listed p s (option_map op_in o)) filled ∙ sym c.if-slot_lists.ensures) in
    rw (← c.from-slot.ensures) (sym (is_listed_lem t p s (lawful_in t l.list.lawful) c.from-slot.result is))

pub bounds-self-slot-in-Some : goal.bounds-self-slot-in-Some
bounds-self-slot-in-Some c =
    let l = c.args.self.now in
    let s = c.args.spelling.now in
    let here = rw c.in-Some.is at c.loop-next.invariant in
    let below = along_within (sealed_table l) c.args.position s (get_or s 0 0) refl c.in-Some.function here in
    omega (arith, below, c.from-slot.ensures)

-- the search goes on with the next function that begins as the spelling does
pub loop-next-smaller : goal.loop-next-smaller
loop-next-smaller c =
    let l = c.args.self.now in
    let t = sealed_table l in
    let p = c.args.position in
    let s = c.args.spelling.now in
    let f = c.in-Some.function in
    let here = rw c.in-Some.is at c.loop-next.invariant in
    let begins = along_begins t p s (get_or s 0 0) refl f here in
    let less = along_less t p s (get_or s 0 0) refl f here (get_or l.nexts c.from-slot.result None) (ap (λ g. get_or l.nexts g None) c.from-slot.ensures ∙ l.next f (get_or s 0 0) begins) in
    subst (λ (n : Option ℕ). ahead (get_or l.nexts c.from-slot.result None) < ahead n) (sym c.in-Some.is) less

pub loop-next-preserved : goal.loop-next-preserved
loop-next-preserved c =
    let l = c.args.self.now in
    let t = sealed_table l in
    let p = c.args.position in
    let s = c.args.spelling.now in
    let f = c.in-Some.function in
    let here = rw c.in-Some.is at c.loop-next.invariant in
    let below = along_within t p s (get_or s 0 0) refl f here in
    let slot : c.from-slot.result < 64 = omega (arith, below, c.from-slot.ensures) in
    let within : c.from-slot.result < length l.list.slots = search rules in
    let filled = get_or_default l.list.slots c.from-slot.result None c.index-self-slot.result within in
    let unlisted = ap (λ (o : Option Entry). is_listed p s (option_map op_in o)) filled ∙ sym c.if-slot_lists.ensures in
    let begins = along_begins t p s (get_or s 0 0) refl f here in
    along_more t p s (get_or s 0 0) refl f here
    (λ is. both_ways (is_listed p s (t c.from-slot.result)) unlisted (ap (λ g. is_listed p s (t g)) c.from-slot.ensures ∙ listed_test t p s f is))
    _ (ap (λ g. get_or l.nexts g None) c.from-slot.ensures ∙ l.next f (get_or s 0 0) begins)

pub returns : goal.returns
returns c =
    let l = c.args.self.now in
    let t = sealed_table l in
    let p = c.args.position in
    let s = c.args.spelling.now in
    let end = rw c.in_default.is at c.loop-next.invariant in
    sym (listed_none t p s (λ g is. along_end t p s (get_or s 0 0) refl end g (inside t (lawful_in t l.list.lawful) g is.op is.has) is))
