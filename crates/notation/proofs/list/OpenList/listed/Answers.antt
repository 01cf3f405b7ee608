use Rattle.std.proofs.Common.{◌≡◌, ◌<◌, length, true, false, None, Option, sym, arith, rules, tests}
use Rattle.std.specs.Option.{option_map}
use Rattle.std.proofs.lemmas.Bool.{both_ways}
use Rattle.std.proofs.lemmas.Iterator.{IsFirst-from_position, YieldsList-from_slice}
use Rattle.std.proofs.lemmas.Option.{MatchOption-at_none, MatchOption-at_some}
use Rattle.notation.specs.declared.entry.Entry.{Entry}
use Rattle.notation.specs.Laws.{lawful_in}
use Rattle.notation.specs.LookupsLemmas.{test_listed, listed_test, is_listed_lem, listed_none, inside}
use Rattle.notation.specs.Slots.{op_in}
use Rattle.notation.specs.Tables.{is_listed}
use Rattle.notation.specs.Views.{open_table}
use Rattle.notation.proofs.list.OpenList.listed.Goals as goal

pub returns-in_err-function : goal.returns-in_err-function
returns-in_err-function c =
    let list = c.args.self.now in
    let t = open_table list in
    let p = c.args.position in
    let s = c.args.spelling.now in
    let first = IsFirst-from_position _ _ c.position.result (λ (o : Option Entry). is_listed p s (option_map op_in o) ≡ true) (λ (o : Option Entry). is_listed p s (option_map op_in o) ≡ false) c.position.ensures.ran (YieldsList-from_slice list.slots cc) (λ x q k. search (rules, tests)) (λ x q k. search (rules, tests)) in
    let none = MatchOption-at_none _ _ c.in_err-function.was first in
    rw c.from_residual.ensures
    (sym
    (listed_none t p s
    (λ g is.
    let below : g < 64 = inside t (lawful_in t list.lawful) g is.op is.has in
    let within : g < length list.slots = search rules in
    both_ways (is_listed p s (t g)) (none g None (omega arith) within) (listed_test t p s g is))))

pub returns : goal.returns
returns c =
    let list = c.args.self.now in
    let t = open_table list in
    let p = c.args.position in
    let s = c.args.spelling.now in
    let first = IsFirst-from_position _ _ c.position.result (λ (o : Option Entry). is_listed p s (option_map op_in o) ≡ true) (λ (o : Option Entry). is_listed p s (option_map op_in o) ≡ false) c.position.ensures.ran (YieldsList-from_slice list.slots cc) (λ x q k. search (rules, tests)) (λ x q k. search (rules, tests)) in
    let at = MatchOption-at_some _ _ _ c.in_ok-function.was first in
    sym (is_listed_lem t p s (lawful_in t list.lawful) c.in_ok-function.function (test_listed t p s c.in_ok-function.function (at.1 None)))
