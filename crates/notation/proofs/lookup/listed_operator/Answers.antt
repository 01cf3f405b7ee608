use Rattle.std.proofs.Common.{◌≡◌, ℕ, Some, None, sym, arith}
use Rattle.notation.specs.Operators.{meant}
use Rattle.notation.specs.Tables.{listed}
use Rattle.notation.specs.LookupsLemmas.{listed_is, none_listed, listed_only}
use Rattle.notation.proofs.lookup.listed_operator.Goals as goal

pub returns-in_err-function : goal.returns-in_err-function
returns-in_err-function g c =
    let t = g.N.Notation.table c.args.notation.now in
    let p = c.args.position in
    let s = c.args.spelling.now in
    let none : listed t p s ≡ None = sym c.in_err-function.ensures in
    rw c.from_residual.ensures (none_listed t p s (g.met.N.Notation.lawful c.args.notation.now) none)

-- a function that is listed has an operator
pub returns-in_err-operator : goal.returns-in_err-operator
returns-in_err-operator g c =
    let t = g.N.Notation.table c.args.notation.now in
    let p = c.args.position in
    let s = c.args.spelling.now in
    let f = c.in_ok-function.function in
    let found : listed t p s ≡ Some f = sym c.in_ok-function.ensures in
    let has = (listed_is t p s f found).has in
    let absent : None ≡ t f = c.in_err-operator.ensures in
    let z : ◌≡◌ {A = ℕ} 0 1 = cc (has, absent) in
    absurd (omega arith)

pub returns : goal.returns
returns g c =
    let t = g.N.Notation.table c.args.notation.now in
    let p = c.args.position in
    let s = c.args.spelling.now in
    let f = c.in_ok-function.function in
    let found : listed t p s ≡ Some f = sym c.in_ok-function.ensures in
    let has : Some (meant c.in_ok-operator.operator) ≡ t f = c.in_ok-operator.ensures in
    (listed_only t p s (g.met.N.Notation.lawful c.args.notation.now) f found, sym has)
