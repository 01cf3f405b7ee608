use Rattle.std.proofs.Common.{◌≡◌, sym, refl, ◌∙◌, rules}
use Rattle.tokens.specs.declared.byte.ByteClass.TheVariants.{Unlawful}
use Rattle.tokens.proofs.Checks.{unlawful_at}
use Rattle.tokens.proofs.limits.check_bytes.Goals as goal

pub returns-then-eq : goal.returns-then-eq
returns-then-eq c =
    let is : c.of.result ≡ Unlawful = (let h = c.if-eq.ensures in search rules) in
    (unlawful_at c.args.text.now c.loop-place.place c.loop-place-test.true c.loop-place.invariant (sym c.of.ensures ∙ is), refl)
