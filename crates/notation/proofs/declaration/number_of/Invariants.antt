use Rattle.std.proofs.Common.{◌≡◌, true, take}
use Rattle.std.specs.List.{AllByRecursion}
use Rattle.tokens.specs.Bytes.{is_digit}
use Rattle.notation.specs.Lines.{decimal}
use Rattle.notation.proofs.declaration.number_of.Given as goal

abbrev pub invariant-loop-digit : goal.invariant-loop-digit
invariant-loop-digit l = (l.value ≡ decimal (take l.digit-index l.digits)) × AllByRecursion (λ b. is_digit b ≡ true) (take l.digit-index l.digits)
