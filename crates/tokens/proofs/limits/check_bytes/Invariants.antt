use Rattle.std.proofs.Common.{take}
use Rattle.std.specs.List.{AllByRecursion}
use Rattle.tokens.specs.Limits.{Lawful}
use Rattle.tokens.proofs.limits.check_bytes.Given as goal

abbrev pub invariant-loop-place : goal.invariant-loop-place
invariant-loop-place l = AllByRecursion Lawful (take l.place l.text)
