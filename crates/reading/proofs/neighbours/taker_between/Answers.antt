use Rattle.std.proofs.Common.{Some, sym, arith}
use Rattle.notation.specs.Operators.{meant}
use Rattle.grammar.specs.declared.taker.Taker.TheVariants.{Left}
use Rattle.grammar.proofs.Takers.{taker_left}
use Rattle.reading.proofs.Deciding.{decided_by_law}
use Rattle.reading.proofs.neighbours.taker_between.Goals as goal

pub returns-then-left-left_limit-clause-law : goal.returns-then-left-left_limit-clause-law
returns-then-left-left_limit-clause-law c = decided_by_law (meant c.args.left) (meant c.args.right) (Some Left) (sym (taker_left (meant c.args.left) (meant c.args.right) (omega (arith, c.left_limit.ensures))))
