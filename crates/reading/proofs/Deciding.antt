-- The decision between two neighbours obeys the law of the grammar.
use Rattle.std.proofs.Common.{◌≡◌, Option, sym, subst}
use Rattle.tokens.specs.InOrder.{Only}
use Rattle.notation.specs.Operators.{Op}
use Rattle.grammar.specs.declared.taker.Taker.{Taker}
use Rattle.grammar.specs.Neighbours.{Takes, taker}
use Rattle.grammar.proofs.Takers.{neighbours_decided}
use Rattle.reading.specs.Between.{DecidedByLaw}

-- the decision is the one that the law has
pub decided_by_law : (u o : Op) (v : Option Taker) → v ≡ taker u o → DecidedByLaw u o v
decided_by_law u o v e t lawful f g d h = subst (Only (Takes u o)) (sym e) (neighbours_decided t lawful f g u o d h)
