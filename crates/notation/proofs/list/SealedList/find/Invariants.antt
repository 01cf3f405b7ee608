use Rattle.std.proofs.Common.{get_or}
use Rattle.notation.specs.Views.{sealed_table}
use Rattle.notation.proofs.Chained.{Along, ahead}
use Rattle.notation.proofs.list.SealedList.find.Given as goal

abbrev pub invariant-loop-next : goal.invariant-loop-next
invariant-loop-next l = Along (sealed_table l.self) l.position l.spelling (get_or l.spelling 0 0) l.next

abbrev pub decreases-loop-next : goal.decreases-loop-next
decreases-loop-next l = ahead l.next
