use Rattle.rack.proofs.Valuing.{Stored}
use Rattle.rack.proofs.reckoning.store_values.Given as goal

abbrev pub invariant-loop-place : goal.invariant-loop-place
invariant-loop-place g l = Stored (g.R.Rules.meaning l.rules) l.tree-inside.nodes.now l.initial.values l.values l.place
