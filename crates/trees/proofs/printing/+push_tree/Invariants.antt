use Rattle.std.proofs.Common.{length}
use Rattle.trees.proofs.printing.+push_tree.Given as goal

abbrev pub decreases-push_tree : goal.decreases-push_tree
decreases-push_tree l = length l.nodes.now
