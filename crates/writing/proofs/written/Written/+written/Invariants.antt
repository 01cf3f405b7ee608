use Rattle.std.proofs.Common.{◌+◌, ◌*◌}
use Rattle.writing.proofs.written.Written.+written.Given as goal

abbrev pub decreases-put_operand : goal.decreases-put_operand
decreases-put_operand g l = 2 * l.at + 1

abbrev pub decreases-put_tree : goal.decreases-put_tree
decreases-put_tree g l = 2 * l.at
