use Rattle.rack.proofs.Answering.{rooted, size_only}
use Rattle.rack.proofs.checking.check_tree.Goals as goal

pub returns : goal.returns
returns c =
    let rack = c.args.rack.now in
    let used = c.args.fill.now.used in
    let root = c.args.root in
    let (in_use, within) = c.if-not-has_root.ensures in
    let sound = c.in_ok-check_nodes.ensures in
    record { answer = size_only rack used root in_use within sound; tree = rooted rack used root in_use within sound }
