use Rattle.std.proofs.Common.{rules, ◌≡◌, ◌∙◌, tests}
use Rattle.std.specs.List.{prefix_len}
use Rattle.std.proofs.lemmas.List.Folds.{length-prefix_len}
use Rattle.std.proofs.lemmas.List.Sums.{prefix_len-le-length}
use Rattle.std.proofs.lemmas.Iterator.{YieldsList-from_slice}
use Rattle.std.proofs.lemmas.Iterator.Consumers.{count_from_yields_List, YieldsList-at}
use Rattle.std.proofs.lemmas.Iterator.Search.{YieldsList-from_take_while}
use Rattle.tokens.specs.Tokens.{kind_of}
use Rattle.tokens.proofs.Runs.{is_of, front_alike, front_longest}
use Rattle.tokens.proofs.cutting.run_len.Goals as goal

pub returns : goal.returns
unfolding kind_of
returns c =
    let k = c.args.kind in
    let text = c.args.bytes.now in
    let n : c.count.result ≡ prefix_len (is_of k) text = count_from_yields_List c.take_while.result _ c.count.ensures.ran (YieldsList-from_take_while _ (is_of k) (YieldsList-at c.take_while.ensures.source (YieldsList-from_slice text cc)) c.take_while.ensures.closure c.take_while.ensures.done (λ x b q k. search (rules, tests))) ∙ length-prefix_len (is_of k) text in
    rw n (record { within = prefix_len-le-length (is_of k) text; alike = front_alike k text; longest = front_longest k text })
