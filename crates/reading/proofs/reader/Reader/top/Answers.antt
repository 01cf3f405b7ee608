use Rattle.std.proofs.Common.{ap, ◌∙◌}
use Rattle.std.specs.Option.{option_map}
use Rattle.reading.specs.Waiting.{waits_of, stacked, first}
use Rattle.reading.proofs.Stacks.{topped}
use Rattle.reading.proofs.reader.Reader.top.Goals as goal

pub returns : goal.returns
returns c = ap (option_map waits_of) c.copied.ensures ∙ topped _ _ c.last.ensures.item ∙ ap (λ l. first (stacked l)) c.deref.ensures.value
