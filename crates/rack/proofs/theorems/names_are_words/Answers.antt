use Rattle.rack.proofs.Words.{spelt_padded, spelt_name}
use Rattle.rack.proofs.theorems.names_are_words.Goals as goal

pub returns : goal.returns
returns c = record { words = spelt_padded; names = spelt_name }
