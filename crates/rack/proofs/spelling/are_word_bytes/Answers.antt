use Rattle.std.proofs.Common.{◌≡◌, rules}
use Rattle.std.proofs.lemmas.Iterator.{cases_from_all, YieldsList-from_slice}
use borrow.Author.Tests.{tests}
use Rattle.tokens.specs.Bytes.{class_of}
use Rattle.tokens.specs.declared.byte.ByteClass.TheVariants as C
use Rattle.rack.proofs.Words.{all_in_words}
use Rattle.rack.proofs.spelling.are_word_bytes.Goals as goal

pub returns : goal.returns
returns c =
    all_in_words c.args.bytes.now c.all.result
    (cases_from_all _ _ c.all.result (λ b. class_of b ≡ C.Word) (λ b. class_of b ≡ C.Word → ⊥) c.all.ensures.ran (YieldsList-from_slice c.args.bytes.now cc) (λ x q k. search (rules, tests)) (λ x q k. search (rules, tests)))
