use Rattle.std.proofs.Common.{◌≡◌, ◌==◌, sym, ap, ◌∙◌, length, position, unwrap_or, arith, rules}
use Rattle.std.proofs.lemmas.Iterator.{YieldsList-from_slice}
use Rattle.std.proofs.lemmas.Iterator.Search.{position_from_yields_List}
use borrow.Author.Tests.{tests}
use Rattle.rack.proofs.Words.{word_begins}
use Rattle.rack.proofs.name.Name.word_len.Goals as goal

pub returns-clause-spelt : goal.returns-clause-spelt
returns-clause-spelt c =
    let bytes = c.args.self.now.bytes in
    let long : length bytes ≡ 16 = omega arith in
    let first : c.position.result ≡ position (λ b. b == 0) bytes = position_from_yields_List (λ b. b == 0) _ _ c.position.result c.position.ensures.ran (YieldsList-from_slice bytes cc) (λ x b q k. search (rules, tests)) in
    word_begins bytes c.unwrap_or.result (c.unwrap_or.ensures ∙ ap (λ o. unwrap_or o 16) first ∙ ap (unwrap_or (position (λ b. b == 0) bytes)) (sym long))
