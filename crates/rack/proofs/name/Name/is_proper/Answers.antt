use Rattle.std.proofs.Common.{◌≡◌, ℕ, Bool, List, length, MatchBool, sym, subst, arith}
use Rattle.std.specs.List.{AllByRecursion}
use Rattle.tokens.specs.Tokens.{WellFormed}
use Rattle.tokens.specs.declared.token.TokenKind.TheVariants.{Word}
use Rattle.rack.specs.Names.{ProperName}
use Rattle.rack.proofs.Words.{IsZero, proper_if_word, proper_no_word}
use Rattle.rack.proofs.name.Name.is_proper.Goals as goal

pub returns-then-is_word : goal.returns-then-is_word
returns-then-is_word c =
    let long : length c.args.self.now.bytes ≡ 16 = omega arith in
    let word = subst (WellFormed Word) c.split_at.ensures.front c.if-is_word.ensures in
    let rest = subst (λ (xs : List ℕ). MatchBool c.are_zeros.result (AllByRecursion IsZero xs) (AllByRecursion IsZero xs → ⊥)) c.split_at.ensures.back c.are_zeros.ensures in
    proper_if_word c.args.self.now c.word_len.result long c.word_len.ensures.within c.word_len.ensures.spelt c.are_zeros.result word rest

pub returns-else-is_word : goal.returns-else-is_word
returns-else-is_word c =
    let long : length c.args.self.now.bytes ≡ 16 = omega arith in
    let other = subst (λ (xs : List ℕ). WellFormed Word xs → ⊥) c.split_at.ensures.front c.if-is_word.ensures in
    let not-proper = proper_no_word c.args.self.now c.word_len.result long c.word_len.ensures.within c.word_len.ensures.spelt other in
    subst (λ (r : Bool). MatchBool r (ProperName c.args.self.now) (ProperName c.args.self.now → ⊥)) (sym c.if-is_word.false) not-proper
