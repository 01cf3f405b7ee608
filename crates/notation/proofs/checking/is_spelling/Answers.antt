use Rattle.std.proofs.Common.{◌∷◌, refl, ap, ◌∙◌, inl, inr, ⊎_elim}
use Rattle.std.proofs.lemmas.Bool.{false≢true, eqb-true}
use Rattle.tokens.specs.declared.token.Token.{Token}
use Rattle.tokens.specs.Cutters.{ahead}
use Rattle.tokens.specs.Tokens.{placed}
use Rattle.notation.proofs.Spellings.{no_token, not_whole, bracket, symbol_decides}
use Rattle.notation.proofs.checking.is_spelling.Goals as goal

pub returns-in_default : goal.returns-in_default
returns-in_default c = (λ never. absurd (false≢true never), λ s. absurd (no_token _ _ c.new-tokens.ensures.tokens c.in_default.ensures.steps s))

pub returns-in-Symbol : goal.returns-in-Symbol
returns-in-Symbol c =
    let first = c.in-Some.ensures.steps ∙ ap (λ (t : Token). placed t ∷ ahead c.next.new.self) c.in-Symbol.is in
    symbol_decides _ _ c.new-tokens.ensures.tokens _ _ first c.if-bytes-gt-MAX_SPELLING_BYTES.false refl

pub returns-else-word-bytes : goal.returns-else-word-bytes
returns-else-word-bytes c =
    let first = c.in-Some.ensures.steps ∙ ap (λ (t : Token). placed t ∷ ahead c.next.new.self) c.in-Word.is in
    let short = c.if-word-bytes.false in
    (λ e. absurd (short (eqb-true _ _ e)), λ s. absurd (not_whole _ _ c.new-tokens.ensures.tokens _ _ first short s))

pub returns-in-Open : goal.returns-in-Open
returns-in-Open c =
    let kind = ⊎_elim (λ (_, _, e). inl (ap (λ (t : Token). (placed t).kind) e)) (λ (_, _, e). inr (ap (λ (t : Token). (placed t).kind) e)) c.in-Open.is in
    (λ never. absurd (false≢true never), λ s. absurd (bracket _ _ c.new-tokens.ensures.tokens _ _ c.in-Some.ensures.steps kind s))
