-- What a cutter still has to give.
use Rattle.std.specs.Prelude.{◌≡◌, List, [], ◌∷◌, Some, None, Option}
use Rattle.tokens.specs.declared.cutter.Cutter.{Cutter}
use Rattle.tokens.specs.declared.token.Token.{Token}
use Rattle.tokens.specs.Tokens.{Placed, placed, tokens_from}

-- the tokens that are to come
unfoldable pub ahead : Cutter → List Placed
ahead c = tokens_from c.place c.rest.now

-- one call of `next`: the first of the tokens that were to come, or none if there was none
abbrev pub Next : Cutter → Option Token → Cutter → Type 0
Next s None t = ahead s ≡ []
Next s (Some x) t = ahead s ≡ placed x ∷ ahead t
