-- Which words are names, by the tests that the code makes.
use Rattle.std.proofs.Common.{◌≡◌, ℕ, ◌<◌, ◌≤◌, Bool, true, false, not, ◌&&◌, leb, List, length, is_some, None, Option, ap}
use Rattle.std.proofs.lemmas.Bool.{and_from, and_left, and_right, not_from_true, not_from_false, le-leb, lt-leb}
use Rattle.notation.specs.declared.form.Position.TheVariants.{Before, After}
use Rattle.notation.specs.Tables.{Table, listed}
use Rattle.grammar.specs.Machine.{is_name}

module _ (t : Table) (w : List ℕ) where
  abbrev before : Bool
  before = not (is_some (listed t Before w))

  abbrev after : Bool
  after = not (is_some (listed t After w))

  pub a_name : listed t Before w ≡ None → is_some (listed t After w) ≡ false → length w ≤ 16 → is_name t w ≡ true
  unfolding is_name
  a_name b a short = and_from before (after && leb (length w) 16) (ap (λ (o : Option ℕ). not (is_some o)) b) (and_from after (leb (length w) 16) (not_from_false (is_some (listed t After w)) a) (le-leb (length w) 16 short))

  pub no_name_listed : is_some (listed t After w) ≡ true → is_name t w ≡ false
  unfolding is_name
  no_name_listed a = and_right before (after && leb (length w) 16) (and_left after (leb (length w) 16) (not_from_true (is_some (listed t After w)) a))

  pub no_name_long : 16 < length w → is_name t w ≡ false
  unfolding is_name
  no_name_long long = and_right before (after && leb (length w) 16) (and_right after (leb (length w) 16) (lt-leb (length w) 16 long))
