-- Rules that are tried in order: the first that applies decides the answer.
use Rattle.std.specs.Prelude.{◌≡◌, ℕ, ◌⊎◌, List, ◌∷◌, ◌++◌, length, Ok, Err, Result}
use Rattle.std.specs.List.{AllByRecursion}
use Rattle.tokens.specs.declared.fault.Fault.{Fault}

module _ {R : Type 0} where
  -- if P holds, the answer is as `first` says, else as `otherwise` says
  abbrev pub If : Type 0 → (R → Type 0) → (R → Type 0) → R → Type 0
  If P first otherwise r = (P × first r) ⊎ ((P → ⊥) × otherwise r)

  -- if P holds of something, the answer is as `first` says of it, else as `otherwise` says
  abbrev pub IfSome : {X : Type 0} → (X → Type 0) → (X → R → Type 0) → (R → Type 0) → R → Type 0
  IfSome {X} P first otherwise r = ((x : X) × P x × first x r) ⊎ (((x : X) → P x → ⊥) × otherwise r)

-- the answer is as P says, and P says it of no other answer
pub record Only {R : Type 0} (P : R → Type 0) (r : R) : Type 0 where
  pub is : P r
  pub only : (s : R) → P s → s ≡ r

abbrev pub Refused : {T : Type 0} → Fault → Result T Fault → Type 0
Refused f r = r ≡ Err f

abbrev pub Accepted : {T : Type 0} → T → Result T Fault → Type 0
Accepted x r = r ≡ Ok x

-- x stands in the list, with i elements before it
pub record Nth {X : Type 0} (xs : List X) (i : ℕ) (x : X) : Type 0 where
  pub earlier : List X
  pub later : List X
  pub split : xs ≡ earlier ++ (x ∷ later)
  pub index : length earlier ≡ i

-- x, with i elements before it, is the first of which P holds
pub record First {X : Type 0} (P : X → Type 0) (xs : List X) (i : ℕ) (x : X) : Type 0 where
  pub nth : Nth xs i x
  pub here : P x
  pub none : AllByRecursion (λ y. P y → ⊥) nth.earlier
