-- What is appended to an output, and the memory that it wants.
use Rattle.std.specs.Prelude.{◌≡◌, ℕ, ◌+◌, ◌≤◌, true, cond, List, ◌++◌, is_ok, vec_items, vec_len, vec_capacity, Result}
use Rattle.std.specs.declared.vec.Vec.{Vec}

module _ {Heap T E : Type 0} where
  -- the bytes were appended, or memory was wanting and none was
  abbrev pub Appended : List ℕ → Vec ℕ Heap → Vec ℕ Heap → Result T E → Type 0
  Appended bytes old new r = vec_items new ≡ cond (is_ok r) (vec_items old ++ bytes) (vec_items old)

  -- no more than n bytes were appended, no memory was given back, and where there was room for n, none was wanting
  pub record WithinRoom (n : ℕ) (old new : Vec ℕ Heap) (r : Result T E) : Type 0 where
    pub len : vec_len new ≤ vec_len old + n
    pub capacity : vec_capacity old ≤ vec_capacity new
    pub succeeds : vec_len old + n ≤ vec_capacity old → is_ok r ≡ true
