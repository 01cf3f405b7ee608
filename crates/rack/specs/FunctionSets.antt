-- The set of the functions in a tree, and how many they are.
use Rattle.std.specs.Prelude.{◌≡◌, ℕ, zero, suc, ◌+◌, ◌/◌, ◌%◌, ◌^◌, ◌<◌, Bool, false, cond, ◌||◌, Ok, Result, ◌==◌, bit_or, nat_lt}
use Rattle.tokens.specs.declared.fault.Fault.{Fault}
use Rattle.tokens.specs.declared.fault.FaultKind.TheVariants.{TooFewValues}
use Rattle.tokens.specs.Faults.{fault}
use Rattle.tokens.specs.InOrder.{If, Refused}
use Rattle.grammar.specs.Trees.{Tree}
use Rattle.grammar.specs.Trees.Tree.{name, one, two}
use Rattle.rack.specs.declared.function_set.FunctionSet.{FunctionSet}
use Rattle.rack.specs.Nodes.{size}
use Rattle.rack.specs.Reckoning.{Meaning}

-- the function n is in the tree
abbrev pub occurs : ℕ → Tree → Bool
occurs n (name w) = false
occurs n (one f t) = n == f || occurs n t
occurs n (two f s t) = n == f || (occurs n s || occurs n t)

-- bit n of a number is set
abbrev pub has_bit : ℕ → ℕ → Bool
has_bit bits n = bits / 2 ^ n % 2 == 1

-- how many of the numbers below n pass the test
unfoldable pub count_below : (ℕ → Bool) → ℕ → ℕ
count_below test zero = 0
count_below test (suc n) = count_below test n + cond (test n) 1 0

-- the set of a tree's functions: function n is bit n, and so many of the functions 0 to 63 are in it
pub record SetOf (tree : Tree) (set : FunctionSet) : Type 0 where
  pub members : (n : ℕ) → has_bit set.bits n ≡ occurs n tree
  pub count : set.count ≡ count_below (λ n. occurs n tree) 64

-- what is answered of a tree: a list of n values may be too short for it
abbrev pub SetAnswered : ℕ → Tree → Result FunctionSet Fault → Type 0
SetAnswered n tree = If (n < size tree) (Refused (fault TooFewValues 0)) (λ r. (set : FunctionSet) × (r ≡ Ok set) × SetOf tree set)

-- the rules by which the bits are worked out: a name has no function, a function its own and those of its operands
abbrev pub bit_of : ℕ → ℕ
bit_of f = cond (nat_lt f 64) (2 ^ f) 0

abbrev pub bits_meaning : Meaning ℕ
bits_meaning = record { named = λ w. 0; single = λ f v. bit_or v (bit_of f); double = λ f u v. bit_or (bit_or u v) (bit_of f) }
