-- Fault lines and the tail. Numbers are in decimal, without leading zeros.
use Rattle.std.specs.Prelude.{ℕ, List, [], ◌∷◌, ◌++◌, codes, decimal}
use Rattle.tokens.specs.declared.fault.Fault.{Fault}
use Rattle.tokens.specs.Faults.{letter_of, number_of}

-- the byte that ends a line
abbrev pub line_end : List ℕ
line_end = 10 ∷ []

-- `!`, the fault's letter and number, a space, the number of the input line, a space, and the fault's place
abbrev pub fault_line : ℕ → Fault → List ℕ
fault_line line f =
    codes "!" ++ (letter_of f.kind ∷ (decimal (number_of f.kind) ++ (codes " " ++ (decimal line ++ (codes " " ++ (decimal f.place ++ line_end))))))

-- `#`, the number of lines, a space, and the number of pairs of brackets
abbrev pub tail_line : ℕ → ℕ → List ℕ
tail_line lines pairs = codes "#" ++ (decimal lines ++ (codes " " ++ (decimal pairs ++ line_end)))
