-- What the values of the code stand for.
use Rattle.std.specs.Prelude.{◌≡◌, ℕ, Ok, Err, Result}
use Rattle.tokens.specs.declared.fault.Fault.{Fault}
use Rattle.notation.specs.declared.candidate.Candidate.{Candidate}
use Rattle.notation.specs.declared.declaration.Declaration.{Declaration}
use Rattle.notation.specs.declared.declaration.RawFields.{RawFields}
use Rattle.notation.specs.declared.list.OpenList.{OpenList}
use Rattle.notation.specs.declared.list.SealedList.{SealedList}
use Rattle.notation.specs.Lines.{Fields}
use Rattle.notation.specs.Operators.{Op}
use Rattle.notation.specs.Slots.{op_in, table_in}
use Rattle.notation.specs.Tables.{Table}

abbrev pub fields_of : RawFields → Fields
fields_of x = record { function = x.function.now; priority = x.priority.now; word = x.word.now; spelling = x.spelling.now }

-- the operator of a declaration
abbrev pub declared_op : Declaration → Op
declared_op d = record { priority = d.priority; form = d.form; spelling = d.spelling.now }

-- the answer is a declaration of the function and the operator
abbrev pub DeclarationOf : ℕ → Op → Result Declaration Fault → Type 0
DeclarationOf f o (Ok d) = (d.function ≡ f) × (declared_op d ≡ o)
DeclarationOf f o (Err e) = ⊥

-- the answer is a candidate, of the function and the operator
abbrev pub CandidateOf : ℕ → Op → Result Candidate Fault → Type 0
CandidateOf f o (Ok c) = (c.function ≡ f) × (op_in c.entry ≡ o)
CandidateOf f o (Err e) = ⊥

-- the tables of lists
abbrev pub open_table : OpenList → Table
open_table l = table_in l.slots

abbrev pub sealed_table : SealedList → Table
sealed_table l = open_table l.list
