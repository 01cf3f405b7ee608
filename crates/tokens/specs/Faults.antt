-- The letter and the number of each fault.
use Rattle.std.specs.Prelude.{ℕ}
use Rattle.tokens.specs.declared.fault.Fault.{Fault}
use Rattle.tokens.specs.declared.fault.FaultKind.{FaultKind}
use Rattle.tokens.specs.declared.fault.FaultKind.TheVariants.{MalformedDeclaration, UnknownType, WrongFunction, PriorityOutOfRange, MalformedSpelling, FunctionListed, SpellingTaken, MixedLevel, ExpressionTooLong, UnlawfulByte, TooManyTokens, WordTooLong, UnlistedSymbol, OperandExpected, OperatorExpected, UnmatchedBracket, PriorityClash, RackFull, NoSuchRoot, MarkAboveFill, FunctionAbsent, NameListed, TextTooLong, OutletRefused, MalformedRack, TooFewValues, MalformedLine, PlanFull}

-- the layer's letter as a byte: 68 is D (declaring), 82 R (reading), 87 W (writing), 80 P (plan)
abbrev pub letter_of : FaultKind → ℕ
letter_of MalformedDeclaration = 68
letter_of UnknownType = 68
letter_of WrongFunction = 68
letter_of PriorityOutOfRange = 68
letter_of MalformedSpelling = 68
letter_of FunctionListed = 68
letter_of SpellingTaken = 68
letter_of MixedLevel = 68
letter_of ExpressionTooLong = 82
letter_of UnlawfulByte = 82
letter_of TooManyTokens = 82
letter_of WordTooLong = 82
letter_of UnlistedSymbol = 82
letter_of OperandExpected = 82
letter_of OperatorExpected = 82
letter_of UnmatchedBracket = 82
letter_of PriorityClash = 82
letter_of RackFull = 82
letter_of NoSuchRoot = 87
letter_of MarkAboveFill = 87
letter_of FunctionAbsent = 87
letter_of NameListed = 87
letter_of TextTooLong = 87
letter_of OutletRefused = 87
letter_of MalformedRack = 87
letter_of TooFewValues = 87
letter_of MalformedLine = 80
letter_of PlanFull = 80

abbrev pub number_of : FaultKind → ℕ
number_of MalformedDeclaration = 10
number_of UnknownType = 11
number_of WrongFunction = 12
number_of PriorityOutOfRange = 13
number_of MalformedSpelling = 14
number_of FunctionListed = 15
number_of SpellingTaken = 16
number_of MixedLevel = 17
number_of ExpressionTooLong = 20
number_of UnlawfulByte = 21
number_of TooManyTokens = 22
number_of WordTooLong = 23
number_of UnlistedSymbol = 24
number_of OperandExpected = 25
number_of OperatorExpected = 26
number_of UnmatchedBracket = 27
number_of PriorityClash = 28
number_of RackFull = 30
number_of NoSuchRoot = 31
number_of MarkAboveFill = 32
number_of FunctionAbsent = 33
number_of NameListed = 34
number_of TextTooLong = 35
number_of OutletRefused = 36
number_of MalformedRack = 37
number_of TooFewValues = 38
number_of MalformedLine = 40
number_of PlanFull = 41

-- the fault of this kind at this place
abbrev pub fault : FaultKind → ℕ → Fault
fault k p = record { kind = k; place = p }
