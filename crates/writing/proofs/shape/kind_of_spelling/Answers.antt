use Rattle.std.proofs.Common.{rules}
use Rattle.writing.proofs.FirstBytes.{kind_word, kind_other, kind_none}
use Rattle.writing.proofs.shape.kind_of_spelling.Goals as goal

pub returns-in_default : goal.returns-in_default
returns-in_default c = let e = kind_none c.args.spelling.now c.in_default.len_below in search rules

pub returns-in-Word : goal.returns-in-Word
returns-in-Word c = let e = kind_word c.args.spelling.now 0 c.in-len1-up.len_at_least in search rules

pub returns-in_default-of : goal.returns-in_default-of
returns-in_default-of c = let e = kind_other c.args.spelling.now 0 c.in-len1-up.len_at_least in search rules
