-- A text reads as one tree at most, since the machine finds its bracketed tree.
use Rattle.std.proofs.Common.{◌≡◌, List, Some, sym, ap, ◌∙◌}
use Rattle.tokens.specs.Tokens.{Lexeme}
use Rattle.notation.specs.Tables.{Table, LawfulTable}
use Rattle.grammar.specs.Trees.{Tree, erase}
use Rattle.grammar.specs.Reading.{ReadsTokens, AtMostOneBracketedTree, AtMostOneTree}
use Rattle.grammar.specs.Machine.{accepted}
use Rattle.grammar.proofs.Completeness.{finds_all}

pub at_most_one_bracketed_tree : AtMostOneBracketedTree
at_most_one_bracketed_tree t lawful a b la lb e =
    let found : Some a ≡ Some b = sym (finds_all t lawful a la) ∙ ap (accepted t) e ∙ finds_all t lawful b lb in cc

pub one_reading : (t : Table) → LawfulTable t → (xs : List Lexeme) (x y : Tree) → ReadsTokens t xs x → ReadsTokens t xs y → x ≡ y
one_reading t lawful xs x y p q =
    sym p.erased ∙ ap erase (at_most_one_bracketed_tree t lawful p.bracketed q.bracketed p.lawful q.lawful (p.tokens ∙ sym q.tokens)) ∙ q.erased

pub at_most_one_tree : AtMostOneTree
at_most_one_tree t lawful text x y p q = one_reading t lawful _ x y p.reading q.reading
