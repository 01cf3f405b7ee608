-- A tree whose nodes can be written, and whose shapes were stored, is ready to be written.
use Rattle.std.proofs.Common.{◌≡◌, ◌≤◌, List, ◌++◌, length, get_or, ap, ◌∙◌, arith}
use Rattle.std.proofs.lemmas.List.{length-append, get_or_append_left}
use Rattle.notation.specs.Tables.{Table, LawfulTable}
use Rattle.grammar.specs.Trees.{Tree}
use Rattle.rack.specs.Nodes.{size, nodes_of}
use Rattle.rack.specs.Racks.{ProperTree}
use Rattle.rack.specs.Reckoning.{values_of}
use Rattle.rack.proofs.Lying.{begins}
use Rattle.rack.proofs.Postorder.{nodes_long, proper_tree}
use Rattle.rack.proofs.Valuing.{sound_alone, values_long}
use Rattle.writing.specs.declared.shape.Shape.{Shape}
use Rattle.writing.specs.Shapes.{shapes}
use Rattle.writing.specs.Unwritables.{NoneIn}
use Rattle.writing.specs.Written.{ToWrite}
use Rattle.writing.proofs.ValuesThere.{value_there}
use Rattle.writing.proofs.Weighed.{weighed}
use Rattle.writing.proofs.Writables.{all_writable}

pub ready : (t : Table) → LawfulTable t → (tree : Tree) → ProperTree tree → size tree ≤ 4096 → (rest after : List Shape) → after ≡ values_of (shapes t) tree ++ rest → NoneIn t (nodes_of tree) → ToWrite t (nodes_of tree) after
ready t lawful tree proper small rest after is none =
    let own = values_of (shapes t) tree in
    let many = values_long (shapes t) tree in
    let long = nodes_long tree in
    record {
      sound = sound_alone tree proper;
      long = omega (arith, ap length is, length-append own rest);
      writable = all_writable t lawful (nodes_of tree) none;
      shaped = λ i part d lt l.
          ap (λ (xs : List Shape). get_or xs i d) is ∙ get_or_append_left own rest d i (omega arith) ∙ value_there (shapes t) tree part i d proper (omega arith) l
          ∙ (weighed t lawful part (proper_tree (nodes_of tree) i part l) (omega (arith, begins (nodes_of tree) i part l))).0;
    }
