use Rattle.std.proofs.Common.{◌≡◌, List, length, take, Option}
use Rattle.std.specs.Iterator.Adapters.{enumerate_count, enumerate_source, rev_source}
use Rattle.std.specs.Slice.Iter.{iter_rest}
use Rattle.notation.specs.declared.entry.Entry.{Entry}
use Rattle.notation.specs.Views.{open_table}
use Rattle.notation.proofs.Chained.{ChainedFrom}
use Rattle.notation.proofs.sealed.link.Given as goal

abbrev pub invariant-loop-function : goal.invariant-loop-function
invariant-loop-function l =
    let rest : List (Option Entry) = iter_rest (enumerate_source (rev_source l.function-iterator)) in
    record {
      can : (goal.iterator-loop-function).can_next l.function-iterator;
      finite : (goal.iterator-loop-function).is_finite l.function-iterator;
      count : enumerate_count (rev_source l.function-iterator) ≡ 0;
      front : rest ≡ take (length rest) l.list.slots;
      chained : ChainedFrom (open_table l.list) l.firsts l.nexts (length rest);
    }
