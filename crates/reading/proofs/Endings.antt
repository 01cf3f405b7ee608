-- How a call of Read ends, and that what it answers and leaves is the one thing that it may.
use Rattle.std.proofs.Common.{◌≡◌, ℕ, ◌+◌, ◌-◌, ◌<◌, ◌≤◌, List, [], length, Ok, Err, Result, sym, refl, ap, ◌∙◌, subst, inl, inr, arith}
use Rattle.tokens.specs.declared.fault.Fault.{Fault}
use Rattle.tokens.specs.declared.fault.FaultKind.TheVariants.{RackFull}
use Rattle.tokens.specs.Faults.{fault}
use Rattle.tokens.specs.Limits.{Limits, WithinLimits}
use Rattle.tokens.proofs.Checks.{limits_one, within_accepted}
use Rattle.notation.specs.Tables.{Table, LawfulTable}
use Rattle.grammar.specs.declared.due.Due.{Due}
use Rattle.grammar.specs.Trees.{Tree}
use Rattle.grammar.specs.Reading.{Reads}
use Rattle.grammar.specs.Refusals.{answer, Answered, fault_at_end}
use Rattle.grammar.specs.Verdicts.Verdict.{reads}
use Rattle.grammar.proofs.Uniqueness.{at_most_one_tree}
use Rattle.grammar.proofs.Verdicts.{one_verdict_at_most}
use Rattle.rack.specs.declared.node.Node.{Node}
use Rattle.rack.specs.Nodes.{size, nodes_of, room}
use Rattle.reading.specs.Outside.{SameOutside}
use Rattle.reading.specs.Readings.{OnlyReading}
use Rattle.reading.specs.Yard.{Site, finished}
use Rattle.reading.specs.Yard.Yard.{stands}
use Rattle.reading.proofs.Agreement.{only_reading}
use Rattle.reading.proofs.Racks.{Holding, length-nodes, nothing_changed, some_nodes, tree_lies}
use Rattle.reading.proofs.Sofar.{Sofar, end_fails, text_read}

module _ (t : Table) (lawful : LawfulTable t) (text : List ℕ) (rack : List Node) (fill : ℕ) where
  -- a limit of the expression is passed
  pub limit_passed : (f : Fault) → Limits text (Err f) → (r : Result ℕ Fault) (used : ℕ) → r ≡ Err f → used ≡ fill → OnlyReading t text rack fill r rack used
  limit_passed f h r used told same =
      only_reading t lawful text rack fill r rack used (record { outcome = Err f; comes = inl (f, h, refl); leaves = record { told = told; same = same }; kept = nothing_changed fill rack })

  module _ (within : WithinLimits text) where
    no_limit : (f : Fault) → Limits text (Err f) → ⊥
    no_limit f p =
        let same = limits_one text (Err f) (Ok tt) p (within_accepted text within) in
        let z : ◌≡◌ {A = ℕ} 0 1 = cc in omega arith

    -- a token fails, or the end does
    pub text_refused : (f : Fault) (left after : List Node) → after ≡ left → Answered t text (Err f) × SameOutside fill rack left → (r : Result ℕ Fault) (used : ℕ) → r ≡ Err f → used ≡ fill → OnlyReading t text rack fill r after used
    text_refused f left after is p r used told same =
        subst (λ l. OnlyReading t text rack fill r l used) (sym is)
        (only_reading t lawful text rack fill r left used (record { outcome = Err f; comes = inr (no_limit, inl (f, p.0, refl)); leaves = record { told = told; same = same }; kept = p.1 }))

    module _ (d : Due) (s : Site) (h : Sofar t text rack fill [] d s) where
      pub end_refused : (after : List Node) → Err after ≡ finished (stands d s) → Answered t text (Err (fault (fault_at_end d) (length text))) × SameOutside fill rack after
      end_refused after fails = end_fails t text rack fill [] d s h lawful refl after fails

      -- the text reads
      module _ (r : Site) (ends : Ok r ≡ finished (stands d s)) where
        found : (tree : Tree) × Reads t text tree × Holding rack r.rack fill r.next (nodes_of tree)
        found = text_read t text rack fill [] d s h lawful within.lawful refl r ends

        tree : Tree
        tree = found.0

        read_as : Reads t text tree
        unfolding tree
        read_as = found.1

        held : Holding rack r.rack fill r.next (nodes_of tree)
        unfolding tree
        held = found.2

        next_is : r.next ≡ fill + size tree
        next_is = held.next ∙ ap (λ m. fill + m) (length-nodes tree)

        no_fault : (f : Fault) → Answered t text (Err f) → ⊥
        no_fault f (v, p, e) =
            let same = ap (answer t text) (one_verdict_at_most t lawful text v (reads tree) p read_as) in
            let z : ◌≡◌ {A = ℕ} 0 1 = cc in omega arith

        pub some_put : 1 ≤ r.next
        some_put = omega (arith, next_is, some_nodes tree)

        -- its tree has more nodes than are free
        pub no_room : room r.rack < r.next → (after : List Node) → after ≡ r.rack → (used : ℕ) → used ≡ fill → OnlyReading t text rack fill (Err (fault RackFull fill)) after used
        no_room few after left used same =
            let long = held.outside.below.long in
            subst (λ l. OnlyReading t text rack fill (Err (fault RackFull fill)) l used) (sym left)
            (only_reading t lawful text rack fill (Err (fault RackFull fill)) r.rack used
            (record {
              outcome = Err (fault RackFull fill);
              comes = inr (no_limit, inr (no_fault, inl (tree, record { reads = read_as; few = omega (arith, next_is, some_nodes tree) }, refl)));
              leaves = record { told = refl; same = same };
              kept = held.outside;
            }))

        -- its tree is put
        pub tree_put : r.next ≤ room r.rack → (after : List Node) → after ≡ r.rack → (used : ℕ) → used ≡ r.next → OnlyReading t text rack fill (Ok (r.next - 1)) after used
        tree_put fits after left used same =
            let long = held.outside.below.long in
            let room-left : r.next ≤ room rack = omega arith in
            subst (λ l. OnlyReading t text rack fill (Ok (r.next - 1)) l used) (sym left)
            (only_reading t lawful text rack fill (Ok (r.next - 1)) r.rack used
            (record {
              outcome = Ok tree;
              comes = inr (no_limit, inr (no_fault, inr (λ other few. let one = ap size (at_most_one_tree t lawful text other tree few.reads read_as) in omega (arith, few.few, next_is), (tree, read_as, refl))));
              leaves = record { root = ap (λ m. Ok (m - 1)) next_is; raised = same ∙ next_is; lies = tree_lies rack fill r.rack r.next tree held room-left };
              kept = held.outside;
            }))
