use Rattle.std.proofs.Common.{rules, ◌≡◌, ℕ, List, MatchResult, Some, Err, length, drop, refl, sym, ap, ◌∙◌, subst, inl, inr, ⊎_elim, arith}
use Rattle.std.proofs.lemmas.List.{take_at}
use Rattle.std.proofs.lemmas.Result.{err_from_is_err_and}
use Rattle.rack.specs.declared.node.Node.{Node}
use Rattle.notation.specs.Tables.{Table}
use Rattle.grammar.specs.Trees.{Tree}
use Rattle.grammar.specs.Writing.{Fewest}
use Rattle.rack.specs.Nodes.{size}
use Rattle.rack.specs.Racks.{Lies}
use Rattle.writing.specs.Puts.{put_all, line_puts, PutsTo}
use Rattle.writing.specs.declared.shape.Shape.{Shape}
use Rattle.writing.specs.Written.{ToWrite}
use Rattle.writing.specs.Lines.{PutAnswered}
use Rattle.rack.proofs.Lying.{begins, root_size, size_some}
use Rattle.rack.proofs.Postorder.{nodes_long, proper_tree}
use Rattle.writing.proofs.LineAnswers.{ThereWeighed, there_weighed, unweighed, weighed_line, first_answered, none_answered, none_told, part_nodes, part_lies, shape_pairs, shape_fewest, put_pairs, Mapped, where_err, where_ok, put_answered, put_holding, put_kept}
use Rattle.writing.proofs.Ready.{ready}
use Rattle.writing.proofs.line.LineWriter.put_line.Given.{Over}
use Rattle.writing.proofs.line.LineWriter.put_line.Goals as goal
use Rattle.writing.proofs.line.LineWriter.put_line.Goals.{then-is_err, else-is_err}

pub returns-in_err-shape-clause-answer : goal.returns-in_err-shape-clause-answer
returns-in_err-shape-clause-answer g c =
    let p = err_from_is_err_and c.from_residual.result c.from_residual.ensures.1 in
    let h = c.in_err-shape.ensures.answer.is in
    rw (p.1, p.2) (unweighed g.O.Outlet.rule (g.N.Notation.table c.args.notation.now) c.args.digits.now c.args.rack.now c.args.fill.now.used c.args.root (g.O.Outlet.holding c.args.outlet.now) c.if-not-are_digits.ensures (length c.as_mut_slice-shapes.result.now) (omega (arith, c.args.self.now.reserved, c.as_mut_slice-shapes.ensures.len)) c.in_err-shape.field-0.0 h)

pub overflow_sub-start : goal.overflow_sub-start
overflow_sub-start g c =
    let rack = c.args.rack.now in
    let w = there_weighed (g.N.Notation.table c.args.notation.now) rack c.args.fill.now.used c.args.root (length c.as_mut_slice-shapes.result.now) c.in_ok-shape.shape c.in_ok-shape.ensures.answer.is in
    omega (arith, root_size rack c.args.root w.tree w.lies, begins rack c.args.root w.tree w.lies)

pub returns-in_err-check_writable-clause-answer : goal.returns-in_err-check_writable-clause-answer
returns-in_err-check_writable-clause-answer g c =
    let t = g.N.Notation.table c.args.notation.now in
    let rack = c.args.rack.now in
    let root = c.args.root in
    let f = c.in_err-check_writable.field-0.0 in
    let p = err_from_is_err_and c.from_residual-in_err-check_writable.result c.from_residual-in_err-check_writable.ensures.1 in
    rw (p.1, p.2)
    (weighed_line g.O.Outlet.rule t c.args.digits.now rack c.args.fill.now.used root (g.O.Outlet.holding c.args.outlet.now) c.if-not-are_digits.ensures (length c.as_mut_slice-shapes.result.now) (omega (arith, c.args.self.now.reserved, c.as_mut_slice-shapes.ensures.len)) c.in_ok-shape.shape (Err f)
    (λ tree lt l is. inl (f, first_answered t rack root tree lt l f c.in_err-check_writable.ensures, refl))
    c.in_ok-shape.ensures.answer.is)

pub returns-then-shape-clause-answer : goal.returns-then-shape-clause-answer
returns-then-shape-clause-answer g c =
    let t = g.N.Notation.table c.args.notation.now in
    let rack = c.args.rack.now in
    let root = c.args.root in
    let shape = c.in_ok-shape.shape in
    weighed_line g.O.Outlet.rule t c.args.digits.now rack c.args.fill.now.used root (g.O.Outlet.holding c.args.outlet.now) c.if-not-are_digits.ensures (length c.as_mut_slice-shapes.result.now) (omega (arith, c.args.self.now.reserved, c.as_mut_slice-shapes.ensures.len)) shape _
    (λ tree lt l is. inr (
      none_told t rack root tree lt l (none_answered t rack root tree lt l c.in_ok-check_writable.ensures),
      inl (
        ⊎_elim (λ many. inl (omega (arith, ap (λ (s : Shape). s.bytes) is))) (λ (few, many). inr (omega (arith, ap (λ (s : Shape). s.tokens) is))) c.then-shape.either,
        refl,
      ),
    ))
    c.in_ok-shape.ensures.answer.is

pub put_whole-put-requires-clause-some : goal.put_whole-put-requires-clause-some
put_whole-put-requires-clause-some g c =
    let t = g.N.Notation.table c.args.notation.now in
    let rack = c.args.rack.now in
    let w = there_weighed t rack c.args.fill.now.used c.args.root (length c.as_mut_slice-shapes.result.now) c.in_ok-shape.shape c.in_ok-shape.ensures.answer.is in
    omega (arith, ap length (part_nodes t rack c.args.root w.tree w.within w.lies), nodes_long w.tree, size_some w.tree)

pub put_whole-put-requires-clause-ready : goal.put_whole-put-requires-clause-ready
put_whole-put-requires-clause-ready g c =
    let t = g.N.Notation.table c.args.notation.now in
    let rack = c.args.rack.now in
    let root = c.args.root in
    let w = there_weighed t rack c.args.fill.now.used root (length c.as_mut_slice-shapes.result.now) c.in_ok-shape.shape c.in_ok-shape.ensures.answer.is in
    let whole : c.as_slice.result.now ≡ c.weigh.new.values = c.as_slice.ensures.value ∙ take_at c.weigh.new.values (drop (length c.weigh.new.values) c.args.self.now.shapes.items) c.args.self.now.shapes.len (omega (arith, c.weigh.auto.values, c.as_mut_slice-shapes.ensures.len)) in
    let own = ready t (g.met.N.Notation.lawful c.args.notation.now) w.tree (proper_tree rack root w.tree w.lies) (omega (arith, begins rack root w.tree w.lies, w.within)) (drop (size w.tree) c.as_mut_slice-shapes.result.now) c.as_slice.result.now (whole ∙ c.in_ok-shape.ensures.values w.tree w.lies) (none_answered t rack root w.tree w.within w.lies c.in_ok-check_writable.ensures) in
    subst (λ (ns : List Node). ToWrite t ns c.as_slice.result.now) (sym (part_nodes t rack root w.tree w.within w.lies)) own

-- what the answers below share: the tree that was weighed, and what its Puts made
module _ (g : Over) (c : goal.After-map g) where
  abbrev t : Table
  t = g.N.Notation.table c.args.notation.now

  there : ThereWeighed t c.args.rack.now c.args.root c.in_ok-shape.shape
  there = there_weighed t c.args.rack.now c.args.fill.now.used c.args.root (length c.as_mut_slice-shapes.result.now) c.in_ok-shape.shape c.in_ok-shape.ensures.answer.is

  mapped : Mapped c.in_ok-shape.shape.pairs c.put_whole-put.result c.map.result
  mapped = search rules

  puts : (tree : Tree) → Lies c.args.rack.now c.args.root tree → PutsTo (tt {0}) (put_all g.O.Outlet.rule (line_puts t c.args.digits.now tree) (Some (g.O.Outlet.holding c.args.outlet.now))) (g.O.Outlet.holding c.put_whole-put.new.outlet) c.put_whole-put.result
  puts tree l =
      subst (λ (h : g.O.Outlet.Holding). PutsTo (tt {0}) (put_all g.O.Outlet.rule (line_puts t c.args.digits.now tree) (Some h)) (g.O.Outlet.holding c.put_whole-put.new.outlet) c.put_whole-put.result) c.start.ensures.holding
      (c.put_whole-put.ensures.answer tree (part_lies t c.args.rack.now c.args.root tree there.within l))

  struck : MatchResult c.put_whole-put.result (λ _. g.O.Outlet.holding c.if-is_err.outlet ≡ g.O.Outlet.holding c.put_whole-put.new.outlet) (λ _. g.O.Outlet.holding c.if-is_err.outlet ≡ g.O.Outlet.holding c.args.outlet.now)
  struck =
      let q = c.put_whole-put.result in
      let A = g.O.Outlet.holding c.if-is_err.outlet ≡ g.O.Outlet.holding c.put_whole-put.new.outlet in
      let B = g.O.Outlet.holding c.if-is_err.outlet ≡ g.O.Outlet.holding c.args.outlet.now in
      elim c.if-is_err.branch [
        | then-is_err w ↦ where_err q A B (sym c.is_err.ensures.value ∙ w.if-is_err.true) (ap g.O.Outlet.holding w.outlet-is ∙ w.strike.ensures.holding ∙ c.put_whole-put.ensures.kept ∙ c.start.ensures.kept)
        | else-is_err w ↦ where_ok q A B (sym c.is_err.ensures.value ∙ w.if-is_err.false) (ap g.O.Outlet.holding w.outlet-is)
      ]

  kept : g.O.Outlet.kept c.if-is_err.outlet ≡ g.O.Outlet.holding c.args.outlet.now
  kept =
      elim c.if-is_err.branch [
        | then-is_err w ↦ ap g.O.Outlet.kept w.outlet-is ∙ w.strike.ensures.kept ∙ c.put_whole-put.ensures.kept ∙ c.start.ensures.kept
        | else-is_err w ↦ ap g.O.Outlet.kept w.outlet-is ∙ c.put_whole-put.ensures.kept ∙ c.start.ensures.kept
      ]

pub returns-clause-answer : goal.returns-clause-answer
returns-clause-answer g c =
    let t = g.N.Notation.table c.args.notation.now in
    let rack = c.args.rack.now in
    let root = c.args.root in
    let shape = c.in_ok-shape.shape in
    weighed_line g.O.Outlet.rule t c.args.digits.now rack c.args.fill.now.used root (g.O.Outlet.holding c.args.outlet.now) c.if-not-are_digits.ensures (length c.as_mut_slice-shapes.result.now) (omega (arith, c.args.self.now.reserved, c.as_mut_slice-shapes.ensures.len)) shape c.map.result
    (λ tree lt l is. inr (
      none_told t rack root tree lt l (none_answered t rack root tree lt l c.in_ok-check_writable.ensures),
      inr (
        ⊎_elim (λ many. absurd (omega (arith, ap (λ (s : Shape). s.bytes) is, c.if-shape.false))) (λ many. absurd (omega (arith, ap (λ (s : Shape). s.tokens) is, c.if-shape-2.false))),
        subst (λ (n : ℕ). PutAnswered n (put_all g.O.Outlet.rule (line_puts t c.args.digits.now tree) (Some (g.O.Outlet.holding c.args.outlet.now))) c.map.result) (shape_pairs t tree shape is)
            (put_answered shape.pairs (put_all g.O.Outlet.rule (line_puts t c.args.digits.now tree) (Some (g.O.Outlet.holding c.args.outlet.now))) (g.O.Outlet.holding c.put_whole-put.new.outlet) c.put_whole-put.result c.map.result (puts g c tree l) (mapped g c)),
      ),
    ))
    c.in_ok-shape.ensures.answer.is

pub returns-clause-holding : goal.returns-clause-holding
returns-clause-holding g c =
    put_holding c.in_ok-shape.shape.pairs (Lies c.args.rack.now c.args.root)
    (λ tree. put_all g.O.Outlet.rule (line_puts (g.N.Notation.table c.args.notation.now) c.args.digits.now tree) (Some (g.O.Outlet.holding c.args.outlet.now)))
    (g.O.Outlet.holding c.args.outlet.now) (g.O.Outlet.holding c.put_whole-put.new.outlet) (g.O.Outlet.holding c.if-is_err.outlet) c.put_whole-put.result c.map.result (puts g c) (mapped g c) (struck g c)

pub returns-clause-kept : goal.returns-clause-kept
returns-clause-kept g c =
    let w = there g c in
    put_kept c.in_ok-shape.shape.pairs (put_all g.O.Outlet.rule (line_puts (g.N.Notation.table c.args.notation.now) c.args.digits.now w.tree) (Some (g.O.Outlet.holding c.args.outlet.now)))
    (g.O.Outlet.kept c.args.outlet.now) (g.O.Outlet.holding c.args.outlet.now) (g.O.Outlet.holding c.put_whole-put.new.outlet) (g.O.Outlet.kept c.if-is_err.outlet) c.put_whole-put.result c.map.result (puts g c w.tree w.lies) (mapped g c) (kept g c)

pub returns-clause-fewest : goal.returns-clause-fewest
returns-clause-fewest g c =
    let t = g.N.Notation.table c.args.notation.now in
    let rack = c.args.rack.now in
    let root = c.args.root in
    let w = there g c in
    put_pairs c.in_ok-shape.shape.pairs (λ n. (tree : Tree) → Lies rack root tree → Fewest t tree n) c.put_whole-put.result c.map.result (mapped g c)
    (shape_fewest t (g.met.N.Notation.lawful c.args.notation.now) rack root c.in_ok-shape.shape w (none_answered t rack root w.tree w.within w.lies c.in_ok-check_writable.ensures))
