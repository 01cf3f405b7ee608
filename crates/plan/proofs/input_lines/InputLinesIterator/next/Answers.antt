use Rattle.std.proofs.Common.{◌+◌, ◌<◌, ◌∷◌, length, take, sym, ap, ◌∙◌, arith, rules, List, ℕ}
use Rattle.std.proofs.iter.Next.{firm}
use Rattle.std.proofs.lemmas.List.{take_rest}
use Rattle.plan.specs.InputLines.{lines_of}
use Rattle.plan.specs.LinesAhead.{ahead}
use Rattle.plan.proofs.Splits.{first_line, no_more}
use Rattle.plan.proofs.input_lines.InputLinesIterator.next.Goals as goal

pub returns-then-is_empty-clause-steps : goal.returns-then-is_empty-clause-steps
unfolding ahead
returns-then-is_empty-clause-steps c = no_more c.args.self.now.rest.now (search rules)

pub returns-in-Some : goal.returns-in-Some
unfolding ahead
returns-in-Some c =
    let bytes = c.args.self.now.rest.now in
    let end = c.in-Some.end in
    let some : 0 < length bytes = search rules in
    let e = first_line bytes some _ (sym c.in-Some.is ∙ c.line_end.ensures.first) ∙ ap (λ (l : List ℕ). take end bytes ∷ lines_of l) (sym (take_rest bytes (end + 1))) in
    record { steps = e; goes = firm ((tt, tt, omega (arith, ap length e))) (λ h. search rules) }

pub returns-in-None : goal.returns-in-None
unfolding ahead
returns-in-None c =
    let some : 0 < length c.args.self.now.rest.now = search rules in
    let e = first_line c.args.self.now.rest.now some _ (sym c.in-None.is ∙ c.line_end.ensures.first) in
    record { steps = e; goes = firm ((tt, tt, omega (arith, ap length e))) (λ h. search rules) }
