use Rattle.std.proofs.Common.{length, refl, ap, arith, rules}
use Rattle.plan.specs.LinesAhead.{ahead}
use Rattle.plan.specs.NumberedAhead.{numbered_ahead}
use Rattle.plan.proofs.Counts.{count_full, count_end, count_more}
use Rattle.plan.proofs.numbering.NumberedLinesIterator.next.Goals as goal
use Rattle.std.proofs.iter.Next.{firm}

pub returns-then-self-ge-MAX_INPUT_LINES : goal.returns-then-self-ge-MAX_INPUT_LINES
unfolding numbered_ahead
returns-then-self-ge-MAX_INPUT_LINES c =
    record { steps = (count_full c.args.self.now.count (ahead c.args.self.now.lines) c.if-self-ge-MAX_INPUT_LINES.true, refl); goes = firm (tt) (λ h. search rules) }

pub returns-in_err-bytes : goal.returns-in_err-bytes
unfolding numbered_ahead
returns-in_err-bytes c =
    let end = count_end c.args.self.now.count (ahead c.args.self.now.lines) c.in_err-bytes.ensures.steps in
    rw c.from_residual.ensures (record { steps = (end, refl); goes = firm (tt) (λ h. search rules) })

pub returns : goal.returns
unfolding numbered_ahead
returns c =
    let e = count_more c.args.self.now.count (ahead c.args.self.now.lines) c.in_ok-bytes.bytes.now (ahead c.next.new.self) c.in_ok-bytes.ensures.steps c.if-self-ge-MAX_INPUT_LINES.false in
    record { steps = (e, c.if-self-ge-MAX_INPUT_LINES.false, refl, refl); goes = firm ((tt, tt, omega (arith, ap length e))) (λ h. search rules) }
