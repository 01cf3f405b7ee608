use Rattle.std.proofs.Common.{Err, ap, ◌∙◌, rules}
use Rattle.std.proofs.lemmas.Result.{err_from_is_err_and}
use Rattle.tokens.specs.Cutters.{ahead}
use Rattle.tokens.specs.Faults.{fault}
use Rattle.tokens.specs.Tokens.{lexeme, placed}
use Rattle.grammar.specs.Refusals.{fault_at}
use Rattle.reading.specs.Yard.{site_of}
use Rattle.reading.specs.Yard.Yard.{refused, stands}
use Rattle.reading.proofs.Sofar.{all_done, sofar_begun, sofar_more, sofar_room, token_fails, step_by}
use Rattle.reading.proofs.reading.Reading.run.Goals as goal

pub loop-token-init : goal.loop-token-init
loop-token-init g c =
    let all = ap ahead c.into_iter-token-iterator.ensures.into_iter_gives ∙ c.new-token-items.ensures.ahead in
    (tt, tt, sofar_begun (g.N.Notation.table c.args.self.now.notation.now) c.args.text.now c.args.self.now.rack.now c.args.self.now.mark _ _ _ all c.requires.begun, search rules)

pub step-requires : goal.step-requires
step-requires g c =
    sofar_room _ _ _ _ _ _ _ c.loop-token.invariant.2 (placed c.in-Some.token) (ahead c.next.new.self) c.in-Some.ensures.steps c.requires.within.tokens

pub loop-token-preserved : goal.loop-token-preserved
loop-token-preserved g c = (
  tt,
  tt,
  sofar_more _ _ _ _ _ _ _ c.loop-token.invariant.2 (placed c.in-Some.token) (ahead c.next.new.self) c.step.new.self.due (site_of c.step.new.self) c.in-Some.ensures.steps
      (step_by _ _ (ap (λ n. g.N.Notation.table n.now) c.loop-token.invariant.3.2) (stands c.step.new.self.due (site_of c.step.new.self)) (stands c.loop-token.self.due (site_of c.loop-token.self)) (lexeme (placed c.in-Some.token)) c.in_ok-step.ensures.state),
  search rules,
)

pub returns-in_err-step-clause-fault : goal.returns-in_err-step-clause-fault
returns-in_err-step-clause-fault g c =
    let p = err_from_is_err_and c.from_residual.result c.from_residual.ensures.1 in
    let same = c.loop-token.invariant.3.2 in
    rw (p.1 ∙ ap Err (p.2 ∙ c.in_err-step.ensures.fault ∙ ap (λ n. fault (fault_at (g.N.Notation.table n.now) c.loop-token.self.due (lexeme (placed c.in-Some.token))) (placed c.in-Some.token).place) same))
    (token_fails _ _ _ _ _ _ _ c.loop-token.invariant.2 (g.met.N.Notation.lawful c.args.self.now.notation.now)
    (placed c.in-Some.token) (ahead c.next.new.self) c.in-Some.ensures.steps c.step.new.self.rack.now (step_by _ _ (ap (λ n. g.N.Notation.table n.now) same) (refused c.step.new.self.rack.now) (stands c.loop-token.self.due (site_of c.loop-token.self)) (lexeme (placed c.in-Some.token)) c.in_err-step.ensures.state))

pub returns-clause-state : goal.returns-clause-state
returns-clause-state g c = all_done _ _ _ _ _ _ _ c.loop-token.invariant.2 c.in-None.ensures.steps
