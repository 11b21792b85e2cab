use Rattle.std.proofs.Common.{arith, ◌≡◌, ◌+◌, ◌∷◌, [], ◌++◌, refl, sym, ap, subst, ◌∙◌, inl, inr}
use Rattle.std.proofs.lemmas.List.{map-append}
use Rattle.sort_term.specs.Runs.{IsStuck, StepsFirst}
use Rattle.sort_term.specs.Step.{StepsBy}
use Rattle.ground_step.specs.Reach.{StartedRun, end_of, run_of}
use Rattle.ground_step.specs.Steps.{step_of, steps_of}
use Rattle.ground_step.proofs.FirstRuns.{IsFirstSoFar, first_pushed, first_ended, stopped_is}
use Rattle.ground_step.proofs.first.first_run.Goals as goal

pub returns-in-None-clause-run : goal.returns-in-None-clause-run
returns-in-None-clause-run g c =
    let sys = c.args.semantics.now in
    let tables = c.args.program.now in
    let stuck : IsStuck (StepsBy sys tables) (end_of (run_of c.loop-step.run)) = subst (IsStuck (StepsBy sys tables)) c.last.ensures (rw c.in-None.is at c.in_ok-step.ensures) in
    first_ended sys tables c.args.start.now.term c.args.steps c.loop-step._step (run_of c.loop-step.run) (omega arith) c.loop-step.invariant (inr stuck)

pub returns-in-None-clause-stopped : goal.returns-in-None-clause-stopped
returns-in-None-clause-stopped g c =
    let sys = c.args.semantics.now in
    let tables = c.args.program.now in
    let stuck : IsStuck (StepsBy sys tables) (end_of (run_of c.loop-step.run)) = subst (IsStuck (StepsBy sys tables)) c.last.ensures (rw c.in-None.is at c.in_ok-step.ensures) in
    (λ _. stuck, λ _. refl)

pub loop-step-preserved : goal.loop-step-preserved
loop-step-preserved g c =
    let sys = c.args.semantics.now in
    let tables = c.args.program.now in
    let s = c.args.start.now.term in
    let p : StartedRun = run_of c.loop-step.run in
    let x = c.in-Some.step in
    let told : StepsFirst (StepsBy sys tables) x.rule.0 c.last.result.now.term x.state.term = rw c.in-Some.is at c.in_ok-step.ensures in
    let step : StepsFirst (StepsBy sys tables) x.rule.0 (end_of p) x.state.term = subst (λ t. StepsFirst (StepsBy sys tables) x.rule.0 t x.state.term) c.last.ensures told in
    let longer : steps_of c.push.new.self ≡ p.1 ++ (x.rule.0, x.state.term) ∷ [] = ap (λ xs. steps_of xs) c.in_ok-push-in-Some.ensures.ok ∙ map-append step_of c.loop-step.run.steps (x ∷ []) in
    subst (λ xs. IsFirstSoFar sys tables s (c.loop-step._step + 1) (p.0, xs)) (sym longer) (first_pushed sys tables s c.rules-rules.ensures.valid c.loop-step._step p x.rule.0 x.state.term c.loop-step.invariant step)

pub returns-clause-run : goal.returns-clause-run
returns-clause-run g c =
    first_ended c.args.semantics.now c.args.program.now c.args.start.now.term c.args.steps c.loop-step._step (run_of c.loop-step.run) (omega arith) c.loop-step.invariant (inl (omega arith))

pub returns-clause-stopped : goal.returns-clause-stopped
returns-clause-stopped g c =
    let sys = c.args.semantics.now in
    let tables = c.args.program.now in
    let told = rw c.last-2.ensures at c.in_ok-next.ensures in
    stopped_is sys tables (end_of (run_of c.loop-step.run)) (λ x. x.rule.0) (λ x. x.state.term) c.in_ok-next.next c.is_none-stopped.result c.is_none-stopped.ensures told
