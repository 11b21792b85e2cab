use Rattle.std.proofs.Common.{◌≡◌, ◌≢◌, ◌∷◌, [], length, All, true, false, refl, sym, ap, subst, ◌∙◌}
use Rattle.std.specs.Vec.Iter.{into_iter_items}
use Rattle.std.proofs.lemmas.List.{map-append}
use Rattle.std.proofs.lemmas.List.Elements.{All-head, All-tail}
use Rattle.sort_term.specs.Step.{StepsBy}
use Rattle.sort_term.specs.Cuts.{InCut}
use Rattle.ground_step.specs.Steps.{AreSteps, steps_of}
use Rattle.ground_step.specs.Reach.{NoneTwice, end_of, run_of, runs_of, EndsInState, EndsIn, AreExactly, AddsExactly, OneStepMore, StopsMoved}
use Rattle.ground_step.proofs.Lists.{contains_nil}
use Rattle.ground_step.proofs.Exactly.{exactly_none, adds_none}
use Rattle.ground_step.proofs.Ahead.{with_each_states, with_each_once}
use Rattle.ground_step.proofs.Growing.{turn_more, turn_end, new_in_turn, open_moved, met_moved, halted_moved, open_stuck, met_stuck, halted_stuck, steps_nil, steps_some}
use Rattle.ground_step.proofs.reach.next_level.Goals as goal

pub loop-run-init : goal.loop-run-init
loop-run-init g c =
    let gives = c.into_iter-run-iterator.ensures.into_iter_gives in
    record {
      turn = record { whole = refl; long = gives.1 ∙ c.args.outside.ok.0 ∙ sym (ap length gives.0) };
      states = subst (λ l. All (EndsInState c.args.semantics.now) (runs_of l)) (sym gives.0) c.requires.states;
      outside = subst (λ l. AreExactly (OneStepMore (StepsBy c.args.semantics.now c.args.program.now) [] (λ t. ¬ InCut c.args.semantics.now.cons c.args.cuts.now t)) (runs_of l)) (sym c.new-longer.ensures.items) (exactly_none (OneStepMore (StepsBy c.args.semantics.now c.args.program.now) [] (λ t. ¬ InCut c.args.semantics.now.cons c.args.cuts.now t)) (λ q e. contains_nil e.before e.there));
      met = adds_none (OneStepMore (StepsBy c.args.semantics.now c.args.program.now) [] (InCut c.args.semantics.now.cons c.args.cuts.now)) (runs_of c.args.met.now) (λ q e. contains_nil e.before e.there);
      halted = adds_none (StopsMoved (StepsBy c.args.semantics.now c.args.program.now) []) (runs_of c.args.halted.now) (λ q e. contains_nil q e.0.there);
    }

pub successors-requires-clause-state : goal.successors-requires-clause-state
successors-requires-clause-state g c =
    let states = subst (λ l. All (EndsInState c.args.semantics.now) (runs_of l)) c.in-Some.ensures.steps.0 c.loop-run.invariant.states in
    rw c.last.ensures (All-head (EndsInState c.args.semantics.now) (run_of c.in-Some.run') (runs_of (into_iter_items c.next.new.self)) states)

pub loop-run-preserved-then-is_empty : goal.loop-run-preserved-then-is_empty
loop-run-preserved-then-is_empty g c =
    let at = c.loop-run in
    let run = c.in-Some.run' in
    let sys = c.args.semantics.now in
    let tables = c.args.program.now in
    let xs = runs_of at.yielded in
    let steps = c.in_ok-steps.steps in
    let all : AreSteps sys tables (end_of (run_of run)) (steps_of steps) = rw c.last.ensures at c.in_ok-steps.ensures in
    let none : steps_of steps ≡ [] = steps_nil steps (c.is_empty.ensures.0 c.if-is_empty.true) in
    let new = new_in_turn _ at.yielded (into_iter_items at.run-iterator) (into_iter_items c.next.new.self) run _ at.invariant.turn c.in-Some.ensures.steps.0 (subst (λ l. NoneTwice (runs_of l)) (sym c.into_iter-run-iterator.ensures.into_iter_gives.0) c.requires.once) in
    let longer = map-append run_of at.yielded (run ∷ []) in
    let states = subst (λ l. All (EndsInState sys) (runs_of l)) c.in-Some.ensures.steps.0 at.invariant.states in
    record {
      turn = turn_more _ at.yielded (into_iter_items at.run-iterator) (into_iter_items c.next.new.self) run _ _ at.invariant.turn c.in-Some.ensures.steps.0 c.in-Some.ensures.steps.1;
      states = All-tail (EndsInState sys) (run_of run) (runs_of (into_iter_items c.next.new.self)) states;
      outside = subst (λ l. AreExactly (OneStepMore (StepsBy sys tables) l (λ t. ¬ InCut sys.cons c.args.cuts.now t)) (runs_of at.longer.items)) (sym longer) (open_stuck sys tables (run_of run) (steps_of steps) all xs (λ t. ¬ InCut sys.cons c.args.cuts.now t) (runs_of at.longer.items) none at.invariant.outside);
      met = subst (λ l. AddsExactly (OneStepMore (StepsBy sys tables) l (InCut sys.cons c.args.cuts.now)) (runs_of c.args.met.now) (runs_of at.met)) (sym longer) (met_stuck sys tables (run_of run) (steps_of steps) all xs (InCut sys.cons c.args.cuts.now) (runs_of c.args.met.now) (runs_of at.met) none at.invariant.met);
      halted = subst (λ l. AddsExactly (StopsMoved (StepsBy sys tables) l) (runs_of c.args.halted.now) (runs_of c.note_moved.new.halted)) (sym longer) (halted_stuck sys tables (run_of run) (steps_of steps) all xs new (runs_of c.args.halted.now) (runs_of at.halted) (runs_of c.note_moved.new.halted) none at.invariant.halted c.in_ok-note_moved.ensures);
    }

pub part-requires-clause-states : goal.part-requires-clause-states
part-requires-clause-states g c =
    let sys = c.args.semantics.now in
    let run = c.in-Some.run' in
    let steps = c.in_ok-steps.steps in
    let all : AreSteps sys c.args.program.now (end_of (run_of run)) (steps_of steps) = rw c.last.ensures at c.in_ok-steps.ensures in
    subst (All (EndsInState sys)) (sym c.in_ok-runs.ensures) (with_each_states sys c.args.program.now (run_of run) (steps_of steps) all c.requires.lawful)

pub part-requires-clause-once : goal.part-requires-clause-once
part-requires-clause-once g c =
    let sys = c.args.semantics.now in
    let run = c.in-Some.run' in
    let steps = c.in_ok-steps.steps in
    let all : AreSteps sys c.args.program.now (end_of (run_of run)) (steps_of steps) = rw c.last.ensures at c.in_ok-steps.ensures in
    subst NoneTwice (sym c.in_ok-runs.ensures) (with_each_once sys c.args.program.now (run_of run) (steps_of steps) all)

pub loop-run-preserved : goal.loop-run-preserved
loop-run-preserved g c =
    let at = c.loop-run in
    let run = c.in-Some.run' in
    let sys = c.args.semantics.now in
    let tables = c.args.program.now in
    let xs = runs_of at.yielded in
    let steps = c.in_ok-steps.steps in
    let all : AreSteps sys tables (end_of (run_of run)) (steps_of steps) = rw c.last.ensures at c.in_ok-steps.ensures in
    let some : steps ≢ [] = (λ e. let y : c.is_empty.result ≡ true = c.is_empty.ensures.1 e in let q : true ≡ false = sym y ∙ c.if-is_empty.false in cc) in
    let new = new_in_turn _ at.yielded (into_iter_items at.run-iterator) (into_iter_items c.next.new.self) run _ at.invariant.turn c.in-Some.ensures.steps.0 (subst (λ l. NoneTwice (runs_of l)) (sym c.into_iter-run-iterator.ensures.into_iter_gives.0) c.requires.once) in
    let longer = map-append run_of at.yielded (run ∷ []) in
    let states = subst (λ l. All (EndsInState sys) (runs_of l)) c.in-Some.ensures.steps.0 at.invariant.states in
    let opened = subst (λ l. AddsExactly (EndsIn l (λ t. ¬ InCut sys.cons c.args.cuts.now t)) (runs_of at.longer.items) (runs_of c.part.new.outside.items)) c.in_ok-runs.ensures c.in_ok-part.ensures.outside in
    let met = subst (λ l. AddsExactly (EndsIn l (InCut sys.cons c.args.cuts.now)) (runs_of at.met) (runs_of c.part.new.met)) c.in_ok-runs.ensures c.in_ok-part.ensures.met in
    record {
      turn = turn_more _ at.yielded (into_iter_items at.run-iterator) (into_iter_items c.next.new.self) run _ _ at.invariant.turn c.in-Some.ensures.steps.0 c.in-Some.ensures.steps.1;
      states = All-tail (EndsInState sys) (run_of run) (runs_of (into_iter_items c.next.new.self)) states;
      outside = subst (λ l. AreExactly (OneStepMore (StepsBy sys tables) l (λ t. ¬ InCut sys.cons c.args.cuts.now t)) (runs_of c.part.new.outside.items)) (sym longer) (open_moved sys tables (run_of run) (steps_of steps) all xs (λ t. ¬ InCut sys.cons c.args.cuts.now t) new (runs_of at.longer.items) (runs_of c.part.new.outside.items) at.invariant.outside opened);
      met = subst (λ l. AddsExactly (OneStepMore (StepsBy sys tables) l (InCut sys.cons c.args.cuts.now)) (runs_of c.args.met.now) (runs_of c.part.new.met)) (sym longer) (met_moved sys tables (run_of run) (steps_of steps) all xs (InCut sys.cons c.args.cuts.now) new (runs_of c.args.met.now) (runs_of at.met) (runs_of c.part.new.met) at.invariant.met met);
      halted = subst (λ l. AddsExactly (StopsMoved (StepsBy sys tables) l) (runs_of c.args.halted.now) (runs_of at.halted)) (sym longer) (halted_moved sys tables (run_of run) (steps_of steps) all xs (runs_of c.args.halted.now) (runs_of at.halted) (steps_some steps some) at.invariant.halted);
    }

pub returns-clause-outside : goal.returns-clause-outside
returns-clause-outside g c =
    let whole = turn_end _ c.loop-run.yielded (into_iter_items c.loop-run.run-iterator) _ c.loop-run.invariant.turn c.in-None.ensures.steps.0 ∙ c.into_iter-run-iterator.ensures.into_iter_gives.0 in
    subst (λ l. AreExactly (OneStepMore (StepsBy c.args.semantics.now c.args.program.now) (runs_of l) (λ t. ¬ InCut c.args.semantics.now.cons c.args.cuts.now t)) (runs_of c.loop-run.longer.items)) whole c.loop-run.invariant.outside

pub returns-clause-met : goal.returns-clause-met
returns-clause-met g c =
    let whole = turn_end _ c.loop-run.yielded (into_iter_items c.loop-run.run-iterator) _ c.loop-run.invariant.turn c.in-None.ensures.steps.0 ∙ c.into_iter-run-iterator.ensures.into_iter_gives.0 in
    subst (λ l. AddsExactly (OneStepMore (StepsBy c.args.semantics.now c.args.program.now) (runs_of l) (InCut c.args.semantics.now.cons c.args.cuts.now)) (runs_of c.args.met.now) (runs_of c.loop-run.met)) whole c.loop-run.invariant.met

pub returns-clause-halted : goal.returns-clause-halted
returns-clause-halted g c =
    let whole = turn_end _ c.loop-run.yielded (into_iter_items c.loop-run.run-iterator) _ c.loop-run.invariant.turn c.in-None.ensures.steps.0 ∙ c.into_iter-run-iterator.ensures.into_iter_gives.0 in
    subst (λ l. AddsExactly (StopsMoved (StepsBy c.args.semantics.now c.args.program.now) (runs_of l)) (runs_of c.args.halted.now) (runs_of c.loop-run.halted)) whole c.loop-run.invariant.halted
