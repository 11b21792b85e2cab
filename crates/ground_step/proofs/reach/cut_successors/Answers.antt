use Rattle.std.proofs.Common.{arith, ◌≡◌, ◌+◌, ◌∷◌, [], All, sym, subst}
use Rattle.sort_term.specs.Step.{StepsBy}
use Rattle.sort_term.specs.Cuts.{InCut}
use Rattle.ground_step.specs.Reach.{NoneTwice, runs_of, EndsInState, AreExactly, AddsExactly, OneStepMore, Stops, StopsMoved, LongFrom, MetFrom, HaltedFrom}
use Rattle.ground_step.proofs.Exactly.{exactly_none, exactly_one, exactly_same, exactly_adds}
use Rattle.ground_step.proofs.Levels.{HaltedBefore, long_zero, met_zero, halted_zero, long_more, met_more, met_apart, halted_more, halted_apart, halted_last}
use Rattle.ground_step.proofs.Growing.{one_run}
use Rattle.ground_step.proofs.States.{long_states}
use Rattle.ground_step.proofs.reach.cut_successors.Goals as goal

pub loop-level-init : goal.loop-level-init
loop-level-init g c =
    let sys = c.args.semantics.now in
    let tables = c.args.program.now in
    let s = c.args.state.now.term in
    let first : runs_of c.push.new.self.items ≡ (s, []) ∷ [] = one_run c.new-outside.result.items c.push.new.self.items c.in_ok-at.field-0 (s, []) c.in_ok-push.ensures.items c.new-outside.ensures.items c.in_ok-at.ensures in
    record {
      met = subst (λ l. AreExactly (MetFrom sys tables c.args.cuts.now s 0) (runs_of l)) (sym c.new-met.ensures) (exactly_none (MetFrom sys tables c.args.cuts.now s 0) (met_zero (StepsBy sys tables) (InCut sys.cons c.args.cuts.now) s));
      long = subst (AreExactly (LongFrom sys tables c.args.cuts.now s 0)) (sym first) (exactly_one (s, []) (LongFrom sys tables c.args.cuts.now s 0) (long_zero (StepsBy sys tables) (InCut sys.cons c.args.cuts.now) s));
      halted = subst (λ l. AreExactly (HaltedBefore (StepsBy sys tables) (InCut sys.cons c.args.cuts.now) s 0) (runs_of l)) (sym c.new-halted.ensures) (exactly_none (HaltedBefore (StepsBy sys tables) (InCut sys.cons c.args.cuts.now) s 0) (halted_zero (StepsBy sys tables) (InCut sys.cons c.args.cuts.now) s));
    }

pub next_level-requires-clause-states : goal.next_level-requires-clause-states
next_level-requires-clause-states g c =
    long_states c.args.semantics.now c.args.program.now c.args.cuts.now c.args.state.now.term c.loop-level._level (runs_of c.loop-level.outside.items) c.rules-rules.ensures.valid c.requires.state c.loop-level.invariant.long.sound

pub next_level-requires-clause-once : goal.next_level-requires-clause-once
next_level-requires-clause-once g c = c.loop-level.invariant.long.once

pub loop-level-preserved : goal.loop-level-preserved
loop-level-preserved g c =
    let sys = c.args.semantics.now in
    let tables = c.args.program.now in
    let s = c.args.state.now.term in
    let k = c.loop-level._level in
    let runs = runs_of c.loop-level.outside.items in
    let at = c.loop-level.invariant in
    record {
      met = exactly_adds (MetFrom sys tables c.args.cuts.now s k) (OneStepMore (StepsBy sys tables) runs (InCut sys.cons c.args.cuts.now)) (MetFrom sys tables c.args.cuts.now s (k + 1)) _ _ (met_more (StepsBy sys tables) (InCut sys.cons c.args.cuts.now) s k runs at.long) (met_apart (StepsBy sys tables) (InCut sys.cons c.args.cuts.now) s k runs at.long) at.met c.in_ok-outside.ensures.met;
      long = exactly_same (OneStepMore (StepsBy sys tables) runs (λ t. ¬ InCut sys.cons c.args.cuts.now t)) (LongFrom sys tables c.args.cuts.now s (k + 1)) _ (long_more (StepsBy sys tables) (InCut sys.cons c.args.cuts.now) s k runs at.long) c.in_ok-outside.ensures.outside;
      halted = exactly_adds (HaltedBefore (StepsBy sys tables) (InCut sys.cons c.args.cuts.now) s k) (StopsMoved (StepsBy sys tables) runs) (HaltedBefore (StepsBy sys tables) (InCut sys.cons c.args.cuts.now) s (k + 1)) _ _ (halted_more (StepsBy sys tables) (InCut sys.cons c.args.cuts.now) s k runs at.long) (λ p h x. halted_apart (StepsBy sys tables) (InCut sys.cons c.args.cuts.now) s k runs at.long p h x.0) at.halted c.in_ok-outside.ensures.halted;
    }

pub note_halted-requires-clause-states : goal.note_halted-requires-clause-states
note_halted-requires-clause-states g c =
    subst (λ l. All (EndsInState c.args.semantics.now) (runs_of l)) (sym c.as_slice.ensures.value) (long_states c.args.semantics.now c.args.program.now c.args.cuts.now c.args.state.now.term c.loop-level._level (runs_of c.loop-level.outside.items) c.rules-rules.ensures.valid c.requires.state c.loop-level.invariant.long.sound)

pub note_halted-requires-clause-once : goal.note_halted-requires-clause-once
note_halted-requires-clause-once g c = subst (λ l. NoneTwice (runs_of l)) (sym c.as_slice.ensures.value) c.loop-level.invariant.long.once

pub returns-clause-met : goal.returns-clause-met
returns-clause-met g c =
    let end : c.loop-level._level ≡ c.args.steps = omega arith in
    subst (λ k. AreExactly (MetFrom c.args.semantics.now c.args.program.now c.args.cuts.now c.args.state.now.term k) (runs_of c.loop-level.met)) end c.loop-level.invariant.met

pub returns-clause-long : goal.returns-clause-long
returns-clause-long g c =
    let end : c.loop-level._level ≡ c.args.steps = omega arith in
    subst (λ l. AreExactly (LongFrom c.args.semantics.now c.args.program.now c.args.cuts.now c.args.state.now.term c.args.steps) (runs_of l)) (sym c.from_vec.ensures) (subst (λ k. AreExactly (LongFrom c.args.semantics.now c.args.program.now c.args.cuts.now c.args.state.now.term k) (runs_of c.loop-level.outside.items)) end c.loop-level.invariant.long)

pub returns-clause-halted : goal.returns-clause-halted
returns-clause-halted g c =
    let end : c.loop-level._level ≡ c.args.steps = omega arith in
    let sys = c.args.semantics.now in
    let tables = c.args.program.now in
    let s = c.args.state.now.term in
    let n = c.args.steps in
    let runs = runs_of c.loop-level.outside.items in
    let long = subst (λ k. AreExactly (LongFrom sys tables c.args.cuts.now s k) runs) end c.loop-level.invariant.long in
    let below = subst (λ k. AreExactly (HaltedBefore (StepsBy sys tables) (InCut sys.cons c.args.cuts.now) s k) (runs_of c.loop-level.halted)) end c.loop-level.invariant.halted in
    let noted = subst (λ l. AddsExactly (Stops (StepsBy sys tables) (runs_of l)) (runs_of c.loop-level.halted) (runs_of c.note_halted.new.halted)) c.as_slice.ensures.value c.in_ok-note_halted.ensures in
    exactly_adds (HaltedBefore (StepsBy sys tables) (InCut sys.cons c.args.cuts.now) s n) (Stops (StepsBy sys tables) runs) (HaltedFrom sys tables c.args.cuts.now s n) _ _ (halted_last (StepsBy sys tables) (InCut sys.cons c.args.cuts.now) s n runs long c.requires.steps) (halted_apart (StepsBy sys tables) (InCut sys.cons c.args.cuts.now) s n runs long) below noted
