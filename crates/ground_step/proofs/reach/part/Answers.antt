use Rattle.std.proofs.Common.{◌≡◌, ◌↔◌, ◌∷◌, [], ◌++◌, length, All, IsTrue, true, false, refl, sym, ap, subst, ◌∙◌}
use Rattle.std.specs.Vec.Iter.{into_iter_items}
use Rattle.std.proofs.lemmas.List.{map-append}
use Rattle.std.proofs.lemmas.List.Elements.{All-head, All-tail}
use Rattle.sort_term.specs.Cuts.{InCut}
use Rattle.ground_step.specs.Reach.{NoneTwice, end_of, run_of, runs_of, EndsInState, EndsIn, AddsExactly}
use Rattle.ground_step.proofs.Lists.{contains_nil}
use Rattle.ground_step.proofs.Exactly.{adds_none}
use Rattle.ground_step.proofs.Growing.{turn_more, turn_end, new_in_turn, ends_keep, ends_add}
use Rattle.ground_step.proofs.reach.part.Goals as goal

pub loop-run-init : goal.loop-run-init
loop-run-init g c =
    let gives = c.into_iter-run-iterator.ensures.into_iter_gives in
    record {
      turn = record { whole = refl; long = gives.1 ∙ c.args.runs.ok.0 ∙ sym (ap length gives.0) };
      states = subst (λ l. All (EndsInState c.args.semantics.now) (runs_of l)) (sym gives.0) c.requires.states;
      outside = adds_none (EndsIn [] (λ t. ¬ InCut c.args.semantics.now.cons c.args.cuts.now t)) (runs_of c.args.outside.now.items) (λ q e. contains_nil q e.0);
      met = adds_none (EndsIn [] (InCut c.args.semantics.now.cons c.args.cuts.now)) (runs_of c.args.met.now) (λ q e. contains_nil q e.0);
    }

pub in_cut-requires-clause-state : goal.in_cut-requires-clause-state
in_cut-requires-clause-state g c =
    let states = subst (λ l. All (EndsInState c.args.semantics.now) (runs_of l)) c.in-Some.ensures.steps.0 c.loop-run.invariant.states in
    rw c.last.ensures (All-head (EndsInState c.args.semantics.now) (run_of c.in-Some.run') (runs_of (into_iter_items c.next.new.self)) states)

pub loop-run-preserved-in-Continue-branch-2 : goal.loop-run-preserved-in-Continue-branch-2
loop-run-preserved-in-Continue-branch-2 g c =
    let at = c.loop-run in
    let run = c.in-Some.run' in
    let sys = c.args.semantics.now in
    let told : IsTrue c.in_ok-in_cut.field-0 ↔ InCut sys.cons c.args.cuts.now (end_of (run_of run)) = rw c.last.ensures at c.in_ok-in_cut.ensures in
    let new = new_in_turn _ at.yielded (into_iter_items at.run-iterator) (into_iter_items c.next.new.self) run _ at.invariant.turn c.in-Some.ensures.steps.0 (subst (λ l. NoneTwice (runs_of l)) (sym c.into_iter-run-iterator.ensures.into_iter_gives.0) c.requires.once) in
    let longer = map-append run_of at.yielded (run ∷ []) in
    let states = subst (λ l. All (EndsInState sys) (runs_of l)) c.in-Some.ensures.steps.0 at.invariant.states in
    record {
      turn = turn_more _ at.yielded (into_iter_items at.run-iterator) (into_iter_items c.next.new.self) run _ _ at.invariant.turn c.in-Some.ensures.steps.0 c.in-Some.ensures.steps.1;
      states = All-tail (EndsInState sys) (run_of run) (runs_of (into_iter_items c.next.new.self)) states;
      outside = subst (λ l. AddsExactly (EndsIn l (λ t. ¬ InCut sys.cons c.args.cuts.now t)) (runs_of c.args.outside.now.items) (runs_of at.outside.items)) (sym longer) (ends_keep (runs_of at.yielded) (run_of run) (λ t. ¬ InCut sys.cons c.args.cuts.now t) _ _ (λ n. n (told.0 c.if-branch.true)) at.invariant.outside);
      met = subst (λ l. AddsExactly (EndsIn l (InCut sys.cons c.args.cuts.now)) (runs_of c.args.met.now) (runs_of c.push.new.self)) (sym longer) (subst (AddsExactly (EndsIn (runs_of at.yielded ++ run_of run ∷ []) (InCut sys.cons c.args.cuts.now)) (runs_of c.args.met.now)) (sym (ap (λ l. runs_of l) c.in_ok-push.ensures.ok ∙ map-append run_of at.met (run ∷ []))) (ends_add (runs_of at.yielded) (run_of run) (InCut sys.cons c.args.cuts.now) _ _ new (told.0 c.if-branch.true) at.invariant.met));
    }

pub loop-run-preserved : goal.loop-run-preserved
loop-run-preserved g c =
    let at = c.loop-run in
    let run = c.in-Some.run' in
    let sys = c.args.semantics.now in
    let told : IsTrue c.in_ok-in_cut.field-0 ↔ InCut sys.cons c.args.cuts.now (end_of (run_of run)) = rw c.last.ensures at c.in_ok-in_cut.ensures in
    let new = new_in_turn _ at.yielded (into_iter_items at.run-iterator) (into_iter_items c.next.new.self) run _ at.invariant.turn c.in-Some.ensures.steps.0 (subst (λ l. NoneTwice (runs_of l)) (sym c.into_iter-run-iterator.ensures.into_iter_gives.0) c.requires.once) in
    let out : ¬ InCut sys.cons c.args.cuts.now (end_of (run_of run)) = (λ n. let y : c.in_ok-in_cut.field-0 ≡ true = told.1 n in let q : true ≡ false = sym y ∙ c.if-branch.false in cc) in
    let longer = map-append run_of at.yielded (run ∷ []) in
    let states = subst (λ l. All (EndsInState sys) (runs_of l)) c.in-Some.ensures.steps.0 at.invariant.states in
    record {
      turn = turn_more _ at.yielded (into_iter_items at.run-iterator) (into_iter_items c.next.new.self) run _ _ at.invariant.turn c.in-Some.ensures.steps.0 c.in-Some.ensures.steps.1;
      states = All-tail (EndsInState sys) (run_of run) (runs_of (into_iter_items c.next.new.self)) states;
      outside = subst (λ l. AddsExactly (EndsIn l (λ t. ¬ InCut sys.cons c.args.cuts.now t)) (runs_of c.args.outside.now.items) (runs_of c.push-else-branch.new.self.items)) (sym longer) (subst (AddsExactly (EndsIn (runs_of at.yielded ++ run_of run ∷ []) (λ t. ¬ InCut sys.cons c.args.cuts.now t)) (runs_of c.args.outside.now.items)) (sym (ap (λ l. runs_of l) c.in_ok-push-2.ensures.items ∙ map-append run_of at.outside.items (run ∷ []))) (ends_add (runs_of at.yielded) (run_of run) (λ t. ¬ InCut sys.cons c.args.cuts.now t) _ _ new out at.invariant.outside));
      met = subst (λ l. AddsExactly (EndsIn l (InCut sys.cons c.args.cuts.now)) (runs_of c.args.met.now) (runs_of at.met)) (sym longer) (ends_keep (runs_of at.yielded) (run_of run) (InCut sys.cons c.args.cuts.now) _ _ out at.invariant.met);
    }

pub returns-clause-outside : goal.returns-clause-outside
returns-clause-outside g c =
    let whole = turn_end _ c.loop-run.yielded (into_iter_items c.loop-run.run-iterator) _ c.loop-run.invariant.turn c.in-None.ensures.steps.0 ∙ c.into_iter-run-iterator.ensures.into_iter_gives.0 in
    subst (λ l. AddsExactly (EndsIn (runs_of l) (λ t. ¬ InCut c.args.semantics.now.cons c.args.cuts.now t)) (runs_of c.args.outside.now.items) (runs_of c.loop-run.outside.items)) whole c.loop-run.invariant.outside

pub returns-clause-met : goal.returns-clause-met
returns-clause-met g c =
    let whole = turn_end _ c.loop-run.yielded (into_iter_items c.loop-run.run-iterator) _ c.loop-run.invariant.turn c.in-None.ensures.steps.0 ∙ c.into_iter-run-iterator.ensures.into_iter_gives.0 in
    subst (λ l. AddsExactly (EndsIn (runs_of l) (InCut c.args.semantics.now.cons c.args.cuts.now)) (runs_of c.args.met.now) (runs_of c.loop-run.met)) whole c.loop-run.invariant.met
