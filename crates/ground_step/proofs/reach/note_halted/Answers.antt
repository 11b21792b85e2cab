use Rattle.std.proofs.Common.{◌≡◌, ◌≢◌, ◌+◌, ◌∷◌, [], ◌++◌, take, true, false, sym, ap, subst, ◌∙◌}
use Rattle.std.proofs.lemmas.List.{take_more, map-append}
use Rattle.sort_term.specs.Step.{StepsBy}
use Rattle.ground_step.specs.Steps.{AreSteps, steps_of}
use Rattle.ground_step.specs.Reach.{end_of, run_of, runs_of, EndsInState, AddsExactly, Stops}
use Rattle.ground_step.proofs.Lists.{image_here}
use Rattle.ground_step.proofs.Growing.{new_at, stops_stuck, stops_moved, steps_nil, steps_some}
use Rattle.ground_step.proofs.reach.note_halted.Goals as goal
use Rattle.ground_step.proofs.reach.note_halted.Goals.{then-is_empty+in_ok-copy+in_ok-push, else-is_empty}

pub successors-requires-clause-state : goal.successors-requires-clause-state
successors-requires-clause-state g c =
    rw c.last.ensures (image_here (EndsInState c.args.semantics.now) run_of c.args.runs.now c.loop-run.run-index c.run-item.result c.requires.states c.loop-run-test.true c.run-item.is)

pub loop-run-preserved : goal.loop-run-preserved
loop-run-preserved g c =
    let sys = c.args.semantics.now in
    let tables = c.args.program.now in
    let run = c.run-item.result in
    let xs = c.args.runs.now in
    let i = c.loop-run.run-index in
    let steps = c.in_ok-successors.field-0 in
    let all : AreSteps sys tables (end_of (run_of run)) (steps_of steps) = rw c.last.ensures at c.in_ok-successors.ensures in
    let before = runs_of (take i xs) in
    let longer : runs_of (take (i + 1) xs) ≡ before ++ run_of run ∷ [] = ap (λ l. runs_of l) (take_more xs i run c.loop-run-test.true ∙ ap (λ z. take i xs ++ z ∷ []) (sym c.run-item.is)) ∙ map-append run_of (take i xs) (run ∷ []) in
    elim c.if-is_empty.branch [
      | then-is_empty+in_ok-copy+in_ok-push w ↦
          let none : steps ≡ [] = c.is_empty-in-loop-run.ensures.0 w.if-is_empty.true in
          let noted : runs_of c.if-is_empty.halted ≡ runs_of c.loop-run.halted ++ run_of run ∷ [] =
          ap (λ l. runs_of l) (w.halted-is ∙ w.in_ok-push.ensures.ok) ∙ map-append run_of c.loop-run.halted _ ∙ ap (λ p. runs_of c.loop-run.halted ++ p ∷ []) w.in_ok-copy.ensures in
          subst (λ l. AddsExactly (Stops (StepsBy sys tables) l) (runs_of c.args.halted.now) (runs_of c.if-is_empty.halted)) (sym longer) (subst (AddsExactly (Stops (StepsBy sys tables) (before ++ run_of run ∷ [])) (runs_of c.args.halted.now)) (sym noted) (stops_stuck sys tables (run_of run) (steps_of steps) all before (new_at xs i run c.loop-run-test.true c.run-item.is c.requires.once) _ _ (steps_nil steps none) c.loop-run.invariant))
      | else-is_empty w ↦
          let some : steps ≢ [] = (λ e. let y : c.is_empty-in-loop-run.result ≡ true = c.is_empty-in-loop-run.ensures.1 e in let q : true ≡ false = sym y ∙ w.if-is_empty.false in cc) in
          subst (λ l. AddsExactly (Stops (StepsBy sys tables) l) (runs_of c.args.halted.now) (runs_of c.if-is_empty.halted)) (sym longer) (subst (λ h. AddsExactly (Stops (StepsBy sys tables) (before ++ run_of run ∷ [])) (runs_of c.args.halted.now) (runs_of h)) (sym w.halted-is) (stops_moved sys tables (run_of run) (steps_of steps) all before _ _ (steps_some steps some) c.loop-run.invariant))
    ]
