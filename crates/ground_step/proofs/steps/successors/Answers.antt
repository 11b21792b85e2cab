use Rattle.std.proofs.Common.{arith, ◌≡◌, ◌+◌, ◌≤◌, [], ◌∷◌, ◌++◌, length, Some, None, subst, sym, ap, ◌∙◌}
use Rattle.std.specs.Prelude.{option_map}
use Rattle.std.proofs.lemmas.List.{map-append}
use Rattle.ground_step.specs.Steps.{StepIs, term_of, step_of, steps_of}
use Rattle.ground_step.proofs.Listing.{AreStepsBelow, same_below, more_below, all_below}
use Rattle.ground_step.proofs.steps.successors.Goals as goal
use Rattle.ground_step.proofs.steps.successors.Goals.{in-Some+in_ok-push, in_default}

pub loop-place-preserved : goal.loop-place-preserved
loop-place-preserved g c =
    let told : StepIs c.args.semantics.now c.args.program.now c.loop-place.place c.args.state.now.term (option_map term_of c.in_ok-next.field-0) = c.in_ok-next.ensures in
    let sys = c.args.semantics.now in
    let s = c.args.state.now.term in
    let n = c.loop-place.place in
    let before = c.loop-place.steps in
    elim c.match-branch-2.branch [
      | in-Some+in_ok-push w ↦
          let made : StepIs sys c.args.program.now n s (Some w.in-Some.next.term) = subst (λ o. StepIs sys c.args.program.now n s (option_map term_of o)) w.in-Some.is told in
          let longer : steps_of c.match-branch-2.steps ≡ steps_of before ++ (n, w.in-Some.next.term) ∷ [] =
          ap (λ xs. steps_of xs) (w.steps-is ∙ w.in_ok-push.ensures.ok) ∙ map-append step_of before _ in
          subst (AreStepsBelow sys c.args.program.now s (n + 1)) (sym longer) (more_below sys c.args.program.now s n (steps_of before) w.in-Some.next.term c.loop-place.invariant made)
      | in_default w ↦
          let unmade : StepIs sys c.args.program.now n s None = subst (λ o. StepIs sys c.args.program.now n s (option_map term_of o)) w.in_default.is told in
          subst (λ xs. AreStepsBelow sys c.args.program.now s (n + 1) (steps_of xs)) (sym w.steps-is) (same_below sys c.args.program.now s n (steps_of before) c.loop-place.invariant unmade)
    ]

pub returns : goal.returns
returns g c =
    let end : length c.args.semantics.now.rules ≤ c.loop-place.place = rw c.rules.ensures.value at (let l : length c.rules.result.now ≤ c.loop-place.place = omega arith in l) in
    all_below c.args.semantics.now c.args.program.now c.args.state.now.term c.loop-place.place (steps_of c.loop-place.steps) end c.loop-place.invariant
