use Rattle.std.proofs.Common.{arith, ◌≤◌, length, Some, None, subst}
use Rattle.std.specs.Prelude.{option_map}
use Rattle.ground_step.specs.Steps.{StepIs, term_of}
use Rattle.ground_step.proofs.FirstRuns.{none_more, first_here, none_steps}
use Rattle.ground_step.proofs.first.first_step.Goals as goal

pub returns-in-Some : goal.returns-in-Some
returns-in-Some g c =
    let sys = c.args.semantics.now in
    let tables = c.args.program.now in
    let s = c.args.state.now.term in
    let n = c.loop-place.place in
    let told : StepIs sys tables n s (option_map term_of c.in_ok-next.field-0) = c.in_ok-next.ensures in
    let made : StepIs sys tables n s (Some c.in-Some.next.term) = subst (λ o. StepIs sys tables n s (option_map term_of o)) c.in-Some.is told in
    first_here sys tables s n c.in-Some.next.term c.loop-place.invariant made

pub loop-place-preserved : goal.loop-place-preserved
loop-place-preserved g c =
    let sys = c.args.semantics.now in
    let tables = c.args.program.now in
    let s = c.args.state.now.term in
    let n = c.loop-place.place in
    let told : StepIs sys tables n s (option_map term_of c.in_ok-next.field-0) = c.in_ok-next.ensures in
    let unmade : StepIs sys tables n s None = subst (λ o. StepIs sys tables n s (option_map term_of o)) c.in_default.is told in
    none_more sys tables s n c.loop-place.invariant unmade

pub returns : goal.returns
returns g c =
    let end : length c.args.semantics.now.rules ≤ c.loop-place.place = rw c.rules.ensures.value at (let l : length c.rules.result.now ≤ c.loop-place.place = omega arith in l) in
    none_steps c.args.semantics.now c.args.program.now c.args.state.now.term c.loop-place.place end c.loop-place.invariant
