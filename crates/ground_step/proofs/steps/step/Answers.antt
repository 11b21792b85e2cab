use Rattle.std.proofs.Common.{◌≡◌, Some, All, subst, sym, ◌∙◌}
use Rattle.std.specs.Prelude.{MatchOption}
use Rattle.ground_step.specs.Steps.{IsTrueBranch, IsTrueBranchAt}
use Rattle.ground_step.proofs.Taken.{state_configuration, step_taken, step_none}
use Rattle.ground_step.proofs.steps.step.Goals as goal

pub branches-requires-clause-config : goal.branches-requires-clause-config
branches-requires-clause-config g c = state_configuration c.args.semantics.now c.args.state.now.term c.requires.state

pub returns-in-Some : goal.returns-in-Some
returns-in-Some g c =
    let found = c.in_ok-found.found in
    let told : IsTrueBranchAt found c.in-Some.place = subst (λ o. MatchOption o (All (λ b. ¬ IsTrueBranch b) found) (IsTrueBranchAt found)) c.in-Some.is (rw c.as_slice.ensures at c.taken.ensures) in
    let same : Some told.0 ≡ Some c.remove.result = sym told.1 ∙ c.remove.ensures.item in
    let is : told.0 ≡ c.remove.result = cc in
    step_taken c.args.semantics.now c.args.program.now c.args.rule.0 c.args.state.now.term c.rules-rules.ensures.valid found c.in_ok-found.ensures.branches c.in-Some.place c.remove.result c.remove.ensures.item (subst IsTrueBranch is told.2)

pub returns : goal.returns
returns g c =
    let found = c.in_ok-found.found in
    let told : All (λ b. ¬ IsTrueBranch b) found = subst (λ o. MatchOption o (All (λ b. ¬ IsTrueBranch b) found) (IsTrueBranchAt found)) c.in-None.is (rw c.as_slice.ensures at c.taken.ensures) in
    step_none c.args.semantics.now c.args.program.now c.args.rule.0 c.args.state.now.term c.rules-rules.ensures.valid found c.in_ok-found.ensures.branches told
