use Rattle.std.proofs.Common.{arith, ◌≡◌, take, slice_get, All, Some, subst, sym, ap, ◌∙◌}
use Rattle.std.proofs.lemmas.List.{take_all}
use Rattle.sort_term.proofs.Standing.{get-some}
use Rattle.ground_step.specs.Steps.{IsTrueBranch}
use Rattle.ground_step.proofs.steps.taken.Goals as goal

pub returns-then-is_true : goal.returns-then-is_true
returns-then-is_true g c =
    let b = c.index-branches-place.result in
    let there : slice_get c.args.branches.now c.loop-place.place ≡ Some b = get-some c.args.branches.now c.loop-place.place b c.loop-place-test.true ∙ ap Some (sym c.index-branches-place.is) in
    let holds : IsTrueBranch b = subst IsTrueBranch (sym c.index-branches-place.is) (c.is_true.ensures.0 c.if-is_true.true) in
    (b, there, holds)

pub returns : goal.returns
returns g c =
    let all : take c.loop-place.place c.args.branches.now ≡ c.args.branches.now = take_all c.loop-place.place c.args.branches.now (omega arith) in
    subst (All (λ b. ¬ IsTrueBranch b)) all c.loop-place.invariant
