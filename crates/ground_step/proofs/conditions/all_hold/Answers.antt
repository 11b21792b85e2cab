use Rattle.std.proofs.Common.{arith, ◌≡◌, take, true, subst}
use Rattle.std.proofs.lemmas.List.{take_all}
use Rattle.sort_term.specs.Tree.{value, IsTrueTree}
use Rattle.sort_term.specs.Cuts.{AllTrue}
use Rattle.ground_step.specs.GroundBinds.{Restricts}
use Rattle.ground_step.proofs.Lists.{all_more, all_split}
use Rattle.ground_step.proofs.Bound.{restricts_both, restricts_stop}
use Rattle.ground_step.proofs.conditions.all_hold.Goals as goal

pub loop-condition-preserved : goal.loop-condition-preserved
loop-condition-preserved g c =
    let bs = c.args.binds.now in
    restricts_both bs bs bs true (λ v. AllTrue v (take c.loop-condition.condition-index c.args.conditions.now)) (λ v. IsTrueTree (value v c.condition-item.result)) _ c.loop-condition.invariant (rw c.if-not-branch.false at c.in_ok-holds.ensures) (λ v.
    all_more (λ e. IsTrueTree (value v e)) c.args.conditions.now c.loop-condition.condition-index c.condition-item.result c.loop-condition-test.true c.condition-item.is)

pub returns-then-not-branch : goal.returns-then-not-branch
returns-then-not-branch g c =
    let bs = c.args.binds.now in
    restricts_stop bs bs bs (λ v. AllTrue v (take c.loop-condition.condition-index c.args.conditions.now)) (λ v. IsTrueTree (value v c.condition-item.result)) _ c.loop-condition.invariant (rw c.if-not-branch.true at c.in_ok-holds.ensures) (λ v.
    all_split (λ e. IsTrueTree (value v e)) c.args.conditions.now c.loop-condition.condition-index c.condition-item.result c.loop-condition-test.true c.condition-item.is)

pub returns : goal.returns
returns g c =
    let bs = c.args.binds.now in
    let all : take c.loop-condition.condition-index c.args.conditions.now ≡ c.args.conditions.now = take_all c.loop-condition.condition-index c.args.conditions.now (omega arith) in
    subst (λ es. Restricts bs bs true (λ v. AllTrue v es)) all c.loop-condition.invariant
