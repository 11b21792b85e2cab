use Rattle.std.proofs.Common.{arith, All, Any}
use Rattle.sort_term.specs.Relation.{Related}
use Rattle.ground_step.specs.Reach.{EndsInState, end_of, run_of, runs_of}
use Rattle.ground_step.proofs.Lists.{image_here}
use Rattle.ground_judge.proofs.Turns.{any_mapped, all_more, all_through}
use Rattle.ground_judge.proofs.right_partners.are_rights_matched.Goals as goal

pub has_left-requires-clause-right : goal.has_left-requires-clause-right
has_left-requires-clause-right c =
    rw c.last.ensures (image_here (EndsInState c.args.problem.now.right) run_of c.args.rights.now c.loop-right.right-index c.right-item.result c.requires.rights c.loop-right-test.true c.right-item.is)

pub returns-then-not-branch : goal.returns-then-not-branch
returns-then-not-branch c =
    let told = rw (c.if-not-branch.true, c.last.ensures) at c.in_ok-has_left.ensures in
    any_mapped (λ r. All (λ l. ¬ Related c.args.problem.now (end_of l) (end_of r)) (runs_of c.args.lefts.now)) run_of c.args.rights.now c.loop-right.right-index c.right-item.result c.loop-right-test.true c.right-item.is told

pub loop-right-preserved : goal.loop-right-preserved
loop-right-preserved c =
    let told = rw (c.if-not-branch.false, c.last.ensures) at c.in_ok-has_left.ensures in
    all_more (λ r. Any (λ l. Related c.args.problem.now (end_of l) (end_of r)) (runs_of c.args.lefts.now)) run_of c.args.rights.now c.loop-right.right-index c.right-item.result c.loop-right-test.true c.right-item.is c.loop-right.invariant told

pub returns : goal.returns
returns c = all_through (λ r. Any (λ l. Related c.args.problem.now (end_of l) (end_of r)) (runs_of c.args.lefts.now)) run_of c.args.rights.now c.loop-right.right-index (omega arith) c.loop-right.invariant
