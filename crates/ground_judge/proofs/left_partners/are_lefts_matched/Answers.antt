use Rattle.std.proofs.Common.{arith, All, Any}
use Rattle.sort_term.specs.Relation.{Related}
use Rattle.ground_step.specs.Reach.{EndsInState, end_of, run_of, runs_of}
use Rattle.ground_step.proofs.Lists.{image_here}
use Rattle.ground_judge.proofs.Turns.{any_mapped, all_more, all_through}
use Rattle.ground_judge.proofs.left_partners.are_lefts_matched.Goals as goal

pub has_right-requires-clause-left : goal.has_right-requires-clause-left
has_right-requires-clause-left c =
    rw c.last.ensures (image_here (EndsInState c.args.problem.now.left) run_of c.args.lefts.now c.loop-left.left-index c.left-item.result c.requires.lefts c.loop-left-test.true c.left-item.is)

pub returns-then-not-branch : goal.returns-then-not-branch
returns-then-not-branch c =
    let told = rw (c.if-not-branch.true, c.last.ensures) at c.in_ok-has_right.ensures in
    any_mapped (λ l. All (λ r. ¬ Related c.args.problem.now (end_of l) (end_of r)) (runs_of c.args.rights.now)) run_of c.args.lefts.now c.loop-left.left-index c.left-item.result c.loop-left-test.true c.left-item.is told

pub loop-left-preserved : goal.loop-left-preserved
loop-left-preserved c =
    let told = rw (c.if-not-branch.false, c.last.ensures) at c.in_ok-has_right.ensures in
    all_more (λ l. Any (λ r. Related c.args.problem.now (end_of l) (end_of r)) (runs_of c.args.rights.now)) run_of c.args.lefts.now c.loop-left.left-index c.left-item.result c.loop-left-test.true c.left-item.is c.loop-left.invariant told

pub returns : goal.returns
returns c = all_through (λ l. Any (λ r. Related c.args.problem.now (end_of l) (end_of r)) (runs_of c.args.rights.now)) run_of c.args.lefts.now c.loop-left.left-index (omega arith) c.loop-left.invariant
