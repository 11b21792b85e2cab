use Rattle.std.proofs.Common.{arith, sym, ◌∙◌}
use Rattle.sort_term.specs.Relation.{Related}
use Rattle.ground_step.specs.Reach.{EndsInState, end_of, run_of}
use Rattle.ground_step.proofs.Lists.{image_here}
use Rattle.ground_judge.proofs.Turns.{any_mapped, all_through, some_related}
use Rattle.ground_judge.proofs.left_partners.has_right.Goals as goal

pub related-requires-clause-right : goal.related-requires-clause-right
related-requires-clause-right c =
    rw c.last.ensures (image_here (EndsInState c.args.problem.now.right) run_of c.args.rights.now c.loop-right.right-index c.right-item.result c.requires.rights c.loop-right-test.true c.right-item.is)

pub returns-then-is_some : goal.returns-then-is_some
returns-then-is_some c =
    let told = rw c.last.ensures at c.in_ok-related.ensures in
    any_mapped (λ x. Related c.args.problem.now c.args.left.now.term (end_of x)) run_of c.args.rights.now c.loop-right.right-index c.right-item.result c.loop-right-test.true c.right-item.is (some_related c.args.problem.now c.args.left.now.term (end_of (run_of c.right-item.result)) c.in_ok-related.field-0 told (sym c.is_some.ensures ∙ c.if-is_some.true))

pub returns : goal.returns
returns c = all_through (λ x. ¬ Related c.args.problem.now c.args.left.now.term (end_of x)) run_of c.args.rights.now c.loop-right.right-index (omega arith) c.loop-right.invariant
