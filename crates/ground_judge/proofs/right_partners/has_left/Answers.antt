use Rattle.std.proofs.Common.{arith, sym, ◌∙◌}
use Rattle.sort_term.specs.Relation.{Related}
use Rattle.ground_step.specs.Reach.{EndsInState, end_of, run_of}
use Rattle.ground_step.proofs.Lists.{image_here}
use Rattle.ground_judge.proofs.Turns.{any_mapped, all_through, some_related}
use Rattle.ground_judge.proofs.right_partners.has_left.Goals as goal

pub related-requires-clause-left : goal.related-requires-clause-left
related-requires-clause-left c =
    rw c.last.ensures (image_here (EndsInState c.args.problem.now.left) run_of c.args.lefts.now c.loop-left.left-index c.left-item.result c.requires.lefts c.loop-left-test.true c.left-item.is)

pub returns-then-is_some : goal.returns-then-is_some
returns-then-is_some c =
    let told = rw c.last.ensures at c.in_ok-related.ensures in
    any_mapped (λ x. Related c.args.problem.now (end_of x) c.args.right.now.term) run_of c.args.lefts.now c.loop-left.left-index c.left-item.result c.loop-left-test.true c.left-item.is (some_related c.args.problem.now (end_of (run_of c.left-item.result)) c.args.right.now.term c.in_ok-related.field-0 told (sym c.is_some.ensures ∙ c.if-is_some.true))

pub returns : goal.returns
returns c = all_through (λ x. ¬ Related c.args.problem.now (end_of x) c.args.right.now.term) run_of c.args.lefts.now c.loop-left.left-index (omega arith) c.loop-left.invariant
