use Rattle.std.proofs.Common.{◌≡◌, None, sym, ap, ◌∙◌}
use Rattle.ground_step.specs.Fit.{IsValueBound, some_plain}
use Rattle.ground_step.proofs.Lists.{all_here}
use Rattle.ground_step.proofs.Pairs.{value_of_bound, values_more}
use Rattle.ground_step.proofs.relation.valuation.Goals as goal

pub unreachable-requires : goal.unreachable-requires
unreachable-requires c =
    let v : IsValueBound c.bound-item.result = all_here IsValueBound c.as_slice-bound-items.result.now c.loop-bound.bound-index c.bound-item.result c.loop-bound-test.true c.bound-item.is (rw c.as_slice-bound-items.ensures c.requires) in
    let e : None ≡ some_plain v.0 = sym c.in-None.is ∙ v.1 in
    cc

pub loop-bound-preserved : goal.loop-bound-preserved
loop-bound-preserved c =
    let v : IsValueBound c.bound-item.result = all_here IsValueBound c.as_slice-bound-items.result.now c.loop-bound.bound-index c.bound-item.result c.loop-bound-test.true c.bound-item.is (rw c.as_slice-bound-items.ensures c.requires) in
    let w = value_of_bound c.bound-item.result c.in-Some.tree v c.in-Some.is in
    values_more c.loop-bound.values _ c.as_slice-bound-items.result.now c.loop-bound.bound-index c.bound-item.result c.in_ok-value-in-Some.value c.in_ok-push-in-Some.ensures.ok c.loop-bound.invariant (ap some_plain c.in_ok-value-in-Some.ensures ∙ w) c.loop-bound-test.true c.bound-item.is
