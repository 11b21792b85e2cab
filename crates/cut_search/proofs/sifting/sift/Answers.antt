use Rattle.std.proofs.Common.{[], ◌∷◌, subst}
use Rattle.data_value.proofs.Grown.{extends-both}
use Rattle.path_condition.specs.Leaves.{seen_leaf, seen_leaves, Says}
use Rattle.cut_search.specs.Found.{under, IsSifted, judged_by}
use Rattle.cut_search.proofs.Kept.{valid_stays, condition_stays, one_before, sifted_now, sifted_same, simpler_condition, simpler_says, under_here, under_moved}
use Rattle.cut_search.proofs.sifting.sift.Goals as goal

pub sift_as_it_is-requires-clause-before : goal.sift_as_it_is-requires-clause-before
sift_as_it_is-requires-clause-before g c = condition_stays (g.D.Domain.look c.args.d.now) (g.D.Domain.look c.simplify.new.d) c.simplify.ensures.extends c.args.before.now c.requires.before

pub sift_as_it_is-requires-clause-state : goal.sift_as_it_is-requires-clause-state
sift_as_it_is-requires-clause-state g c = valid_stays (g.D.Domain.look c.args.d.now) (g.D.Domain.look c.simplify.new.d) c.simplify.ensures.extends c.args.leaf.now.config.term c.requires.state

pub sift_as_it_is-requires-clause-condition : goal.sift_as_it_is-requires-clause-condition
sift_as_it_is-requires-clause-condition g c = simpler_condition _ _ _ c.requires.condition c.in_ok-simpler.ensures.simpler

pub returns-clause-extends : goal.returns-clause-extends
returns-clause-extends g c = extends-both _ _ _ c.simplify.ensures.extends c.sift_as_it_is.ensures.extends

pub returns-clause-sifted : goal.returns-clause-sifted
returns-clause-sifted g c = λ sys is.
    let look = g.D.Domain.look in
    let variables = g.D.Domain.variables c.args.d.now in
    let Judged = judged_by g.J.Drops.Allows g.J.Drops.Keeps in
    let first = look c.args.d.now in
    let now = look c.simplify.new.d in
    let after = look c.sift_as_it_is.new.d in
    let leaf = c.args.leaf.now in
    let n = c.in_ok-simpler.simpler in
    let simpler = c.in_ok-simpler.ensures.simpler in
    let before = first c.args.before.now in
    let kept = seen_leaves after c.in_ok-sift_as_it_is.field-0.kept in
    let dropped = seen_leaves after c.in_ok-sift_as_it_is.field-0.dropped in
    let l = seen_leaf first leaf in
    let same = under_here first now c.simplify.ensures.extends (now n) leaf c.requires.state in
    let made = c.in_ok-sift_as_it_is.ensures.sifted sys (under_moved sys (first c.args.condition) (now n) l (under (now n) (seen_leaf now leaf)) same (simpler_condition variables (first c.args.condition) (now n) c.requires.condition simpler) is) in
    let here = sifted_now variables (g.D.Domain.variables c.simplify.new.d) c.simplify.ensures.same_variables (before ∷ []) (now c.args.before.now ∷ []) (one_before first now c.simplify.ensures.extends c.args.before.now c.requires.before) sys Judged
    (λ v rules t. Says v rules t (under (now n) (seen_leaf now leaf))) kept dropped made in
    sifted_same variables sys (Judged variables (before ∷ [])) (λ v rules t. Says v rules t (under (now n) l)) (λ v rules t. Says v rules t (under (first c.args.condition) l)) kept dropped
    (λ v fits rules t x. (simpler_says variables (first c.args.condition) (now n) simpler l v fits rules t).0 x)
    (λ v fits rules t x. (simpler_says variables (first c.args.condition) (now n) simpler l v fits rules t).1 x)
    (subst (λ k. IsSifted variables sys (Judged variables (before ∷ [])) (λ v rules t. Says v rules t k) kept dropped) same here)
