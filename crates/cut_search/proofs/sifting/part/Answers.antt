use Rattle.std.proofs.Common.{◌≡◌, true, subst, [], ◌∷◌}
use Rattle.data_value.specs.Truth.{truth}
use Rattle.data_value.proofs.Grown.{extends-both}
use Rattle.path_condition.specs.Leaves.{seen_leaf, seen_leaves, Says}
use Rattle.path_condition.proofs.LeafLemmas.{leaf_stays}
use Rattle.cut_search.specs.Found.{under, IsSifted, judged_by}
use Rattle.cut_search.proofs.Kept.{valid_stays, leaf_later, under_leaf, sifted_now, sifted_same, part_says, one_before}
use Rattle.cut_search.proofs.sifting.part.Goals as goal

pub sift-requires-clause-state : goal.sift-requires-clause-state
sift-requires-clause-state g c = valid_stays (g.D.Domain.look c.args.d.now) (g.D.Domain.look c.both.new.d) c.both.ensures.extends c.args.leaf.now.config.term c.requires.state

pub returns-clause-extends : goal.returns-clause-extends
returns-clause-extends g c = extends-both _ _ _ c.both.ensures.extends c.sift.ensures.extends

pub returns-clause-sifted : goal.returns-clause-sifted
returns-clause-sifted g c = λ sys is.
    let look = g.D.Domain.look in
    let variables = g.D.Domain.variables c.args.d.now in
    let Judged = judged_by g.J.Drops.Allows g.J.Drops.Keeps in
    let before = look c.args.d.now in
    let now = look c.both.new.d in
    let after = look c.sift.new.d in
    let first = before c.args.before.now in
    let leaf = c.args.leaf.now in
    let l = seen_leaf before leaf in
    let n = now c.in_ok-condition.condition in
    let s = before c.args.condition.now in
    let means = c.in_ok-condition.ensures.means in
    let kept = seen_leaves after c.in_ok-sift.field-0.kept in
    let dropped = seen_leaves after c.in_ok-sift.field-0.dropped in
    let made = c.in_ok-sift.ensures.sifted sys (under_leaf sys n (seen_leaf now leaf) means.condition (leaf_later before now c.both.ensures.extends sys leaf is)) in
    let here = sifted_now variables (g.D.Domain.variables c.both.new.d) c.both.ensures.same_variables (first ∷ []) (now c.args.before.now ∷ []) (one_before before now c.both.ensures.extends c.args.before.now c.requires.before) sys Judged (λ v rules t. Says v rules t (under n (seen_leaf now leaf))) kept dropped made in
    let same : IsSifted variables sys (Judged variables (first ∷ [])) (λ v rules t. Says v rules t (under n l)) kept dropped =
    subst (λ k. IsSifted variables sys (Judged variables (first ∷ [])) (λ v rules t. Says v rules t (under n k)) kept dropped) (leaf_stays before now c.both.ensures.extends sys leaf is) here in
    sifted_same variables sys (Judged variables (first ∷ [])) (λ v rules t. Says v rules t (under n l)) (λ v rules t. Says v rules t l × (truth s v ≡ true)) kept dropped
    (λ v fits rules t x. (part_says l s n means v rules t).0 x)
    (λ v fits rules t x. (part_says l s n means v rules t).1 x)
    same
