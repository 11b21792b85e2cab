use Rattle.std.proofs.Common.{[], ◌∷◌}
use Rattle.data_value.proofs.Grown.{extends-both}
use Rattle.sort_term.specs.Cuts.{InCut}
use Rattle.path_condition.specs.Leaves.{seen_leaf, Says}
use Rattle.cut_search.specs.Found.{seen_reach, SplitOf, judged_by}
use Rattle.cut_search.proofs.Kept.{leaf_valid, condition_stays, one_before, reach_now, simpler_is_leaf, simpler_splits}
use Rattle.cut_search.proofs.splitting.split.Goals as goal

pub simpler_leaf-requires-clause-state : goal.simpler_leaf-requires-clause-state
simpler_leaf-requires-clause-state g c = leaf_valid (g.D.Domain.look c.args.d.now) c.args.semantics.now c.args.leaf.now c.requires.leaf

pub divide-requires-clause-before : goal.divide-requires-clause-before
divide-requires-clause-before g c = condition_stays (g.D.Domain.look c.args.d.now) (g.D.Domain.look c.simpler_leaf.new.d) c.simpler_leaf.ensures.extends c.args.before.now c.requires.before

pub divide-requires-clause-leaf : goal.divide-requires-clause-leaf
divide-requires-clause-leaf g c = simpler_is_leaf (g.D.Domain.variables c.args.d.now) c.args.semantics.now _ _ c.in_ok-simpler.ensures.simpler c.requires.leaf

pub returns-clause-extends : goal.returns-clause-extends
returns-clause-extends g c = extends-both _ _ _ c.simpler_leaf.ensures.extends c.divide.ensures.extends

pub returns-clause-reach : goal.returns-clause-reach
returns-clause-reach g c =
    let look = g.D.Domain.look in
    let variables = g.D.Domain.variables c.args.d.now in
    let Judged = judged_by g.J.Drops.Allows g.J.Drops.Keeps in
    let sys = c.args.semantics.now in
    let In = InCut sys.cons c.args.cuts.now in
    let first = look c.args.d.now in
    let now = look c.simpler_leaf.new.d in
    let l = seen_leaf first c.args.leaf.now in
    let m = seen_leaf now c.in_ok-simpler.simpler in
    let r = seen_reach (look c.divide.new.d) c.in_ok-divide.field-0 in
    let before = first c.args.before.now in
    let here = reach_now variables (g.D.Domain.variables c.simpler_leaf.new.d) c.simpler_leaf.ensures.same_variables (before ∷ []) (now c.args.before.now ∷ []) (one_before first now c.simpler_leaf.ensures.extends c.args.before.now c.requires.before) sys Judged
    (SplitOf In (λ v rules t. Says v rules t m)) r c.in_ok-divide.ensures.reach in
    simpler_splits variables sys (Judged variables (before ∷ [])) In l m c.in_ok-simpler.ensures.simpler r here
