use Rattle.std.proofs.Common.{◌≡◌, IsSome, refl, sym, subst, ap, ◌∙◌}
use Rattle.sort_term.specs.Tree.{value}
use Rattle.sort_term.specs.NodeTerms.{seen_term, seen_sort, tree_of}
use Rattle.sort_term.proofs.NodeTerming.{term_stays}
use Rattle.unify.specs.Binds.{seen_binds}
use Rattle.path_condition.proofs.LeafLemmas.{configuration_valid}
use Rattle.pair_match.specs.Clash.{ClashSomewhere}
use Rattle.pair_match.specs.Sameness.{nothing, seen_sameness}
use Rattle.pair_match.proofs.Comparisons.{adds_both, adds_before}
use Rattle.pair_match.proofs.Nodes.{all_nodes, config_sorted, bound_stay, all_bound_stay}
use Rattle.pair_match.proofs.matching.compared.Goals as goal

pub compare-requires-clause-binds : goal.compare-requires-clause-binds
compare-requires-clause-binds g c = all_nodes c.args.point.now.vars (seen_binds (g.D.Domain.look c.args.d.now) c.args.binds.now) c.requires.determined.bound

pub compare-requires-clause-term : goal.compare-requires-clause-term
compare-requires-clause-term g c =
    let p = c.args.point.now in
    subst IsSome (sym (config_sorted p.vars (seen_binds (g.D.Domain.look c.args.d.now) c.args.binds.now) c.requires.determined.bound c.args.problem.now.left p.left c.requires.point.left_term)) refl

pub compare-requires-clause-config : goal.compare-requires-clause-config
compare-requires-clause-config g c =
    let p = c.args.point.now in
    c.requires.left.is ∙ sym (config_sorted p.vars (seen_binds (g.D.Domain.look c.args.d.now) c.args.binds.now) c.requires.determined.bound c.args.problem.now.left p.left c.requires.point.left_term)

pub compare-requires-2-clause-binds : goal.compare-requires-2-clause-binds
compare-requires-2-clause-binds g c =
    let first = g.D.Domain.look c.args.d.now in
    let now = g.D.Domain.look c.compare.new.d in
    let vars = c.args.point.now.vars in
    all_nodes vars (seen_binds now c.args.binds.now) (all_bound_stay first now c.in_ok-compare.ensures.extends vars c.args.binds.now c.requires.determined.bound)

pub compare-requires-2-clause-term : goal.compare-requires-2-clause-term
compare-requires-2-clause-term g c =
    let first = g.D.Domain.look c.args.d.now in
    let now = g.D.Domain.look c.compare.new.d in
    let p = c.args.point.now in
    let bound = all_bound_stay first now c.in_ok-compare.ensures.extends p.vars c.args.binds.now c.requires.determined.bound in
    subst IsSome (sym (config_sorted p.vars (seen_binds now c.args.binds.now) bound c.args.problem.now.right p.right c.requires.point.right_term)) refl

pub compare-requires-2-clause-config : goal.compare-requires-2-clause-config
compare-requires-2-clause-config g c =
    let first = g.D.Domain.look c.args.d.now in
    let now = g.D.Domain.look c.compare.new.d in
    let p = c.args.point.now in
    let right = c.args.problem.now.right in
    let bound = all_bound_stay first now c.in_ok-compare.ensures.extends p.vars c.args.binds.now c.requires.determined.bound in
    let stays = term_stays first now c.in_ok-compare.ensures.extends c.args.right.now (configuration_valid right (seen_term first c.args.right.now) c.requires.right) in
    ap (seen_sort right.cons) stays ∙ c.requires.right.is ∙ sym (config_sorted p.vars (seen_binds now c.args.binds.now) bound right p.right c.requires.point.right_term)

pub compare-requires-2-clause-clear : goal.compare-requires-2-clause-clear
compare-requires-2-clause-clear g c =
    let first = g.D.Domain.look c.args.d.now in
    let now = g.D.Domain.look c.compare.new.d in
    let stays = term_stays first now c.in_ok-compare.ensures.extends c.args.right.now (configuration_valid c.args.problem.now.right (seen_term first c.args.right.now) c.requires.right) in
    λ k. c.requires.determined.right_clear (subst (ClashSomewhere c.args.point.now.right) stays k)

pub returns-clause-compared : goal.returns-clause-compared
returns-clause-compared g c =
    let first = g.D.Domain.look c.args.d.now in
    let now = g.D.Domain.look c.compare.new.d in
    let p = c.args.point.now in
    let variables = g.D.Domain.variables c.args.d.now in
    let bs = seen_binds first c.args.binds.now in
    let a = seen_term first c.args.left.now in
    let b = seen_term first c.args.right.now in
    let middle = seen_sameness now c.compare.new.sameness in
    let new = seen_sameness (g.D.Domain.look c.compare-2.new.d) c.compare-2.new.sameness in
    let same = bound_stay first now c.in_ok-compare.ensures.extends p.vars c.args.binds.now c.requires.determined.bound in
    let stays = term_stays first now c.in_ok-compare.ensures.extends c.args.right.now (configuration_valid c.args.problem.now.right b c.requires.right) in
    let left = rw (c.new.ensures, c.new-2.ensures) at c.in_ok-compare.ensures.compared in
    let right = adds_before variables (g.D.Domain.variables c.compare.new.d) bs (seen_binds now c.args.binds.now) b (seen_term now c.args.right.now) p.right middle new c.in_ok-compare.ensures.same_variables same stays c.in_ok-compare-2.ensures.compared in
    adds_both variables bs nothing middle new (λ v w. value w p.left ≡ tree_of v a) (λ v w. value w p.right ≡ tree_of v b) (λ v w. (value w p.left ≡ tree_of v a) × (value w p.right ≡ tree_of v b)) (λ v w. (λ h. h, λ h. h)) left right
