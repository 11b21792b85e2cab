use Rattle.std.proofs.Common.{◌≡◌, ◌&&◌, All, sym, subst}
use Rattle.data_value.specs.Truth.{IsTruth, truth}
use Rattle.sort_term.specs.Cuts.{AllTrue}
use Rattle.unify.specs.Binds.{seen_binds}
use Rattle.cut_cover.specs.Conditions.{IsBoundCondition, IsTrueWhere}
use Rattle.pair_match.proofs.Nodes.{nodes_valid, all_nodes, bound_stay, all_bound_stay}
use Rattle.pair_match.proofs.Points.{whens_bound, test_joined}
use Rattle.pair_match.proofs.matching.tested.Goals as goal

pub all_hold-requires-clause-valid : goal.all_hold-requires-clause-valid
all_hold-requires-clause-valid g c =
    let look = g.D.Domain.look in
    let now = look c.all.new.d in
    let vars = c.args.point.now.vars in
    let binds = c.args.binds.now in
    let bs = seen_binds now binds in
    nodes_valid bs (all_nodes vars bs (all_bound_stay (look c.args.d.now) now c.in_ok-equal.ensures.extends vars binds c.requires.bound))

pub all_hold-requires-clause-conditions : goal.all_hold-requires-clause-conditions
all_hold-requires-clause-conditions g c =
    let look = g.D.Domain.look in
    let p = c.args.point.now in
    let cons = c.args.problem.now.left.cons in
    let bs = seen_binds (look c.args.d.now) c.args.binds.now in
    let same = bound_stay (look c.args.d.now) (look c.all.new.d) c.in_ok-equal.ensures.extends p.vars c.args.binds.now c.requires.bound in
    rw c.as_slice.ensures (subst (λ xs. All (IsBoundCondition cons xs) p.whens) (sym same) (whens_bound cons p.vars bs p.whens c.requires.bound c.requires.point.whens.sorted))

pub returns-clause-test : goal.returns-clause-test
returns-clause-test g c =
    let look = g.D.Domain.look in
    let p = c.args.point.now in
    let bs = seen_binds (look c.args.d.now) c.args.binds.now in
    let equal_in = look c.all.new.d in
    let holding_in = look c.all_hold.new.d in
    let same = bound_stay (look c.args.d.now) equal_in c.in_ok-equal.ensures.extends p.vars c.args.binds.now c.requires.bound in
    let equal = equal_in c.in_ok-equal.equal in
    let holding = holding_in c.in_ok-holding.holding in
    let next = look c.both.new.d c.in_ok-both.field-0 in
    let holds : IsTrueWhere bs (λ w. AllTrue w p.whens) holding =
    subst (λ es. IsTrueWhere bs (λ w. AllTrue w es) holding) c.as_slice.ensures (subst (λ xs. IsTrueWhere xs (λ w. AllTrue w c.as_slice.result.now) holding) same c.in_ok-holding.ensures.holding) in
    let kept : holding_in c.in_ok-equal.equal ≡ equal = c.in_ok-holding.ensures.extends.keeps c.in_ok-equal.equal c.in_ok-equal.ensures.means.condition.valid in
    let joins : IsTruth next (λ v. truth equal v && truth holding v) = subst (λ u. IsTruth next (λ v. truth u v && truth holding v)) kept c.in_ok-both.ensures.means in
    test_joined bs _ p.whens equal holding next c.in_ok-equal.ensures.means holds joins
