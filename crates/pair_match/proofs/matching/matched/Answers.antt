use Rattle.std.proofs.Common.{◌≡◌, map, sym, subst, ◌∙◌}
use Rattle.sort_term.specs.NodeTerms.{seen_term}
use Rattle.unify.specs.Binds.{seen_binds}
use Rattle.probe_keys.proofs.Holding.{pairs_stay}
use Rattle.pair_match.specs.Bound.{bound_to}
use Rattle.pair_match.specs.Matches.{AreMatched}
use Rattle.pair_match.specs.Related.{IsTestOf}
use Rattle.pair_match.specs.Sameness.{seen_sameness}
use Rattle.pair_match.proofs.Nodes.{all_to_node, bound_stay, all_bound_stay}
use Rattle.pair_match.proofs.Points.{point_matched}
use Rattle.pair_match.proofs.matching.matched.Goals as goal

pub tested-requires-clause-bound : goal.tested-requires-clause-bound
tested-requires-clause-bound g c = all_bound_stay (g.D.Domain.look c.args.d.now) (g.D.Domain.look c.compared.new.d) c.in_ok-equations.ensures.extends c.args.point.now.vars c.args.binds.now c.requires.determined.bound

pub bound_nodes-requires : goal.bound_nodes-requires
bound_nodes-requires g c =
    let first = g.D.Domain.look c.args.d.now in
    let compared_in = g.D.Domain.look c.compared.new.d in
    let tested_in = g.D.Domain.look c.tested.new.d in
    let vars = c.args.point.now.vars in
    let binds = c.args.binds.now in
    let bound = all_bound_stay first compared_in c.in_ok-equations.ensures.extends vars binds c.requires.determined.bound in
    all_to_node vars (seen_binds tested_in binds) (all_bound_stay compared_in tested_in c.in_ok-test.ensures.extends vars binds bound)

pub returns-clause-matched : goal.returns-clause-matched
returns-clause-matched g c =
    let first = g.D.Domain.look c.args.d.now in
    let compared_in = g.D.Domain.look c.compared.new.d in
    let tested_in = g.D.Domain.look c.tested.new.d in
    let variables = g.D.Domain.variables c.args.d.now in
    let q = c.args.problem.now in
    let p = c.args.point.now in
    let a = seen_term first c.args.left.now in
    let b = seen_term first c.args.right.now in
    let binds = c.args.binds.now in
    let bs = seen_binds first binds in
    let ss = map tested_in c.in_ok-binds.binds in
    let s = seen_sameness compared_in c.in_ok-equations.field-0 in
    let test = tested_in c.in_ok-test.test in
    let adds = c.in_ok-equations.ensures.compared in
    let bound = all_bound_stay first compared_in c.in_ok-equations.ensures.extends p.vars binds c.requires.determined.bound in
    let same = bound_stay first compared_in c.in_ok-equations.ensures.extends p.vars binds c.requires.determined.bound in
    let same_later = bound_stay compared_in tested_in c.in_ok-test.ensures.extends p.vars binds bound in
    let nodes : bs ≡ bound_to ss = sym same ∙ sym same_later ∙ c.in_ok-binds.ensures in
    let tests : IsTestOf bs s.equations p.whens test =
    subst (λ es. IsTestOf bs (map compared_in es) p.whens test) c.as_slice.ensures (subst (λ xs. IsTestOf xs (map compared_in c.as_slice.result.now) p.whens test) same c.in_ok-test.ensures.test) in
    subst (AreMatched variables q p a b ss test) (sym (pairs_stay compared_in tested_in c.in_ok-test.ensures.extends c.in_ok-equations.field-0.maps adds.lawful.maps))
    (point_matched q p c.requires.point a b first variables (g.met.D.Domain.laws c.args.d.now) binds ss nodes c.requires.determined s adds test tests)
