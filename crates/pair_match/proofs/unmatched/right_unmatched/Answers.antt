use Rattle.std.proofs.Common.{ap}
use Rattle.path_condition.specs.Leaves.{seen_leaf, seen_leaves}
use Rattle.probe_keys.specs.Cases.{seen_cases}
use Rattle.pair_match.specs.Unmatched.{HasLeftPartner}
use Rattle.pair_match.proofs.Adding.{none_added}
use Rattle.pair_match.proofs.unmatched.right_unmatched.Goals as goal

pub returns-clause-unmatched : goal.returns-clause-unmatched
returns-clause-unmatched g c =
    let look = g.D.Domain.look in
    let variables = g.D.Domain.variables in
    let first = look c.args.d.now in
    let now = look c.left_partners.new.d in
    let leaf = c.args.leaf.now in
    let found = c.in_ok-cases.ensures in
    none_added (variables c.args.d.now) (variables c.left_partners.new.d) (variables c.no_case.new.d) (first leaf.condition) (now leaf.condition) (look c.no_case.new.d c.in_ok-no_case.field-0)
    (HasLeftPartner c.args.problem.now (seen_leaf first leaf) (seen_leaves first c.args.others.now)) (seen_cases now c.in_ok-cases.cases) (seen_cases now c.as_slice.result.now)
    found.same_variables (found.extends.keeps leaf.condition c.requires.leaf.condition.valid) (ap (seen_cases now) c.as_slice.ensures) found.partners c.in_ok-no_case.ensures.none
