use Rattle.std.proofs.Common.{◌≡◌, [], take}
use Rattle.data_value.specs.Nodes.{Extends}
use Rattle.path_condition.specs.Leaves.{seen_leaf, seen_leaves}
use Rattle.probe_keys.specs.Cases.{seen_cases}
use Rattle.pair_match.specs.MoreCases.{AreMoreCases}
use Rattle.pair_match.specs.Unmatched.{HasRightPartner}
use Rattle.pair_match.proofs.unmatched.right_partners.Given as goal

-- the cases say that one of the leaves so far is a partner
abbrev pub invariant-loop-other : goal.invariant-loop-other
invariant-loop-other g l =
    let look = g.D.Domain.look in
    let variables = g.D.Domain.variables in
    let first = look l.fn.d in
    record {
      extends : Extends first (look l.d);
      same_variables : variables l.d ≡ variables l.fn.d;
      partners : AreMoreCases (variables l.fn.d) (HasRightPartner l.problem (seen_leaf first l.leaf) (seen_leaves first (take l.other-index l.others))) [] (seen_cases (look l.d) l.cases);
    }
