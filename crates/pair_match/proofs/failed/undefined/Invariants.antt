use Rattle.std.proofs.Common.{◌≡◌, take}
use Rattle.data_value.specs.Nodes.{Extends}
use Rattle.sort_term.specs.Relation.{IsUndefined}
use Rattle.path_condition.specs.Leaves.{seen_leaves}
use Rattle.probe_keys.specs.Cases.{seen_cases}
use Rattle.pair_match.specs.MoreCases.{AreMoreCases}
use Rattle.pair_match.specs.Unmatched.{SomeHolds}
use Rattle.pair_match.proofs.failed.undefined.Given as goal

-- the cases added so far say that one of the leaves so far is undefined
abbrev pub invariant-loop-leaf : goal.invariant-loop-leaf
invariant-loop-leaf g l =
    let look = g.D.Domain.look in
    let variables = g.D.Domain.variables in
    let first = look l.fn.d in
    record {
      extends : Extends first (look l.d);
      same_variables : variables l.d ≡ variables l.fn.d;
      more : AreMoreCases (variables l.fn.d) (λ v. SomeHolds v (IsUndefined l.problem) (seen_leaves first (take l.leaf-index l.leaves))) (seen_cases first l.fn.cases) (seen_cases (look l.d) l.found);
    }
