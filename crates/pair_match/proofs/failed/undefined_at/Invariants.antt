use Rattle.std.proofs.Common.{◌≡◌, true, Any, take}
use Rattle.data_value.specs.Nodes.{Extends}
use Rattle.data_value.specs.Truth.{truth}
use Rattle.sort_term.specs.NodeTerms.{seen_term, tree_of}
use Rattle.probe_keys.specs.Cases.{seen_cases}
use Rattle.pair_match.specs.MoreCases.{AreMoreCases}
use Rattle.pair_match.proofs.Undefined.{CoversAt}
use Rattle.pair_match.proofs.failed.undefined_at.Given as goal

-- the cases added so far say that one of the undefined items so far covers the leaf's state
abbrev pub invariant-loop-place : goal.invariant-loop-place
invariant-loop-place g l =
    let look = g.D.Domain.look in
    let variables = g.D.Domain.variables in
    let first = look l.fn.d in
    record {
      extends : Extends first (look l.d);
      same_variables : variables l.d ≡ variables l.fn.d;
      more : AreMoreCases (variables l.fn.d)
          (λ v. (truth (first l.leaf.condition) v ≡ true) × Any (CoversAt l.problem (tree_of v (seen_term first l.leaf.config.term))) (take l.place-index l.problem.points.undefs))
          (seen_cases first l.fn.cases) (seen_cases (look l.d) l.found);
    }
