use Rattle.std.proofs.Common.{◌≡◌, true}
use Rattle.data_value.specs.Nodes.{Extends}
use Rattle.data_value.specs.Truth.{truth}
use Rattle.sort_term.specs.NodeTerms.{seen_term, tree_of}
use Rattle.probe_keys.specs.Cases.{seen_cases}
use Rattle.pair_match.specs.MoreCases.{AreMoreCases}
use Rattle.pair_match.proofs.Relating.{RelatedBelow}
use Rattle.pair_match.proofs.between.cases_between.Given as goal

-- the cases added so far say that one of the points so far relates the states
abbrev pub invariant-loop-point : goal.invariant-loop-point
invariant-loop-point g l =
    let look = g.D.Domain.look in
    let variables = g.D.Domain.variables in
    let first = look l.fn.d in
    record {
      extends : Extends first (look l.d);
      same_variables : variables l.d ≡ variables l.fn.d;
      more : AreMoreCases (variables l.fn.d)
          (λ v. (truth (first l.condition) v ≡ true) × RelatedBelow l.problem l.point (tree_of v (seen_term first l.left.term)) (tree_of v (seen_term first l.right.term)))
          (seen_cases first l.fn.cases) (seen_cases (look l.d) l.found);
    }
