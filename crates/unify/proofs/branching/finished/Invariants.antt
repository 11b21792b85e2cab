use Rattle.std.proofs.Common.{◌≡◌, take}
use Rattle.data_value.specs.Nodes.{Extends}
use Rattle.unify.specs.Branches.{seen_branches}
use Rattle.unify.specs.Matchings.{seen_matchings, BranchesOf}
use Rattle.unify.proofs.branching.finished.Given as goal

-- the branches of the matchings so far
abbrev pub invariant-loop-matching : goal.invariant-loop-matching
invariant-loop-matching g l =
    let look = g.D.Domain.look in
    record {
      extends : Extends (look l.fn.d) (look l.d);
      same_variables : g.D.Domain.variables l.d ≡ g.D.Domain.variables l.fn.d;
      made : BranchesOf l.semantics l.rule (take l.matching-index (seen_matchings (look l.fn.d) l.matchings)) (seen_branches (look l.d) l.branches);
    }
