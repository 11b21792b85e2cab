use Rattle.std.proofs.Common.{◌≡◌, length, map, take}
use Rattle.data_value.specs.Nodes.{Extends}
use Rattle.sort_term.specs.NodeTerms.{seen_term}
use Rattle.unify.specs.Meets.{seen_matching, AreAllJoined}
use Rattle.unify.specs.Scopes.{scope_of, change_of}
use Rattle.unify.proofs.matching.+join.Given as goal

-- the patterns so far are joined with the terms so far
abbrev pub invariant-join_all-loop-i : goal.invariant-join_all-loop-i
invariant-join_all-loop-i g l =
    let look = g.D.Domain.look in
    record {
      long : length l.terms ≡ length l.patterns;
      extends : Extends (look l.fn.d) (look l.d);
      same_variables : g.D.Domain.variables l.d ≡ g.D.Domain.variables l.fn.d;
      joined : AreAllJoined (scope_of l.semantics.cons l.vars (g.D.Domain.variables l.fn.d)) (take l.i l.patterns) (map (seen_term (look l.fn.d)) (take l.i l.terms)) (change_of (seen_matching (look l.fn.d) l.fn.matching) (seen_matching (look l.d) l.matching));
    }
