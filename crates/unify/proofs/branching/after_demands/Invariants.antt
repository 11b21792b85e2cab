use Rattle.std.proofs.Common.{◌≡◌}
use Rattle.data_value.specs.Nodes.{Extends}
use Rattle.unify.specs.Matchings.{seen_matchings, AllMet}
use Rattle.unify.specs.Scopes.{rule_scope_of}
use Rattle.unify.proofs.branching.after_demands.Given as goal

-- the matchings in which moreover the demands so far are met
abbrev pub invariant-loop-place : goal.invariant-loop-place
invariant-loop-place g l =
    let look = g.D.Domain.look in
    record {
      extends : Extends (look l.fn.d) (look l.d);
      same_variables : g.D.Domain.variables l.d ≡ g.D.Domain.variables l.fn.d;
      met : AllMet (rule_scope_of l.semantics l.program (g.D.Domain.variables l.fn.d) l.rule) l.place (seen_matchings (look l.fn.d) l.fn.matchings) (seen_matchings (look l.d) l.found);
    }
