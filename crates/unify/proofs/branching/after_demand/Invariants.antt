use Rattle.std.proofs.Common.{◌≡◌, ◌+◌, take}
use Rattle.std.specs.Prelude.{Any}
use Rattle.data_value.specs.Nodes.{Extends}
use Rattle.sort_term.specs.Step.{Demanded}
use Rattle.unify.specs.Meets.{Fulfils}
use Rattle.unify.specs.Matchings.{seen_matchings, AreAfter, Together}
use Rattle.unify.proofs.branching.after_demand.Given as goal

-- the matchings so far go on from the first ones where the demand is met
abbrev pub invariant-loop-matching : goal.invariant-loop-matching
invariant-loop-matching g l =
    let look = g.D.Domain.look in
    record {
      extends : Extends (look l.fn.d) (look l.d);
      same_variables : g.D.Domain.variables l.d ≡ g.D.Domain.variables l.fn.d;
      next : AreAfter l.semantics l.rule (l.place + 1) (seen_matchings (look l.d) l.found) × Together (g.D.Domain.variables l.fn.d) (seen_matchings (look l.d) l.found) (λ v w. Any (Fulfils v w) (take l.matching-index (seen_matchings (look l.fn.d) l.matchings)) × Demanded l.program w l.demand);
    }
