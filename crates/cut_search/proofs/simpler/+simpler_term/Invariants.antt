use Rattle.std.proofs.Common.{◌≡◌, map, take}
use Rattle.data_value.specs.Nodes.{Extends}
use Rattle.sort_term.specs.NodeTerms.{seen_term}
use Rattle.cut_search.specs.Simpler.{AreSimplerTerms}
use Rattle.cut_search.proofs.simpler.+simpler_term.Given as goal

-- the terms so far are simpler
abbrev pub invariant-simpler_terms-loop-term : goal.invariant-simpler_terms-loop-term
invariant-simpler_terms-loop-term g l =
    let look = g.D.Domain.look in
    record {
      extends : Extends (look l.fn.d) (look l.d);
      same_variables : g.D.Domain.variables l.d ≡ g.D.Domain.variables l.fn.d;
      simpler : AreSimplerTerms (g.D.Domain.variables l.fn.d) (map (seen_term (look l.fn.d)) (take l.term-index l.terms)) (map (seen_term (look l.d)) l.simpler.items);
    }
