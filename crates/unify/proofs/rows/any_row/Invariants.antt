use Rattle.std.proofs.Common.{◌≡◌, take}
use Rattle.std.specs.Prelude.{Any}
use Rattle.data_value.specs.Nodes.{Extends}
use Rattle.sort_term.specs.Stands.{times}
use Rattle.unify.specs.Meets.{seen_matching}
use Rattle.unify.specs.Matchings.{seen_matchings, GoOn, ReadsRow}
use Rattle.unify.specs.Scopes.{scope_of}
use Rattle.unify.proofs.rows.any_row.Given as goal

-- the matchings so far go on where one of the rows so far is read
abbrev pub invariant-loop-row : goal.invariant-loop-row
invariant-loop-row g l =
    let look = g.D.Domain.look in
    record {
      extends : Extends (look l.fn.d) (look l.d);
      same_variables : g.D.Domain.variables l.d ≡ g.D.Domain.variables l.fn.d;
      rows : GoOn (scope_of l.semantics.cons l.vars (g.D.Domain.variables l.fn.d)) (seen_matching (look l.fn.d) l.matching) (λ i. times i l.pattern) (λ v w. Any (ReadsRow (look l.fn.d l.node) l.pattern v w) (take l.row-index l.rows)) (seen_matchings (look l.d) l.matchings);
    }
