use Rattle.std.proofs.Common.{◌≡◌, map, take}
use Rattle.data_value.specs.Nodes.{Extends}
use Rattle.sort_term.specs.NodeTerms.{seen_term}
use Rattle.unify.specs.Binds.{seen_binds, GiveAll}
use Rattle.unify.proofs.evaluation.+evaluate.Given as goal

-- the terms so far are those of the expressions so far
abbrev pub invariant-evaluate_all-loop-expr : goal.invariant-evaluate_all-loop-expr
invariant-evaluate_all-loop-expr g l =
    let look = g.D.Domain.look in
    record {
      extends : Extends (look l.fn.d) (look l.d);
      same_variables : g.D.Domain.variables l.d ≡ g.D.Domain.variables l.fn.d;
      values : GiveAll l.semantics.cons (seen_binds (look l.fn.d) l.binds) (take l.expr-index l.exprs) (map (seen_term (look l.d)) l.terms.items);
    }
