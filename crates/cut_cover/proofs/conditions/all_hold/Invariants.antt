use Rattle.std.proofs.Common.{◌≡◌, take}
use Rattle.data_value.specs.Nodes.{Extends}
use Rattle.sort_term.specs.Cuts.{AllTrue}
use Rattle.unify.specs.Binds.{seen_binds}
use Rattle.cut_cover.specs.Conditions.{IsTrueWhere}
use Rattle.cut_cover.proofs.conditions.all_hold.Given as goal

-- the node joins the conditions so far
abbrev pub invariant-loop-condition : goal.invariant-loop-condition
invariant-loop-condition g l =
    let look = g.D.Domain.look in
    let first = look l.fn.d in
    record {
      extends : Extends first (look l.d);
      same_variables : g.D.Domain.variables l.d ≡ g.D.Domain.variables l.fn.d;
      holding : IsTrueWhere (seen_binds first l.binds) (λ w. AllTrue w (take l.condition-index l.conditions)) (look l.d l.joined);
    }
