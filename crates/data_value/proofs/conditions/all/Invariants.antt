use Rattle.std.proofs.Common.{◌≡◌, map, take}
use Rattle.data_value.specs.Nodes.{Extends}
use Rattle.data_value.specs.Truth.{all_true, IsTruth, IsAllFoldedFrom}
use Rattle.data_value.proofs.conditions.all.Given as goal

-- the node joins the conditions so far
abbrev pub invariant-loop-condition : goal.invariant-loop-condition
invariant-loop-condition g l =
    let look = g.D.Domain.look in
    let so_far = take l.condition-index (map (look l.fn.d) l.conditions) in
    record {
      extends : Extends (look l.fn.d) (look l.d);
      same_variables : g.D.Domain.variables l.d ≡ g.D.Domain.variables l.fn.d;
      means : IsTruth (look l.d l.joined) (all_true so_far);
      knows : IsAllFoldedFrom so_far (look l.d l.joined);
    }
