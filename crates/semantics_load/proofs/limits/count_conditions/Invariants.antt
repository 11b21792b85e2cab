use Rattle.std.proofs.Common.{◌≡◌, ◌≤◌, take, count_by}
use Rattle.semantics_load.specs.Limits.{is_condition}
use Rattle.semantics_load.proofs.limits.count_conditions.Given as goal

abbrev pub invariant-loop-demand : goal.invariant-loop-demand
invariant-loop-demand l = (l.count ≡ count_by is_condition (take l.demand-index l.demands)) × (l.count ≤ l.demand-index)
