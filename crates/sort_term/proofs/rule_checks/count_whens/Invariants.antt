use Rattle.std.proofs.Common.{◌≡◌, ◌≤◌, take, count_by}
use Rattle.sort_term.specs.Rules.{is_when}
use Rattle.sort_term.proofs.rule_checks.count_whens.Given as goal

abbrev pub invariant-loop-demand : goal.invariant-loop-demand
invariant-loop-demand l = (l.count ≡ count_by is_when (take l.demand-index l.demands)) × (l.count ≤ l.demand-index)
