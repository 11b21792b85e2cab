use Rattle.std.proofs.Common.{◌≡◌, ℕ, ◌<◌, ◌∷◌, IsTrue, slice_get, take, Some}
use Rattle.sort_term.specs.declared.rule.Demand.{Demand}
use Rattle.sort_term.specs.Stands.{StandsIn, demand_reads, let_patterns}
use Rattle.sort_term.proofs.bound.is_bound_in_time.Given as goal

abbrev pub invariant-loop-k : goal.invariant-loop-k
invariant-loop-k l = (j : ℕ) (d : Demand) → j < l.k → slice_get l.demands j ≡ Some d → IsTrue (demand_reads l.i d) → StandsIn l.i (l.head ∷ let_patterns (take j l.demands))
