use Rattle.std.proofs.Common.{◌≡◌, ℕ, ◌<◌, ◌∷◌, IsTrue, slice_get, take, Some}
use Rattle.sort_term.specs.declared.rule.Demand.{Demand}
use Rattle.sort_term.specs.Stands.{StandsIn, demand_reads, let_patterns}
use Rattle.sort_term.proofs.bound.are_bound_in_time.Given as goal

abbrev pub invariant-loop-i : goal.invariant-loop-i
invariant-loop-i l = (j : ℕ) → j < l.i → (k : ℕ) (d : Demand) → slice_get l.demands k ≡ Some d → IsTrue (demand_reads j d) → StandsIn j (l.head ∷ let_patterns (take k l.demands))
