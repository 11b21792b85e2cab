use Rattle.std.proofs.Common.{ℕ, ◌<◌, ◌∷◌}
use Rattle.sort_term.specs.Stands.{StandsIn, let_patterns}
use Rattle.sort_term.proofs.bound.all_stand_in.Given as goal

abbrev pub invariant-loop-i : goal.invariant-loop-i
invariant-loop-i l = (k : ℕ) → k < l.i → StandsIn k (l.pattern ∷ let_patterns l.demands)
