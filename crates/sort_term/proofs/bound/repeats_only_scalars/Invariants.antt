use Rattle.std.proofs.Common.{◌≡◌, ℕ, ◌<◌, ◌∷◌, IsTrue, slice_get, Some}
use Rattle.sort_term.specs.declared.rule.Var.{Var}
use Rattle.sort_term.specs.Stands.{times_in, let_patterns}
use Rattle.sort_term.specs.Signature.{is_scalar_own}
use Rattle.sort_term.proofs.bound.repeats_only_scalars.Given as goal

abbrev pub invariant-loop-i : goal.invariant-loop-i
invariant-loop-i l = (k : ℕ) → k < l.i → (x : Var) → slice_get l.vars k ≡ Some x → 1 < times_in k (l.pattern ∷ let_patterns l.demands) → IsTrue (is_scalar_own x.sort)
