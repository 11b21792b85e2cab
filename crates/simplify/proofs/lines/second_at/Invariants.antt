use Rattle.std.proofs.Common.{◌≡◌, ℕ, ◌<◌, slice_get, Some}
use Rattle.simplify.specs.declared.pair.Pair.{Pair}
use Rattle.simplify.proofs.lines.second_at.Given as goal

abbrev pub invariant-loop-pair : goal.invariant-loop-pair
invariant-loop-pair g l = (k : ℕ) (p : Pair _) → k < l.pair-index → slice_get l.pairs k ≡ Some p → (g.D.Domain.look l.d p.first).id ≡ Some l.id → ⊥
