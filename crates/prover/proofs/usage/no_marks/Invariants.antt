use Rattle.std.proofs.Common.{◌≡◌, ℕ, length}
use Rattle.prover.specs.Splitting.{IsMarked}
use Rattle.prover.proofs.usage.no_marks.Given as goal

abbrev pub invariant-loop-place : goal.invariant-loop-place
invariant-loop-place l = record {
  count : length l.marks.items ≡ l._place;
  none : (p : ℕ) → IsMarked l.marks.items p → ⊥;
}
