use Rattle.std.proofs.Common.{◌≡◌, ◌↔◌, ◌+◌, ◌<◌, ℕ, length}
use Rattle.prover.specs.Splitting.{IsMarked}
use Rattle.prover.proofs.splitting.only_last.Given as goal

abbrev pub invariant-loop-place : goal.invariant-loop-place
invariant-loop-place l = record {
  count : length l.marks.items ≡ l.place;
  last : (p : ℕ) → IsMarked l.marks.items p ↔ ((p < l.place) × (p + 1 ≡ l.count));
}
