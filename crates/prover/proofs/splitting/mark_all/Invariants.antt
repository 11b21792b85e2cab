use Rattle.std.proofs.Common.{◌≡◌, length, take}
use Rattle.prover.specs.Splitting.{AreMarkedMore}
use Rattle.prover.proofs.splitting.mark_all.Given as goal

abbrev pub invariant-loop-place : goal.invariant-loop-place
invariant-loop-place l = record {
  count : length l.marks ≡ length l.fn.marks;
  more : AreMarkedMore (take l.place-index l.places) l.fn.marks l.marks;
}
