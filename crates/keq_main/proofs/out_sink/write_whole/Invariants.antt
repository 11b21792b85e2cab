-- Each turn writes a byte or ends, and what is written so far is a front of the piece.
use Rattle.std.proofs.Common.{length, ◌-◌, ◌≤◌, take}
use Rattle.std.specs.Io.KnownBytes.{Appends}
use Rattle.keq_main.proofs.out_sink.write_whole.Given as goal

abbrev pub invariant-loop-at : goal.invariant-loop-at
invariant-loop-at g l =
    record {
      within : l.at ≤ length l.piece;
      written : Appends (g.W.Write.contents l.initial.out) (g.W.Write.contents l.out) (take l.at l.piece);
    }

abbrev pub decreases-loop-at : goal.decreases-loop-at
decreases-loop-at g l = length l.piece - l.at
