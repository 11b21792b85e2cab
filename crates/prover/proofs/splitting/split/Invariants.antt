use Rattle.std.proofs.Common.{◌≡◌, ◌-◌, length}
use Rattle.prover.specs.Splitting.{IsSplitting}
use Rattle.prover.proofs.splitting.split.Given as goal

abbrev pub invariant-loop-done : goal.invariant-loop-done
invariant-loop-done g l =
    let look = g.D.Domain.look l.d in
    record {
      count : length l.joined.items ≡ length l.lines.items;
      splitting : IsSplitting look (look l.root) l.lines.items (length l.lines.items - l.done) l.joined.items l.parts;
    }
