use Rattle.std.proofs.Common.{◌≡◌, ◌-◌, length}
use Rattle.prover.specs.Usage.{IsSearching}
use Rattle.prover.proofs.usage.used_variables.Given as goal

abbrev pub invariant-loop-done : goal.invariant-loop-done
invariant-loop-done g l =
    let look = g.D.Domain.look l.d in
    record {
      parts_count : length l.parts.items ≡ length l.lines.items;
      variables_count : length l.variables.items ≡ length (g.D.Domain.variables l.d);
      searching : IsSearching look (look l.node) l.lines.items (length l.lines.items - l.done) l.parts.items l.variables.items;
    }
