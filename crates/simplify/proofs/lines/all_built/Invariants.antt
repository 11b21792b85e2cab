use Rattle.std.proofs.Common.{◌≡◌, take}
use Rattle.data_value.specs.Nodes.{Extends}
use Rattle.simplify.specs.Pairs.{seen_pairs}
use Rattle.simplify.specs.Built.{AreBuilt}
use Rattle.simplify.proofs.lines.all_built.Given as goal

abbrev pub invariant-loop-line : goal.invariant-loop-line
invariant-loop-line g l =
    let look = g.D.Domain.look in
    let variables = g.D.Domain.variables in
    record {
      extends : Extends (look l.fn.d) (look l.d);
      same_variables : variables l.d ≡ variables l.fn.d;
      built : AreBuilt (variables l.fn.d) (seen_pairs (look l.fn.d) l.pairs) (look l.d) (take l.line-index l.lines) l.built.items;
    }
