use Rattle.std.proofs.Common.{◌≡◌, take}
use Rattle.data_value.specs.Nodes.{Extends}
use Rattle.prover.specs.Parts.{AreEquated}
use Rattle.prover.proofs.joining.equations.Given as goal

abbrev pub invariant-loop-pair : goal.invariant-loop-pair
invariant-loop-pair g l =
    let look = g.D.Domain.look in
    let variables = g.D.Domain.variables in
    record {
      extends : Extends (look l.fn.d) (look l.d);
      same_variables : variables l.d ≡ variables l.fn.d;
      means : AreEquated (look l.fn.d) (take l.pair-index l.pairs) (look l.d l.joined);
    }
