use Rattle.std.proofs.Common.{◌≡◌, take}
use Rattle.data_value.specs.Nodes.{Extends}
use Rattle.prover.specs.Parts.{AreAllReplaced}
use Rattle.prover.proofs.joining.all_replaced.Given as goal

abbrev pub invariant-loop-condition : goal.invariant-loop-condition
invariant-loop-condition g l =
    let look = g.D.Domain.look in
    let variables = g.D.Domain.variables in
    record {
      extends : Extends (look l.fn.d) (look l.d);
      same_variables : variables l.d ≡ variables l.fn.d;
      means : AreAllReplaced (variables l.fn.d) (look l.fn.d) l.pairs (take l.condition-index l.conditions) (look l.d l.joined);
    }
