use Rattle.std.proofs.Common.{◌≡◌, true, false, take, All}
use Rattle.data_value.specs.Nodes.{Extends}
use Rattle.data_value.specs.Truth.{truth}
use Rattle.data_value.specs.Views.{BeginsWith}
use Rattle.probe_keys.specs.Cases.{seen_pairs, AreSame}
use Rattle.probe_keys.specs.Probed.{IsProbed}
use Rattle.probe_keys.proofs.none.some_differ.Given as goal

-- the formula says it of the pairs so far
abbrev pub invariant-loop-pair : goal.invariant-loop-pair
invariant-loop-pair g l =
    let look = g.D.Domain.look in
    let variables = g.D.Domain.variables in
    let first = look l.fn.d in
    record {
      extends : Extends first (look l.d);
      begins : BeginsWith (variables l.d) (variables l.fn.d);
      some : IsProbed (variables l.fn.d) (variables l.d) (λ v. true) (λ v. (truth (first l.fn.first) v ≡ false) × All (AreSame v) (seen_pairs first (take l.pair-index l.pairs))) (look l.d l.joined);
    }
