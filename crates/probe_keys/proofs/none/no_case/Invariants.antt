use Rattle.std.proofs.Common.{take, Any}
use Rattle.data_value.specs.Nodes.{Extends}
use Rattle.data_value.specs.Truth.{truth}
use Rattle.data_value.specs.Views.{BeginsWith}
use Rattle.probe_keys.specs.Cases.{seen_cases, HoldsAt}
use Rattle.probe_keys.specs.Probed.{IsProbed}
use Rattle.probe_keys.proofs.none.no_case.Given as goal

-- the formula says it of the cases so far
abbrev pub invariant-loop-case : goal.invariant-loop-case
invariant-loop-case g l =
    let look = g.D.Domain.look in
    let variables = g.D.Domain.variables in
    let first = look l.fn.d in
    record {
      extends : Extends first (look l.d);
      begins : BeginsWith (variables l.d) (variables l.fn.d);
      none : IsProbed (variables l.fn.d) (variables l.d) (truth (first l.condition)) (λ v. Any (HoldsAt v) (seen_cases first (take l.case-index l.cases))) (look l.d l.formula);
    }
