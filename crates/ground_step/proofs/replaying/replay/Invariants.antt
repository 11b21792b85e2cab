use Rattle.std.proofs.Common.{map, drop, Option}
use Rattle.sort_term.specs.Tree.{Tree}
use Rattle.sort_term.specs.Step.{IsState}
use Rattle.ground_step.specs.Reach.{LeadsTo}
use Rattle.ground_step.proofs.replaying.replay.Given as goal

-- what the other rules lead to from here, all lead to from the start
abbrev pub invariant-loop-rule : goal.invariant-loop-rule
invariant-loop-rule g l =
    record {
      state : IsState l.semantics l.state.term;
      rest : (o : Option Tree) → LeadsTo l.semantics l.program l.state.term (map (λ r. r.0) (drop l.rule-index l.rules)) o → LeadsTo l.semantics l.program l.start.term (map (λ r. r.0) l.rules) o;
    }
