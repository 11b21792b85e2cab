use Rattle.std.proofs.Common.{◌≡◌, ◌<◌, All, length}
use Rattle.clause_search.specs.Trail.{IsTrail}
use Rattle.clause_search.specs.Analysis.{gathered, AreSeen}
use Rattle.clause_search.proofs.LearnedLemmas.{Begins}
use Rattle.clause_search.proofs.analysis.trace.Given as goal

abbrev pub invariant-loop-entry : goal.invariant-loop-entry
invariant-loop-entry l = record {
  trail : IsTrail l.derivation.clauses l.trail;
  vars : length l.trail.values ≡ length l.initial.trail.values;
  chain : All (λ k. k.clause < length l.derivation.clauses) l.chain;
  seen : AreSeen l.trail.values l.hints.marks (gathered l.derivation.clauses l.conflict l.chain);
  begins : Begins l.initial.trail.entries l.trail.entries;
}

abbrev pub decreases-loop-entry : goal.decreases-loop-entry
decreases-loop-entry l = length l.trail.entries
