use Rattle.std.proofs.Common.{◌⊎◌, inl, inr}
use Rattle.sort_term.specs.declared.problem.Problem.{Problem}
use Rattle.sort_term.specs.declared.points.Point.{Point}
use Rattle.sort_term.specs.Tree.{Tree}
use Rattle.sort_term.specs.Relation.{left, Related, SucceedsOf, IsUndefined}
use Rattle.sort_term.specs.Simulation.{IsCutSimulation, IsCutBisimulation, SideMisses, IsMatchedSimulation, IsMatchedBisimulation}
use Rattle.sort_term.proofs.partner_laws.partners_leave_no_failure.Goals as goal

right_kept : (q : Problem) → IsMatchedSimulation q → IsCutSimulation q
right_kept q m k p there f = go (m k p there f.0 f.1 f.2 f.3 f.4.0 f.4.1)
  where
    go : ((a' : Tree) × SucceedsOf q left f.1 a' × Related q a' f.4.0) ⊎ ((a' : Tree) × SucceedsOf q left f.1 a' × IsUndefined q a') → ⊥
    go (inl partner) = f.4.2 partner.0 partner.1 partner.2
    go (inr undefined) = f.4.3 undefined.0 undefined.1 undefined.2

both_kept : (q : Problem) → IsMatchedBisimulation q → IsCutBisimulation q
both_kept q m k p there = go
  where
    go : SideMisses q p → ⊥
    go (inl f) = let partner = m.0 k p there f.0 f.1 f.2 f.3 f.4.0 f.4.1 in f.4.2 partner.0 partner.1 partner.2
    go (inr f) = let partner = m.1 k p there f.0 f.1 f.2 f.3 f.4.0 f.4.1 in f.4.2 partner.0 partner.1 partner.2

pub returns-clause-simulation : goal.returns-clause-simulation
returns-clause-simulation c = right_kept

pub returns-clause-bisimulation : goal.returns-clause-bisimulation
returns-clause-bisimulation c = both_kept
