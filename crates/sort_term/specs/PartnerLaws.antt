-- Laws of partners.
use Rattle.sort_term.specs.declared.problem.Problem.{Problem}
use Rattle.sort_term.specs.Simulation.{IsCutSimulation, IsCutBisimulation, IsMatchedSimulation, IsMatchedBisimulation}

-- where each cut successor of the right has a partner, or an undefined state excuses it, the right fails at no point
abbrev pub MatchedIsSimulation : Type 0
MatchedIsSimulation = (q : Problem) → IsMatchedSimulation q → IsCutSimulation q

-- where each cut successor of either side has a partner, neither side misses at a point
abbrev pub MatchedIsBisimulation : Type 0
MatchedIsBisimulation = (q : Problem) → IsMatchedBisimulation q → IsCutBisimulation q
