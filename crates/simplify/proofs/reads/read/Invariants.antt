use Rattle.simplify.specs.Past.{IsEarlier}
use Rattle.simplify.proofs.reads.read.Given as goal

-- what is left is an earlier map that has the same at the key
abbrev pub invariant-loop-rest : goal.invariant-loop-rest
invariant-loop-rest g l = IsEarlier (g.D.Domain.variables l.d) (g.D.Domain.look l.d) l.map l.key l.rest

abbrev pub decreases-loop-rest : goal.decreases-loop-rest
decreases-loop-rest g l = (g.D.Domain.look l.d l.rest).height
