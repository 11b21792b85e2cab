use Rattle.std.proofs.Common.{[], ◌∷◌}
use Rattle.data_value.specs.declared.Op.TheVariants.{Extract}
use Rattle.simplify.specs.Rewrites.{AreNoHarder}
use Rattle.simplify.proofs.parts.part.Given as goal

-- what is left are bits that mean the same
abbrev pub invariant-loop-rest : goal.invariant-loop-rest
invariant-loop-rest g l = AreNoHarder (g.D.Domain.variables l.d) (g.D.Domain.look l.d) (Extract l.hi l.lo) (l.a ∷ []) (Extract l.rest.hi l.rest.lo) (l.rest.node ∷ [])

abbrev pub decreases-loop-rest : goal.decreases-loop-rest
decreases-loop-rest g l = (g.D.Domain.look l.d l.rest.node).height
