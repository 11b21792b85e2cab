use Rattle.std.proofs.Common.{◌≡◌, false, map, take}
use Rattle.std.specs.List.{list_any}
use Rattle.unify.specs.Equations.{known_as}
use Rattle.unify.proofs.equations.are_dead.Given as goal

-- none of the equations so far is known to be false
abbrev pub invariant-loop-equation : goal.invariant-loop-equation
invariant-loop-equation g l = list_any (known_as false) (map (g.D.Domain.look l.d) (take l.equation-index l.equations)) ≡ false
