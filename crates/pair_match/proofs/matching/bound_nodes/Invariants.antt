use Rattle.std.proofs.Common.{◌≡◌, map, take}
use Rattle.unify.specs.Binds.{seen_binds}
use Rattle.pair_match.specs.Bound.{bound_to}
use Rattle.pair_match.proofs.matching.bound_nodes.Given as goal

-- the nodes so far are those of the variables so far
abbrev pub invariant-loop-bound : goal.invariant-loop-bound
invariant-loop-bound g l =
    let look = g.D.Domain.look l.d in
    seen_binds look (take l.bound-index l.binds) ≡ bound_to (map look l.nodes)
