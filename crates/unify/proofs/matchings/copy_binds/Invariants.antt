use Rattle.std.proofs.Common.{◌≡◌, take}
use Rattle.unify.specs.Binds.{seen_binds}
use Rattle.unify.proofs.matchings.copy_binds.Given as goal

-- the copies so far are seen as the bound variables so far
abbrev pub invariant-loop-bind : goal.invariant-loop-bind
invariant-loop-bind g l = seen_binds (g.D.Domain.look l.d) l.copies ≡ seen_binds (g.D.Domain.look l.d) (take l.bind-index l.binds)
