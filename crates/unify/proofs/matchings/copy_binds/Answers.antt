use Rattle.unify.proofs.Copies.{bind_valid}
use Rattle.unify.proofs.matchings.copy_binds.Goals as goal

pub copy_bind-requires : goal.copy_bind-requires
copy_bind-requires g c = bind_valid (g.D.Domain.look c.args.d.now) c.args.binds.now c.loop-bind.bind-index c.bind-item.result c.requires c.loop-bind-test.true c.bind-item.is
