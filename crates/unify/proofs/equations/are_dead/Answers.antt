use Rattle.std.proofs.Common.{false, sym, ◌∙◌}
use Rattle.data_value.specs.Truth.{IsCondition}
use Rattle.sort_term.proofs.AnyOf.{any-found}
use Rattle.unify.specs.Equations.{known_as}
use Rattle.unify.proofs.Lists.{mapped_at}
use Rattle.unify.proofs.equations.are_dead.Goals as goal

pub is_known_as-requires : goal.is_known_as-requires
is_known_as-requires g c =
    mapped_at IsCondition (g.D.Domain.look c.args.d.now) c.args.equations.now c.loop-equation.equation-index c.equation-item.result c.requires c.loop-equation-test.true c.equation-item.is

pub returns-then-is_known_as : goal.returns-then-is_known_as
returns-then-is_known_as g c =
    sym (any-found (known_as false) (g.D.Domain.look c.args.d.now) c.args.equations.now c.loop-equation.equation-index c.equation-item.result c.loop-equation-test.true c.equation-item.is (sym c.is_known_as.ensures ∙ c.if-is_known_as.true))
