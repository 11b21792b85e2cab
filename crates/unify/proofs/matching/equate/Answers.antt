use Rattle.unify.proofs.Equated.{equation_exact, condition_added}
use Rattle.unify.proofs.KnownEquations.{tells_true}
use Rattle.unify.proofs.matching.equate.Goals as goal

pub returns-clause-equal : goal.returns-clause-equal
returns-clause-equal g c =
    let look = g.D.Domain.look c.args.d.now in
    let variables = g.D.Domain.variables c.args.d.now in
    let now = g.D.Domain.look c.equal.new.d in
    let q = c.in_ok-equation.equation in
    let is = c.in_ok-equation.ensures.means in
    condition_added look now c.in_ok-equation.ensures.extends variables c.args.equations.now c.add_equation.new.equations q c.requires.equations c.in_ok-add_equation.ensures
    is.condition (tells_true now (g.D.Domain.variables c.equal.new.d) (g.met.D.Domain.laws c.equal.new.d) q is.condition) _
    (equation_exact look variables (g.met.D.Domain.laws c.args.d.now) c.args.node.now c.args.other c.requires.node c.requires.other c.requires.sorts c.requires.scalar (now q) is)
