use Rattle.std.proofs.Common.{rules, IsTrue, sym, ◌∙◌, refl}
use Rattle.data_value.specs.Sorts.{is_scalar_sort}
use Rattle.pair_match.proofs.Samenesses.{adds_maps, adds_equation}
use Rattle.pair_match.proofs.sameness.equate.Goals as goal

pub returns-in_ok-push-in-Map-clause-equal : goal.returns-in_ok-push-in-Map-clause-equal
returns-in_ok-push-in-Map-clause-equal g c =
    let look = g.D.Domain.look c.args.d.now in
    adds_maps look (g.D.Domain.variables c.args.d.now) c.args.sameness.now (record { equations = c.args.sameness.now.equations; maps = c.push.new.self }) (record { left = c.args.node; right = c.in_ok-right-in-Map.right }) c.args.found.now c.requires.sameness refl c.in_ok-push-in-Map.ensures.ok
    c.in-Map.field-0 c.in-Map.field-1 c.requires.node c.requires.found (sym c.sort.ensures ∙ c.in-Map.is) c.requires.sorts c.in_ok-right-in-Map.ensures

pub returns-in_ok-push-in_default-clause-equal : goal.returns-in_ok-push-in_default-clause-equal
returns-in_ok-push-in_default-clause-equal g c =
    let look = g.D.Domain.look c.args.d.now in
    let scalar : IsTrue (is_scalar_sort (look c.args.node).sort) = search rules in
    adds_equation look (g.D.Domain.look c.equal.new.d) c.in_ok-equation-in_default.ensures.extends (g.D.Domain.variables c.args.d.now) c.args.sameness.now (record { equations = c.push-in_default.new.self; maps = c.args.sameness.now.maps }) c.in_ok-equation-in_default.equation c.requires.sameness c.in_ok-push-in_default.ensures.ok refl
    (g.met.D.Domain.laws c.args.d.now) c.args.node c.args.found.now c.requires.node c.requires.found c.requires.sorts scalar c.in_ok-equation-in_default.ensures.means
