use Rattle.std.proofs.Common.{map, ap, ◌∙◌}
use Rattle.simplify.proofs.RewriteLemmas.{with_sorted, with_simpler}
use Rattle.simplify.proofs.operator.with_scalar.Goals as goal

pub apply-requires-clause-sorted : goal.apply-requires-clause-sorted
apply-requires-clause-sorted g c =
    let look = g.D.Domain.look in
    let after = look c.constant.new.self in
    let vars = g.D.Domain.variables c.args.d.now in
    let alike = ap (map after) c.as_slice.ensures.value ∙ c.in_ok-nodes.ensures in
    with_sorted vars vars (look c.args.d.now) after c.in_ok-constant.ensures.extends c.args.op c.args.args.now c.args.other c.args.node.now c.args.scalar c.requires.harder c.in_ok-constant.constant c.in_ok-constant.ensures.made c.as_slice.result.now alike c.requires.sorted

pub returns-clause-simpler : goal.returns-clause-simpler
returns-clause-simpler g c =
    let look = g.D.Domain.look in
    let after = look c.constant.new.self in
    let vars = g.D.Domain.variables c.args.d.now in
    let alike = ap (map after) c.as_slice.ensures.value ∙ c.in_ok-nodes.ensures in
    let shown = (g.met.D.Symbolic.views c.constant.new.self).shows c.in_ok-constant.constant c.in_ok-constant.ensures.made.valid in
    with_simpler vars (g.D.Domain.variables c.constant.new.self) (look c.args.d.now) after c.in_ok-constant.ensures.extends c.args.op c.args.args.now c.args.other c.args.node.now c.args.scalar c.requires.harder c.in_ok-constant.constant c.in_ok-constant.ensures.made c.as_slice.result.now alike shown (look c.apply.new.self) c.in_ok-apply.field-0 c.in_ok-apply.ensures.made
