use Rattle.std.proofs.Common.{subst}
use Rattle.data_value.specs.Nodes.{IsLawful}
use Rattle.data_value.proofs.TruthLemmas.{equality_known}
use Rattle.data_value.proofs.conditions.equal.Goals as goal

pub returns-clause-knows : goal.returns-clause-knows
returns-clause-knows g c =
    let d = g.D.Domain in
    let laws = g.met.D.Domain.laws in
    let made = c.in_ok-apply_to_two.ensures in
    equality_known (d.look c.args.d.now) (d.look c.apply_to_two.new.d) (d.variables c.args.d.now) (laws c.args.d.now)
    (subst (IsLawful (d.look c.apply_to_two.new.d)) made.same_variables (laws c.apply_to_two.new.d))
    c.args.a.now c.args.b.now c.in_ok-apply_to_two.field-0 c.requires.first c.requires.second c.requires.scalar c.requires.same_sort made.made
