use Rattle.std.proofs.Common.{arith, ◌≡◌, [], ◌∷◌, length, sym, ap, ◌∙◌}
use Rattle.data_value.specs.Nodes.{Apply}
use Rattle.simplify.proofs.ItemLemmas.{one_item}
use Rattle.simplify.proofs.FlagLemmas.{back_simpler}
use Rattle.simplify.proofs.flags.taken_back.Goals as goal

pub returns-in_ok-copy-in-len1 : goal.returns-in_ok-copy-in-len1
returns-in_ok-copy-in-len1 g c =
    let d = c.args.d.now in
    let look = g.D.Domain.look d in
    let x = c.x-item.result in
    let args = c.in-Apply.args.now in
    let long : length args ≡ 1 = omega (arith, c.in-len1.len_at_least, c.in-len1.len_below) in
    let items : args ≡ x ∷ [] = one_item args x long c.x-item.is in
    let shown : (look c.args.a.now).shown ≡ Apply c.in-Apply.inner (x ∷ []) = sym c.in-Apply.ensures ∙ ap (Apply c.in-Apply.inner) items in
    back_simpler look (g.D.Domain.variables d) (g.met.D.Domain.laws d) c.args.op c.in-Apply.inner c.args.a.now x ((g.met.D.Symbolic.views d).shows c.args.a.now c.requires) shown (c.takes_back.ensures c.if-takes_back.true) _ c.in_ok-copy-in-len1.ensures
