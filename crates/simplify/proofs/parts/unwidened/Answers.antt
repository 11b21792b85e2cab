use Rattle.std.proofs.Common.{◌≡◌}
use Rattle.data_value.specs.declared.DataSort.TheVariants.{Bits as BitsSort}
use Rattle.simplify.proofs.PartLemmas.{unwidened_simpler}
use Rattle.simplify.proofs.parts.unwidened.Goals as goal

pub returns-in_ok-copy-in-Bits : goal.returns-in_ok-copy-in-Bits
returns-in_ok-copy-in-Bits g c =
    let d = c.args.d.now in
    let look = g.D.Domain.look d in
    let sort : (look c.args.a.now).sort ≡ BitsSort c.args.n = (let e = c.if-width-n.true in let s = c.in-Bits.ensures in cc) in
    unwidened_simpler look (g.D.Domain.variables d) (g.met.D.Domain.laws d) c.args.n c.args.a.now c.requires.valid sort c.args.op c.requires.sorted c.requires.widens _ c.in_ok-copy-in-Bits.ensures
