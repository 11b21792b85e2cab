use Rattle.std.proofs.Common.{◌≡◌, Some}
use Rattle.data_value.specs.declared.DataSort.TheVariants.{Bits as BitsSort}
use Rattle.data_value.specs.declared.Scalar.TheVariants.{Bits}
use Rattle.simplify.proofs.RewriteLemmas.{word_found}
use Rattle.simplify.proofs.sums.beside_known.Goals as goal

pub returns-in_ok-at_word-in-Bits-Some-Bits : goal.returns-in_ok-at_word-in-Bits-Some-Bits
returns-in_ok-at_word-in-Bits-Some-Bits g c =
    let d = c.args.d.now in
    let look = g.D.Domain.look d in
    let width = c.in-Bits-Some-Bits.width in
    let bits = c.in-Bits-Some-Bits.bits in
    let sort : (look c.args.a.now).sort ≡ BitsSort width = cc in
    let known : (look c.args.b.now).known ≡ Some (Bits width bits) = cc in
    word_found look (g.D.Domain.variables d) (g.met.D.Domain.laws d) c.args.op c.args.a.now c.args.b.now width bits c.requires.first c.requires.second sort known ((g.met.D.Symbolic.views d).shows c.args.b.now c.requires.second) c.in_ok-at_word-in-Bits-Some-Bits.field-0 c.in_ok-at_word-in-Bits-Some-Bits.ensures
