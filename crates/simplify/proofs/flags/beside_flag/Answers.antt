use Rattle.std.proofs.Common.{◌≡◌, Some}
use Rattle.data_value.specs.declared.DataSort.TheVariants.{Bool as BoolSort}
use Rattle.data_value.specs.declared.Scalar.TheVariants.{Flag}
use Rattle.simplify.proofs.FlagLemmas.{keeps_right, settles_right}
use Rattle.simplify.proofs.flags.beside_flag.Goals as goal

pub returns-in_ok-copy-in-Bool-Some-Flag : goal.returns-in_ok-copy-in-Bool-Some-Flag
returns-in_ok-copy-in-Bool-Some-Flag g c =
    let d = c.args.d.now in
    let look = g.D.Domain.look d in
    let flag = c.in-Bool-Some-Flag.flag in
    let sort : (look c.args.a.now).sort ≡ BoolSort = cc in
    let known : (look c.args.b.now).known ≡ Some (Flag flag) = cc in
    keeps_right look (g.D.Domain.variables d) (g.met.D.Domain.laws d) c.args.op c.args.a.now c.args.b.now c.requires.first c.requires.second flag sort known (c.keeps.ensures c.if-keeps.true) _ c.in_ok-copy-in-Bool-Some-Flag.ensures

pub returns-then-settles : goal.returns-then-settles
returns-then-settles g c =
    let d = c.args.d.now in
    let look = g.D.Domain.look d in
    let flag = c.in-Bool-Some-Flag.flag in
    let sort : (look c.args.a.now).sort ≡ BoolSort = cc in
    let known : (look c.args.b.now).known ≡ Some (Flag flag) = cc in
    settles_right look (g.D.Domain.variables d) (g.met.D.Domain.laws d) c.args.op c.args.a.now c.args.b.now c.requires.first c.requires.second flag sort known (c.settles.ensures c.if-settles.true)
