use Rattle.std.proofs.Common.{◌≡◌, Some}
use Rattle.data_value.specs.declared.DataSort.TheVariants.{Bool as BoolSort}
use Rattle.data_value.specs.declared.Scalar.TheVariants.{Flag}
use Rattle.simplify.proofs.FlagLemmas.{keeps_left, settles_left}
use Rattle.simplify.proofs.flags.behind_flag.Goals as goal

pub returns-in_ok-copy-in-Some-Flag-Bool : goal.returns-in_ok-copy-in-Some-Flag-Bool
returns-in_ok-copy-in-Some-Flag-Bool g c =
    let d = c.args.d.now in
    let look = g.D.Domain.look d in
    let flag = c.in-Some-Flag-Bool.flag in
    let sort : (look c.args.b.now).sort ≡ BoolSort = cc in
    let known : (look c.args.a.now).known ≡ Some (Flag flag) = cc in
    keeps_left look (g.D.Domain.variables d) (g.met.D.Domain.laws d) c.args.op c.args.a.now c.args.b.now c.requires.first c.requires.second flag known sort (c.keeps.ensures c.if-keeps.true) _ c.in_ok-copy-in-Some-Flag-Bool.ensures

pub returns-then-settles : goal.returns-then-settles
returns-then-settles g c =
    let d = c.args.d.now in
    let look = g.D.Domain.look d in
    let flag = c.in-Some-Flag-Bool.flag in
    let sort : (look c.args.b.now).sort ≡ BoolSort = cc in
    let known : (look c.args.a.now).known ≡ Some (Flag flag) = cc in
    settles_left look (g.D.Domain.variables d) (g.met.D.Domain.laws d) c.args.op c.args.a.now c.args.b.now c.requires.first c.requires.second flag known sort (c.settles.ensures c.if-settles.true)
