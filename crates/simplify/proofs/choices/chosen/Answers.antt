use Rattle.std.proofs.Common.{◌≡◌, true, false, Some, refl}
use Rattle.data_value.specs.declared.Op.TheVariants.{Ite}
use Rattle.data_value.specs.declared.Scalar.TheVariants.{Flag}
use Rattle.simplify.proofs.ChoiceLemmas.{choice_true, choice_false, choice_same}
use Rattle.simplify.proofs.choices.chosen.Goals as goal

pub returns-in_ok-copy-in-Some-Flag-true : goal.returns-in_ok-copy-in-Some-Flag-true
returns-in_ok-copy-in-Some-Flag-true g c =
    let d = c.args.d.now in
    let look = g.D.Domain.look d in
    let known : (look c.args.condition.now).known ≡ Some (Flag true) = cc in
    choice_true look (g.D.Domain.variables d) (g.met.D.Domain.laws d) Ite c.args.condition.now c.args.first.now c.args.second.now refl c.requires.condition c.requires.first c.requires.second c.requires.sorted _ known c.in_ok-copy-in-Some-Flag-true.ensures

pub returns-in_ok-copy-in-Some-Flag-false : goal.returns-in_ok-copy-in-Some-Flag-false
returns-in_ok-copy-in-Some-Flag-false g c =
    let d = c.args.d.now in
    let look = g.D.Domain.look d in
    let known : (look c.args.condition.now).known ≡ Some (Flag false) = cc in
    choice_false look (g.D.Domain.variables d) (g.met.D.Domain.laws d) Ite c.args.condition.now c.args.first.now c.args.second.now refl c.requires.condition c.requires.first c.requires.second c.requires.sorted _ known c.in_ok-copy-in-Some-Flag-false.ensures

pub returns-then-is_same : goal.returns-then-is_same
returns-then-is_same g c =
    let d = c.args.d.now in
    let look = g.D.Domain.look d in
    choice_same look (g.D.Domain.variables d) (g.met.D.Domain.laws d) Ite c.args.condition.now c.args.first.now c.args.second.now refl c.requires.condition c.requires.first c.requires.second c.requires.sorted _ (c.is_same.ensures.same c.if-is_same.true) c.in_ok-copy.ensures
