use Rattle.std.proofs.Common.{◌≡◌, ap, ◌∙◌, sym, subst}
use Rattle.std.proofs.lemmas.Result.{IfOk-weaker}
use Rattle.data_value.specs.Nodes.{Constant}
use Rattle.data_value.specs.Views.{IsShownValue}
use Rattle.data_value.specs.declared.Value.TheVariants.{One}
use Rattle.map_reads.proofs.Leaves.{leaf_variable, leaf_constant}
use Rattle.map_reads.proofs.walking.leaf.Goals as goal

pub returns-in-Variable : goal.returns-in-Variable
returns-in-Variable g c =
    let d = c.args.d.now in
    let look = g.D.Domain.look d in
    let n = c.args.node.now in
    let shown = (g.met.D.Symbolic.views d).shows n c.requires.valid in
    IfOk-weaker c.variable.result _ _ (λ p at. leaf_variable look n c.args.draft.now c.variable.new.draft c.requires.draft (g.D.Domain.variables d) shown c.requires.sorts c.in-Variable.index p c.in-Variable.ensures at) c.variable.ensures

pub returns-in_ok-push-in-One : goal.returns-in_ok-push-in-One
returns-in_ok-push-in-One g c =
    let d = c.args.d.now in
    let look = g.D.Domain.look d in
    let n = c.args.node.now in
    let scalar = c.in-One.scalar in
    let shown = (g.met.D.Symbolic.views d).shows n c.requires.valid in
    let is : Constant (One scalar) ≡ (look n).shown = ap Constant (sym c.in-One.is) ∙ c.in-Constant.ensures in
    let fits = subst IsShownValue (sym is) shown.lawful in
    leaf_constant look n c.args.draft.now c.push.new.self c.requires.draft (g.D.Domain.variables d) shown c.requires.sorts c.in_ok-push-in-One.field-0 scalar is fits c.in_ok-push-in-One.ensures
