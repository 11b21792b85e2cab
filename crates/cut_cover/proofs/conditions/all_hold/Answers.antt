use Rattle.std.proofs.Common.{arith, ◌≡◌, ◌&&◌, take, sym, subst, ◌∙◌}
use Rattle.std.proofs.lemmas.List.{take_all}
use Rattle.std.proofs.lemmas.List.Elements.{All-get_or}
use Rattle.data_value.specs.Truth.{IsTruth, truth}
use Rattle.data_value.proofs.Grown.{extends-both}
use Rattle.sort_term.specs.Tree.{IsTrueTree, value}
use Rattle.sort_term.specs.Cuts.{AllTrue}
use Rattle.unify.specs.Binds.{seen_binds}
use Rattle.unify.proofs.Evaluated.{binds_stay, valid_stay}
use Rattle.cut_cover.specs.Conditions.{IsBoundCondition, IsTrueWhere}
use Rattle.cut_cover.proofs.Holding.{all_of_more}
use Rattle.cut_cover.proofs.conditions.all_hold.Goals as goal

pub holding-requires-clause-valid : goal.holding-requires-clause-valid
holding-requires-clause-valid g c =
    let look = g.D.Domain.look in
    valid_stay (look c.args.d.now) (look c.loop-condition.d) c.loop-condition.invariant.extends c.args.binds.now c.requires.valid

pub holding-requires-clause-condition : goal.holding-requires-clause-condition
holding-requires-clause-condition g c =
    let look = g.D.Domain.look in
    let cons = c.args.semantics.now.cons in
    let e = c.condition-item.result in
    let same = binds_stay (look c.args.d.now) (look c.loop-condition.d) c.loop-condition.invariant.extends c.args.binds.now c.requires.valid in
    let first = seen_binds (look c.args.d.now) c.args.binds.now in
    let here : IsBoundCondition cons first e = subst (IsBoundCondition cons first) (sym c.condition-item.is) (All-get_or (IsBoundCondition cons first) c.args.conditions.now c.loop-condition.condition-index e c.loop-condition-test.true c.requires.conditions) in
    subst (λ bs. IsBoundCondition cons bs e) (sym same) here

pub loop-condition-preserved : goal.loop-condition-preserved
loop-condition-preserved g c =
    let look = g.D.Domain.look in
    let first = look c.args.d.now in
    let now = look c.loop-condition.d in
    let made = look c.holding.new.d in
    let after = look c.both.new.d in
    let bs = seen_binds first c.args.binds.now in
    let es = c.args.conditions.now in
    let e = c.condition-item.result in
    let same = binds_stay first now c.loop-condition.invariant.extends c.args.binds.now c.requires.valid in
    let s = now c.loop-condition.joined in
    let one = made c.in_ok-one.one in
    let next = after c.in_ok-joined-2.joined in
    let here : IsTrueWhere bs (λ w. IsTrueTree (value w e)) one = subst (λ xs. IsTrueWhere xs (λ w. IsTrueTree (value w e)) one) same c.in_ok-one.ensures.holding in
    let kept : made c.loop-condition.joined ≡ s = c.in_ok-one.ensures.extends.keeps c.loop-condition.joined c.loop-condition.invariant.holding.condition.valid in
    let joins : IsTruth next (λ v. truth s v && truth one v) = subst (λ u. IsTruth next (λ v. truth u v && truth one v)) kept c.in_ok-joined-2.ensures.means in
    record {
      extends = extends-both _ _ _ c.loop-condition.invariant.extends (extends-both _ _ _ c.in_ok-one.ensures.extends c.in_ok-joined-2.ensures.extends);
      same_variables = c.in_ok-joined-2.ensures.same_variables ∙ c.in_ok-one.ensures.same_variables ∙ c.loop-condition.invariant.same_variables;
      holding = all_of_more bs es c.loop-condition.condition-index e c.loop-condition-test.true c.condition-item.is s one next c.loop-condition.invariant.holding here joins;
    }

pub returns-clause-holding : goal.returns-clause-holding
returns-clause-holding g c =
    let look = g.D.Domain.look in
    let es = c.args.conditions.now in
    let all : take c.loop-condition.condition-index es ≡ es = take_all c.loop-condition.condition-index es (omega arith) in
    subst (λ xs. IsTrueWhere (seen_binds (look c.args.d.now) c.args.binds.now) (λ w. AllTrue w xs) (look c.loop-condition.d c.loop-condition.joined)) all c.loop-condition.invariant.holding
