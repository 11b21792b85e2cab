use Rattle.std.proofs.Common.{◌≡◌, ◌⊎◌, ◌+◌, ◌&&◌, true, [], take, Any, refl, sym, subst}
use Rattle.std.proofs.lemmas.List.{take_all}
use Rattle.data_value.specs.Nodes.{Seen}
use Rattle.data_value.specs.Truth.{IsTruth, IsCondition, truth}
use Rattle.data_value.proofs.Grown.{extends-same, extends-both}
use Rattle.probe_keys.specs.Cases.{seen_case, seen_cases, IsCase, HoldsAt}
use Rattle.probe_keys.specs.Probed.{IsProbed}
use Rattle.probe_keys.proofs.Lengthened.{settled, begins_both, begins_same}
use Rattle.probe_keys.proofs.Probing.{condition_probed, both_probed, probed_same, probed_of}
use Rattle.probe_keys.proofs.Holding.{case_stays, holds_longer}
use Rattle.probe_keys.proofs.Turns.{item_at, any_none, any_more}
use Rattle.probe_keys.proofs.none.no_case.Goals as goal

pub loop-case-init : goal.loop-case-init
loop-case-init g c =
    let look = g.D.Domain.look c.args.d.now in
    let variables = g.D.Domain.variables c.args.d.now in
    let s = look c.args.condition.now in
    let start = probed_same variables variables (truth s) (λ v. ⊥) (λ v. Any (HoldsAt v) (seen_cases look [])) s (λ v fits. (λ x. absurd x, λ a. any_none (HoldsAt v) a))
    (condition_probed variables s (settled look variables (g.met.D.Symbolic.views c.args.d.now) c.args.condition.now c.requires.condition.valid) c.requires.condition) in
    record {
      extends = extends-same look;
      begins = begins_same variables variables refl;
      none = subst (IsProbed variables variables (truth s) (λ v. Any (HoldsAt v) (seen_cases look []))) (sym c.in_ok-formula.ensures) start;
    }

pub excluded-requires : goal.excluded-requires
excluded-requires g c =
    let look = g.D.Domain.look in
    let first = look c.args.d.now in
    let here = item_at IsCase (seen_case first) c.args.cases.now c.loop-case.case-index c.case-item.result c.loop-case-test.true c.case-item.is c.requires.cases in
    subst IsCase (sym (case_stays first (look c.loop-case.d) c.loop-case.invariant.extends c.case-item.result here)) here

pub returns-in_err-excluded-clause-extends : goal.returns-in_err-excluded-clause-extends
returns-in_err-excluded-clause-extends g c = extends-both _ _ _ c.loop-case.invariant.extends c.in_err-excluded.ensures.extends

pub returns-in_err-excluded-clause-begins : goal.returns-in_err-excluded-clause-begins
returns-in_err-excluded-clause-begins g c = begins_both _ _ _ c.loop-case.invariant.begins c.in_err-excluded.ensures.begins

pub both-requires-clause-first : goal.both-requires-clause-first
both-requires-clause-first g c =
    subst IsCondition (sym (c.in_ok-excluded.ensures.extends.keeps c.loop-case.formula c.loop-case.invariant.none.condition.valid)) c.loop-case.invariant.none.condition

pub returns-in_err-formula-2-clause-extends : goal.returns-in_err-formula-2-clause-extends
returns-in_err-formula-2-clause-extends g c = extends-both _ _ _ c.loop-case.invariant.extends (extends-both _ _ _ c.in_ok-excluded.ensures.extends c.in_err-formula-2.ensures.extends)

pub returns-in_err-formula-2-clause-begins : goal.returns-in_err-formula-2-clause-begins
returns-in_err-formula-2-clause-begins g c =
    begins_both _ _ _ (begins_both _ _ _ c.loop-case.invariant.begins c.in_ok-excluded.ensures.begins) (begins_same _ _ c.in_err-formula-2.ensures.same_variables)

pub loop-case-preserved : goal.loop-case-preserved
loop-case-preserved g c =
    let look = g.D.Domain.look in
    let variables = g.D.Domain.variables in
    let first = look c.args.d.now in
    let now = look c.loop-case.d in
    let made = look c.excluded.new.d in
    let after = look c.both.new.d in
    let before = variables c.args.d.now in
    let middle = variables c.loop-case.d in
    let grown = variables c.excluded.new.d in
    let holds = truth (first c.args.condition.now) in
    let cases = c.args.cases.now in
    let i = c.loop-case.case-index in
    let case = c.case-item.result in
    let here = item_at IsCase (seen_case first) cases i case c.loop-case-test.true c.case-item.is c.requires.cases in
    let s = now c.loop-case.formula in
    let t = made c.in_ok-excluded.excluded in
    let u = after c.in_ok-formula-2.formula in
    let so_far : IsProbed before middle holds (λ v. Any (HoldsAt v) (seen_cases first (take i cases))) s = c.loop-case.invariant.none in
    let one : IsProbed middle grown (λ v. true) (λ v. HoldsAt v (seen_case first case)) t = subst (λ x. IsProbed middle grown (λ v. true) (λ v. HoldsAt v x) t) (case_stays first now c.loop-case.invariant.extends case here) c.in_ok-excluded.ensures.excluded in
    let kept : made c.loop-case.formula ≡ s = c.in_ok-excluded.ensures.extends.keeps c.loop-case.formula so_far.condition.valid in
    let joins : IsTruth u (λ v. truth s v && truth t v) = subst (λ (x : Seen _). IsTruth u (λ v. truth x v && truth t v)) kept c.in_ok-formula-2.ensures.means in
    let neither = both_probed before middle grown holds (λ v. Any (HoldsAt v) (seen_cases first (take i cases))) (λ v. HoldsAt v (seen_case first case)) s t u so_far one
    (holds_longer first before (g.met.D.Symbolic.views c.args.d.now) case here) (settled now middle (g.met.D.Symbolic.views c.loop-case.d) c.loop-case.formula so_far.condition.valid) joins in
    record {
      extends = extends-both _ _ _ c.loop-case.invariant.extends (extends-both _ _ _ c.in_ok-excluded.ensures.extends c.in_ok-formula-2.ensures.extends);
      begins = begins_both _ _ _ (begins_both _ _ _ c.loop-case.invariant.begins c.in_ok-excluded.ensures.begins) (begins_same _ _ c.in_ok-formula-2.ensures.same_variables);
      none = probed_of before grown (variables c.both.new.d) holds (λ v. Any (HoldsAt v) (seen_cases first (take (i + 1) cases))) u c.in_ok-formula-2.ensures.same_variables
          (probed_same before grown holds (λ v. Any (HoldsAt v) (seen_cases first (take i cases)) ⊎ HoldsAt v (seen_case first case)) (λ v. Any (HoldsAt v) (seen_cases first (take (i + 1) cases))) u
          (λ v fits. let turn = any_more (HoldsAt v) (seen_case first) cases i case c.loop-case-test.true c.case-item.is in (turn.1, turn.0))
          neither);
    }

pub returns-clause-extends : goal.returns-clause-extends
returns-clause-extends g c = c.loop-case.invariant.extends

pub returns-clause-begins : goal.returns-clause-begins
returns-clause-begins g c = c.loop-case.invariant.begins

pub returns-clause-none : goal.returns-clause-none
returns-clause-none g c =
    let first = g.D.Domain.look c.args.d.now in
    let variables = g.D.Domain.variables in
    subst (λ cs. IsProbed (variables c.args.d.now) (variables c.loop-case.d) (truth (first c.args.condition.now)) (λ v. Any (HoldsAt v) (seen_cases first cs)) (g.D.Domain.look c.loop-case.d c.loop-case.formula))
    (take_all c.loop-case.case-index c.args.cases.now c.loop-case-test.false) c.loop-case.invariant.none
