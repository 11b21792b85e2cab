use Rattle.std.proofs.Common.{◌≡◌, ◌+◌, ◌&&◌, not, arith, ◌++◌, All, length, sym, ap, subst, ◌∙◌}
use Rattle.std.proofs.lemmas.List.Elements.{All-append}
use Rattle.data_value.specs.Truth.{IsCondition, IsTruth, truth}
use Rattle.data_value.proofs.Grown.{extends-both}
use Rattle.sort_term.specs.Step.{StepsBy}
use Rattle.sort_term.specs.NodeTerms.{seen_term}
use Rattle.sort_term.proofs.NodeTerming.{term_stays}
use Rattle.unify.specs.Branches.{IsConfiguration}
use Rattle.path_condition.specs.Leaves.{seen_leaves, AreLeaves}
use Rattle.path_condition.proofs.LeafLemmas.{configuration_valid, leaves_same, leaves_appended}
use Rattle.symbolic_step.specs.OneStep.{seen_path, start_of, StepsFrom, StepsBelow, IsLive, IsStuckWhere, AreByRule, AppliesWhere}
use Rattle.symbolic_step.proofs.RuleLemmas.{path_stays}
use Rattle.symbolic_step.proofs.StepLemmas.{leaves_more, stuck_more, leaves_of_all, stuck_of_all, numbers_below}
use Rattle.symbolic_step.proofs.next.step.Goals as goal

pub by_rule-requires-clause-config : goal.by_rule-requires-clause-config
by_rule-requires-clause-config g c =
    let look = g.D.Domain.look in
    let sys = c.args.semantics.now in
    let first = look c.args.d.now in
    let now = look c.loop-place.d in
    let t = c.args.config.now.term in
    subst (IsConfiguration sys) (sym (term_stays first now c.loop-place.invariant.extends t (configuration_valid sys (seen_term first t) c.requires.config))) c.requires.config

pub both-requires-clause-first : goal.both-requires-clause-first
both-requires-clause-first g c =
    let look = g.D.Domain.look in
    let now = look c.loop-place.d in
    let grown = extends-both _ _ _ c.in_ok-more.ensures.extends c.in_ok-elsewhere.ensures.extends in
    subst IsCondition (sym (grown.keeps c.loop-place.stuck c.loop-place.invariant.stuck.condition.valid)) c.loop-place.invariant.stuck.condition

pub returns-in_err-stuck-2-clause-extends : goal.returns-in_err-stuck-2-clause-extends
returns-in_err-stuck-2-clause-extends g c =
    extends-both _ _ _ c.loop-place.invariant.extends (extends-both _ _ _ c.in_ok-more.ensures.extends (extends-both _ _ _ c.in_ok-elsewhere.ensures.extends c.in_err-stuck-2.ensures.extends))

pub loop-place-preserved : goal.loop-place-preserved
loop-place-preserved g c =
    let look = g.D.Domain.look in
    let sys = c.args.semantics.now in
    let first = look c.args.d.now in
    let now = look c.loop-place.d in
    let made = look c.by_rule.new.d in
    let negated = look c.negation.new.d in
    let after = look c.both.new.d in
    let variables = g.D.Domain.variables c.args.d.now in
    let k = c.loop-place.place in
    let t = c.args.config.now.term in
    let Steps = StepsBy sys c.args.program.now in
    let start = start_of (seen_path first c.args.path.now) (seen_term first t) in
    let same_term = term_stays first now c.loop-place.invariant.extends t (configuration_valid sys (seen_term first t) c.requires.config) in
    let same_path = path_stays first now c.loop-place.invariant.extends c.args.path.now c.requires.path in
    let more = seen_leaves made c.in_ok-more.more.leaves in
    let by_rule : AreByRule variables sys (Steps k) k start more =
    subst (λ vs. AreByRule vs sys (Steps k) k start more) c.loop-place.invariant.same_variables
    (subst (λ p. AreByRule (g.D.Domain.variables c.loop-place.d) sys (Steps k) k (start_of p (seen_term first t)) more) same_path
    (subst (λ s. AreByRule (g.D.Domain.variables c.loop-place.d) sys (Steps k) k (start_of (seen_path now c.args.path.now) s) more) same_term c.in_ok-more.ensures.leaves)) in
    let applies : AppliesWhere variables (Steps k) (seen_term first t) (made c.in_ok-more.more.applies) =
    subst (λ vs. AppliesWhere vs (Steps k) (seen_term first t) (made c.in_ok-more.more.applies)) c.loop-place.invariant.same_variables
    (subst (λ s. AppliesWhere (g.D.Domain.variables c.loop-place.d) (Steps k) s (made c.in_ok-more.more.applies)) same_term c.in_ok-more.ensures.applies) in
    let to_after = extends-both _ _ _ c.in_ok-elsewhere.ensures.extends c.in_ok-stuck-2.ensures.extends in
    let grown = extends-both _ _ _ c.in_ok-more.ensures.extends to_after in
    let old = seen_leaves now c.loop-place.leaves in
    let all : seen_leaves after c.append.new.self ≡ old ++ more =
    leaves_appended now after grown sys c.loop-place.leaves c.in_ok-more.more.leaves _ c.loop-place.invariant.are.each c.in_ok-append.ensures
    ∙ ap (λ ls. old ++ ls) (leaves_same made after to_after sys c.in_ok-more.more.leaves by_rule.are.each) in
    let s = now c.loop-place.stuck in
    let a = made c.in_ok-more.more.applies in
    let next = after c.in_ok-stuck-2.stuck in
    let n = negated c.in_ok-elsewhere.elsewhere in
    let kept : negated c.loop-place.stuck ≡ s = (extends-both _ _ _ c.in_ok-more.ensures.extends c.in_ok-elsewhere.ensures.extends).keeps c.loop-place.stuck c.loop-place.invariant.stuck.condition.valid in
    let joined : IsTruth next (λ v. truth s v && truth n v) = subst (λ u. IsTruth next (λ v. truth u v && truth n v)) kept c.in_ok-stuck-2.ensures.means in
    let says : IsTruth next (λ v. truth s v && not (truth a v)) = record { condition = joined.condition; means = λ v. joined.means v ∙ ap (λ q. truth s v && q) (c.in_ok-elsewhere.ensures.means.means v) } in
    record {
      extends = extends-both _ _ _ c.loop-place.invariant.extends grown;
      same_variables = c.in_ok-stuck-2.ensures.same_variables ∙ c.in_ok-elsewhere.ensures.same_variables ∙ c.in_ok-more.ensures.same_variables ∙ c.loop-place.invariant.same_variables;
      are = subst (AreLeaves variables sys (StepsFrom (StepsBelow (k + 1) Steps) start)) (sym all) (leaves_more variables sys start Steps k old more c.loop-place.invariant.are by_rule);
      live = subst (All IsLive) (sym all) (All-append IsLive old more c.loop-place.invariant.live by_rule.live);
      stuck = stuck_more variables sys start Steps k s a next c.loop-place.invariant.stuck applies says;
    }

pub returns-clause-leaves : goal.returns-clause-leaves
returns-clause-leaves g c =
    let sys = c.args.semantics.now in
    let look = g.D.Domain.look in
    let first = look c.args.d.now in
    let variables = g.D.Domain.variables c.args.d.now in
    let Steps = StepsBy sys c.args.program.now in
    let start = start_of (seen_path first c.args.path.now) (seen_term first c.args.config.now.term) in
    let leaves = seen_leaves (look c.loop-place.d) c.loop-place.leaves in
    let end : c.loop-place.place ≡ length sys.rules = (let count = ap length c.rules.ensures.value in omega (arith, c.len-place-end.ensures, c.loop-place-test.false, c.loop-place.auto.place-end)) in
    leaves_of_all variables sys start Steps (length sys.rules) (numbers_below sys c.args.program.now) leaves
    (subst (λ k. AreLeaves variables sys (StepsFrom (StepsBelow k Steps) start) leaves) end c.loop-place.invariant.are)

pub returns-clause-stuck : goal.returns-clause-stuck
returns-clause-stuck g c =
    let sys = c.args.semantics.now in
    let look = g.D.Domain.look in
    let first = look c.args.d.now in
    let variables = g.D.Domain.variables c.args.d.now in
    let Steps = StepsBy sys c.args.program.now in
    let start = start_of (seen_path first c.args.path.now) (seen_term first c.args.config.now.term) in
    let s = look c.loop-place.d c.loop-place.stuck in
    let end : c.loop-place.place ≡ length sys.rules = (let count = ap length c.rules.ensures.value in omega (arith, c.len-place-end.ensures, c.loop-place-test.false, c.loop-place.auto.place-end)) in
    stuck_of_all variables sys start Steps (length sys.rules) (numbers_below sys c.args.program.now) s
    (subst (λ k. IsStuckWhere variables (StepsBelow k Steps) start s) end c.loop-place.invariant.stuck)
