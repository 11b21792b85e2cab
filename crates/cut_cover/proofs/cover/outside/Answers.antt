use Rattle.std.proofs.Common.{◌≡◌, ◌&&◌, not, sym, ap, subst, ◌∙◌}
use Rattle.data_value.specs.Truth.{IsTruth, truth}
use Rattle.data_value.proofs.Grown.{extends-both}
use Rattle.sort_term.specs.NodeTerms.{seen_term}
use Rattle.sort_term.specs.declared.term.Sort.TheVariants.{Own}
use Rattle.sort_term.proofs.NodeTerming.{sorted_valid, term_stays}
use Rattle.unify.specs.Branches.{IsConfiguration}
use Rattle.cut_cover.specs.Outside.{IsCovering}
use Rattle.cut_cover.proofs.Leaving.{outside_more}
use Rattle.cut_cover.proofs.cover.outside.Goals as goal

pub covering-requires-clause-config : goal.covering-requires-clause-config
covering-requires-clause-config g c =
    let look = g.D.Domain.look in
    let sys = c.args.semantics.now in
    let first = look c.args.d.now in
    let t = c.args.config.now.term in
    subst (IsConfiguration sys) (sym (term_stays first (look c.loop-item.d) c.loop-item.invariant.extends t (sorted_valid sys.cons (seen_term first t) (Own sys.config) c.requires.config.is))) c.requires.config

pub loop-item-preserved : goal.loop-item-preserved
loop-item-preserved g c =
    let look = g.D.Domain.look in
    let sys = c.args.semantics.now in
    let first = look c.args.d.now in
    let now = look c.loop-item.d in
    let made = look c.covering.new.d in
    let negated = look c.negation.new.d in
    let after = look c.both.new.d in
    let variables = g.D.Domain.variables c.args.d.now in
    let item = c.item-item.result in
    let t = c.args.config.now.term in
    let same_term = term_stays first now c.loop-item.invariant.extends t (sorted_valid sys.cons (seen_term first t) (Own sys.config) c.requires.config.is) in
    let s = now c.loop-item.outside in
    let covering = made c.in_ok-covering.covering in
    let n = negated c.in_ok-elsewhere.elsewhere in
    let next = after c.in_ok-outside-2.outside in
    let here : IsCovering variables sys.cons item (seen_term first t) covering =
    subst (λ vs. IsCovering vs sys.cons item (seen_term first t) covering) c.loop-item.invariant.same_variables
    (subst (λ u. IsCovering (g.D.Domain.variables c.loop-item.d) sys.cons item u covering) same_term c.in_ok-covering.ensures.covering) in
    let kept : negated c.loop-item.outside ≡ s = (extends-both _ _ _ c.in_ok-covering.ensures.extends c.in_ok-elsewhere.ensures.extends).keeps c.loop-item.outside c.loop-item.invariant.outside.condition.valid in
    let joined : IsTruth next (λ v. truth s v && truth n v) = subst (λ u. IsTruth next (λ v. truth u v && truth n v)) kept c.in_ok-outside-2.ensures.means in
    let joins : IsTruth next (λ v. truth s v && not (truth covering v)) = record { condition = joined.condition; means = λ v. joined.means v ∙ ap (λ q. truth s v && q) (c.in_ok-elsewhere.ensures.means.means v) } in
    record {
      extends = extends-both _ _ _ c.loop-item.invariant.extends (extends-both _ _ _ c.in_ok-covering.ensures.extends (extends-both _ _ _ c.in_ok-elsewhere.ensures.extends c.in_ok-outside-2.ensures.extends));
      same_variables = c.in_ok-outside-2.ensures.same_variables ∙ c.in_ok-elsewhere.ensures.same_variables ∙ c.in_ok-covering.ensures.same_variables ∙ c.loop-item.invariant.same_variables;
      outside = outside_more variables sys.cons (seen_term first t) c.as_slice-item-items.result.now c.loop-item.item-index item c.loop-item-test.true c.item-item.is s covering next c.loop-item.invariant.outside here joins;
    }
