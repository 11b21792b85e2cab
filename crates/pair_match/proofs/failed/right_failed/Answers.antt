use Rattle.std.proofs.Common.{◌⊎◌, List, [], All, sym, ap, ◌∙◌, subst}
use Rattle.data_value.specs.declared.DataSort.{DataSort}
use Rattle.data_value.proofs.Grown.{extends-both}
use Rattle.sort_term.specs.NodeTerms.{tree_of}
use Rattle.sort_term.specs.Relation.{Related, IsUndefined}
use Rattle.path_condition.specs.Leaves.{SeenLeaf, seen_leaf, seen_leaves, IsLeaf}
use Rattle.path_condition.proofs.LeafLemmas.{leaves_same}
use Rattle.probe_keys.specs.Cases.{seen_cases, IsCase}
use Rattle.pair_match.specs.MoreCases.{AreMoreCases}
use Rattle.pair_match.specs.Unmatched.{SomeHolds, HasLeftPartner, IsExcused}
use Rattle.pair_match.proofs.Adding.{more_same, more_then, none_added}
use Rattle.pair_match.proofs.Partnering.{either_holds}
use Rattle.pair_match.proofs.failed.right_failed.Goals as goal

pub undefined-requires-clause-leaves : goal.undefined-requires-clause-leaves
undefined-requires-clause-leaves g c =
    let look = g.D.Domain.look in
    let sys = c.args.problem.now.left in
    subst (All (IsLeaf sys)) (sym (leaves_same (look c.args.d.now) (look c.left_partners.new.d) c.in_ok-partners.ensures.extends sys c.args.others.now c.requires.others)) c.requires.others

pub no_case-requires-clause-cases : goal.no_case-requires-clause-cases
no_case-requires-clause-cases g c =
    let now = g.D.Domain.look c.undefined.new.d in
    subst (λ cs. All IsCase (seen_cases now cs)) (sym c.as_slice.ensures) c.in_ok-cases.ensures.more.each

pub returns-in_err-no_case-clause-extends : goal.returns-in_err-no_case-clause-extends
returns-in_err-no_case-clause-extends g c = extends-both _ _ _ c.in_ok-partners.ensures.extends (extends-both _ _ _ c.in_ok-cases.ensures.extends c.in_err-no_case.ensures.extends)

pub returns-clause-extends : goal.returns-clause-extends
returns-clause-extends g c = extends-both _ _ _ c.in_ok-partners.ensures.extends (extends-both _ _ _ c.in_ok-cases.ensures.extends c.in_ok-no_case.ensures.extends)

pub returns-clause-failed : goal.returns-clause-failed
returns-clause-failed g c =
    let look = g.D.Domain.look in
    let variables = g.D.Domain.variables in
    let first = look c.args.d.now in
    let partnered = look c.left_partners.new.d in
    let now = look c.undefined.new.d in
    let before = variables c.args.d.now in
    let q = c.args.problem.now in
    let leaf = c.args.leaf.now in
    let seen = seen_leaf first leaf in
    let others = seen_leaves first c.args.others.now in
    let partners = c.in_ok-partners.ensures in
    let middle = seen_cases partnered c.in_ok-partners.partners in
    let new = seen_cases now c.in_ok-cases.cases in
    let Adds : List DataSort → List (SeenLeaf _) → Type 0 = λ vs ls. AreMoreCases vs (λ v. SomeHolds v (IsUndefined q) ls) middle new in
    let more : Adds before others =
    subst (λ ls. Adds before ls) (leaves_same first partnered partners.extends q.left c.args.others.now c.requires.others)
    (subst (λ vs. Adds vs (seen_leaves partnered c.args.others.now)) partners.same_variables c.in_ok-cases.ensures.more) in
    let excused : AreMoreCases before (IsExcused q seen others) [] new =
    more_same before (λ v. HasLeftPartner q seen others v ⊎ SomeHolds v (IsUndefined q) others) (IsExcused q seen others) [] new
    (λ v fits. either_holds v (λ a. Related q a (tree_of v seen.state)) (IsUndefined q) others)
    (more_then before (HasLeftPartner q seen others) (λ v. SomeHolds v (IsUndefined q) others) [] middle new partners.partners more) in
    none_added before (variables c.undefined.new.d) (variables c.no_case.new.d) (first leaf.condition) (now leaf.condition) (look c.no_case.new.d c.in_ok-no_case.field-0)
    (IsExcused q seen others) new (seen_cases now c.as_slice.result.now) (c.in_ok-cases.ensures.same_variables ∙ partners.same_variables)
    ((extends-both _ _ _ partners.extends c.in_ok-cases.ensures.extends).keeps leaf.condition c.requires.leaf.condition.valid) (ap (seen_cases now) c.as_slice.ensures) excused c.in_ok-no_case.ensures.none
