use Rattle.std.proofs.Common.{◌≡◌, true, List, All, sym, subst}
use Rattle.std.proofs.lemmas.List.Elements.{All-nil}
use Rattle.data_value.specs.declared.DataSort.{DataSort}
use Rattle.data_value.specs.Nodes.{Seen}
use Rattle.data_value.specs.Truth.{truth}
use Rattle.data_value.proofs.Grown.{extends-both}
use Rattle.sort_term.specs.Cuts.{IsCovered}
use Rattle.sort_term.specs.NodeTerms.{seen_term, tree_of}
use Rattle.probe_keys.specs.Cases.{SeenCase, seen_pairs, seen_cases, AreSame, IsCase}
use Rattle.probe_keys.proofs.Holding.{cases_stay}
use Rattle.pair_match.specs.MoreCases.{AreMoreCases}
use Rattle.pair_match.proofs.Adding.{more_same}
use Rattle.pair_match.proofs.failed.covered_by.Goals as goal

pub with_case-requires-clause-cases : goal.with_case-requires-clause-cases
with_case-requires-clause-cases g c =
    let look = g.D.Domain.look in
    subst (All IsCase) (sym (cases_stay (look c.args.d.now) (look c.covering.new.d) c.in_ok-covered.ensures.extends c.args.cases c.requires.cases)) c.requires.cases

pub returns-clause-extends : goal.returns-clause-extends
returns-clause-extends g c = extends-both _ _ _ c.in_ok-covered.ensures.extends c.in_ok-with_case.ensures.extends

pub returns-clause-more : goal.returns-clause-more
returns-clause-more g c =
    let look = g.D.Domain.look in
    let first = look c.args.d.now in
    let after = look c.covering.new.d in
    let variables = g.D.Domain.variables c.args.d.now in
    let leaf = c.args.leaf.now in
    let s = first leaf.condition in
    let test = after c.in_ok-covered.covered in
    let maps = seen_pairs after c.new-maps.result in
    let a = seen_term first leaf.config.term in
    let old = seen_cases first c.args.cases in
    let new = seen_cases (look c.with_case.new.d) c.in_ok-with_case.field-0 in
    let Adds : List DataSort → Seen _ → List (SeenCase _) → Type 0 = λ vs r cases. AreMoreCases vs (λ v. (truth r v ≡ true) × (truth test v ≡ true) × All (AreSame v) maps) cases new in
    let more : Adds variables s old =
    subst (λ cases. Adds variables s cases) (cases_stay first after c.in_ok-covered.ensures.extends c.args.cases c.requires.cases)
    (subst (λ r. Adds variables r (seen_cases after c.args.cases)) (c.in_ok-covered.ensures.extends.keeps leaf.condition c.requires.leaf.condition.valid)
    (subst (λ vs. Adds vs (after leaf.condition) (seen_cases after c.args.cases)) c.in_ok-covered.ensures.same_variables c.in_ok-with_case.ensures.more)) in
    more_same variables (λ v. (truth s v ≡ true) × (truth test v ≡ true) × All (AreSame v) maps) (λ v. (truth s v ≡ true) × IsCovered c.args.semantics.now.cons c.args.item.now (tree_of v a)) old new
    (λ v fits.
    let exact = c.in_ok-covered.ensures.covering.exact v fits in
    (λ h. (h.0, exact.0 h.1), λ h. (h.0, exact.1 h.1, subst (λ ms. All (AreSame v) (seen_pairs after ms)) (sym c.new-maps.ensures) (All-nil (AreSame v)))))
    more
