use Rattle.std.proofs.Common.{◌≡◌, true, List, All, sym, subst}
use Rattle.data_value.specs.declared.DataSort.{DataSort}
use Rattle.data_value.specs.Nodes.{Seen}
use Rattle.data_value.specs.Truth.{truth}
use Rattle.data_value.proofs.Grown.{extends-both}
use Rattle.sort_term.specs.NodeTerms.{seen_term, tree_of}
use Rattle.probe_keys.specs.Cases.{SeenCase, seen_pairs, seen_cases, AreSame, IsCase}
use Rattle.probe_keys.proofs.Holding.{cases_stay}
use Rattle.pair_match.specs.Matches.{IsMatch}
use Rattle.pair_match.specs.MoreCases.{AreMoreCases, RelatedBy}
use Rattle.pair_match.proofs.Adding.{more_same, more_none}
use Rattle.pair_match.proofs.Relating.{item_there, apart_never, matched_exact}
use Rattle.pair_match.proofs.between.case_at.Goals as goal

pub returns-in-Apart-clause-more : goal.returns-in-Apart-clause-more
returns-in-Apart-clause-more g c =
    let look = g.D.Domain.look in
    let first = look c.args.d.now in
    let after = look c.matches.new.d in
    let variables = g.D.Domain.variables c.args.d.now in
    let q = c.args.problem.now in
    let k = c.args.point in
    let a = seen_term first c.args.left.now.term in
    let b = seen_term first c.args.right.now.term in
    let there = item_there q.points.points k c.requires.there in
    let apart = subst (IsMatch variables q there.0 a b after) c.in-Apart.is (c.in_ok-matches.ensures.matched there.0 there.1) in
    let cases = seen_cases first c.args.cases in
    subst (AreMoreCases variables (λ v. (truth (first c.args.condition.now) v ≡ true) × RelatedBy q k (tree_of v a) (tree_of v b)) cases) (sym (cases_stay first after c.in_ok-matches.ensures.extends c.args.cases c.requires.cases))
    (more_none variables (λ v. (truth (first c.args.condition.now) v ≡ true) × RelatedBy q k (tree_of v a) (tree_of v b)) cases c.requires.cases (λ v fits. λ h. apart_never variables q k there.0 there.1 a b apart v fits h.1))

pub with_case-requires-clause-test : goal.with_case-requires-clause-test
with_case-requires-clause-test g c =
    let look = g.D.Domain.look in
    let first = look c.args.d.now in
    let there = item_there c.args.problem.now.points.points c.args.point c.requires.there in
    let matched = subst (IsMatch (g.D.Domain.variables c.args.d.now) c.args.problem.now there.0 (seen_term first c.args.left.now.term) (seen_term first c.args.right.now.term) (look c.matches.new.d)) c.in-When.is (c.in_ok-matches.ensures.matched there.0 there.1) in
    matched.test_sorted

pub with_case-requires-clause-maps : goal.with_case-requires-clause-maps
with_case-requires-clause-maps g c =
    let look = g.D.Domain.look in
    let first = look c.args.d.now in
    let there = item_there c.args.problem.now.points.points c.args.point c.requires.there in
    let matched = subst (IsMatch (g.D.Domain.variables c.args.d.now) c.args.problem.now there.0 (seen_term first c.args.left.now.term) (seen_term first c.args.right.now.term) (look c.matches.new.d)) c.in-When.is (c.in_ok-matches.ensures.matched there.0 there.1) in
    matched.maps_sorted

pub with_case-requires-clause-cases : goal.with_case-requires-clause-cases
with_case-requires-clause-cases g c =
    let look = g.D.Domain.look in
    subst (All IsCase) (sym (cases_stay (look c.args.d.now) (look c.matches.new.d) c.in_ok-matches.ensures.extends c.args.cases c.requires.cases)) c.requires.cases

pub returns-clause-extends : goal.returns-clause-extends
returns-clause-extends g c = extends-both _ _ _ c.in_ok-matches.ensures.extends c.in_ok-with_case-in-When.ensures.extends

pub returns-clause-more : goal.returns-clause-more
returns-clause-more g c =
    let look = g.D.Domain.look in
    let first = look c.args.d.now in
    let after = look c.matches.new.d in
    let variables = g.D.Domain.variables c.args.d.now in
    let q = c.args.problem.now in
    let k = c.args.point in
    let a = seen_term first c.args.left.now.term in
    let b = seen_term first c.args.right.now.term in
    let there = item_there q.points.points k c.requires.there in
    let matched = subst (IsMatch variables q there.0 a b after) c.in-When.is (c.in_ok-matches.ensures.matched there.0 there.1) in
    let s = first c.args.condition.now in
    let test = after c.in-When.test in
    let maps = seen_pairs after c.in-When.maps in
    let old = seen_cases first c.args.cases in
    let new = seen_cases (look c.with_case.new.d) c.in_ok-with_case-in-When.field-0 in
    let Adds : List DataSort → Seen _ → List (SeenCase _) → Type 0 = λ vs r cases. AreMoreCases vs (λ v. (truth r v ≡ true) × (truth test v ≡ true) × All (AreSame v) maps) cases new in
    let more : Adds variables s old =
    subst (λ cases. Adds variables s cases) (cases_stay first after c.in_ok-matches.ensures.extends c.args.cases c.requires.cases)
    (subst (λ r. Adds variables r (seen_cases after c.args.cases)) (c.in_ok-matches.ensures.extends.keeps c.args.condition.now c.requires.condition.valid)
    (subst (λ vs. Adds vs (after c.args.condition.now) (seen_cases after c.args.cases)) c.in_ok-matches.ensures.same_variables c.in_ok-with_case-in-When.ensures.more)) in
    more_same variables (λ v. (truth s v ≡ true) × (truth test v ≡ true) × All (AreSame v) maps) (λ v. (truth s v ≡ true) × RelatedBy q k (tree_of v a) (tree_of v b)) old new
    (λ v fits.
    let exact = matched_exact variables q k there.0 there.1 a b _ test maps matched v fits in
    (λ h. (h.0, exact.0 (h.1, h.2)), λ h. let r = exact.1 h.1 in (h.0, r.0, r.1)))
    more
