use Rattle.std.proofs.Common.{arith, ◌≡◌, ◌⊎◌, ◌≤◌, ◌+◌, true, length, List, sym, ◌∙◌, subst}
use Rattle.data_value.specs.declared.Value.{Value}
use Rattle.data_value.specs.Nodes.{Seen}
use Rattle.data_value.specs.Truth.{truth}
use Rattle.data_value.proofs.Grown.{extends-both}
use Rattle.sort_term.specs.declared.term.Term.{Term}
use Rattle.sort_term.specs.NodeTerms.{seen_term, tree_of}
use Rattle.sort_term.specs.Relation.{Related}
use Rattle.sort_term.proofs.NodeTerming.{term_stays}
use Rattle.unify.specs.Branches.{IsConfiguration}
use Rattle.path_condition.proofs.LeafLemmas.{configuration_valid}
use Rattle.probe_keys.specs.Cases.{seen_cases}
use Rattle.pair_match.specs.MoreCases.{AreMoreCases, RelatedBy}
use Rattle.pair_match.proofs.Adding.{more_same, more_then, more_seen}
use Rattle.pair_match.proofs.Relating.{RelatedBelow, below_more, below_all, beside_either}
use Rattle.pair_match.proofs.between.cases_between.Goals as goal

pub case_at-requires-clause-left : goal.case_at-requires-clause-left
case_at-requires-clause-left g c =
    let look = g.D.Domain.look in
    let sys = c.args.problem.now.left in
    let first = look c.args.d.now in
    let t = c.args.left.now.term in
    subst (IsConfiguration sys) (sym (term_stays first (look c.loop-point.d) c.loop-point.invariant.extends t (configuration_valid sys (seen_term first t) c.requires.left))) c.requires.left

pub case_at-requires-clause-right : goal.case_at-requires-clause-right
case_at-requires-clause-right g c =
    let look = g.D.Domain.look in
    let sys = c.args.problem.now.right in
    let first = look c.args.d.now in
    let t = c.args.right.now.term in
    subst (IsConfiguration sys) (sym (term_stays first (look c.loop-point.d) c.loop-point.invariant.extends t (configuration_valid sys (seen_term first t) c.requires.right))) c.requires.right

pub loop-point-preserved : goal.loop-point-preserved
loop-point-preserved g c =
    let look = g.D.Domain.look in
    let first = look c.args.d.now in
    let now = look c.loop-point.d in
    let after = look c.case_at.new.d in
    let variables = g.D.Domain.variables c.args.d.now in
    let q = c.args.problem.now in
    let k = c.loop-point.point in
    let s = first c.args.condition.now in
    let a = seen_term first c.args.left.now.term in
    let b = seen_term first c.args.right.now.term in
    let grown = c.loop-point.invariant.extends in
    let old = seen_cases first c.args.cases in
    let middle = seen_cases now c.loop-point.found in
    let new = seen_cases after c.in_ok-found.found in
    let Relates : Seen _ → Term (Seen _) → Term (Seen _) → List Value → Type 0 = λ r t u v. (truth r v ≡ true) × RelatedBy q k (tree_of v t) (tree_of v u) in
    let here : AreMoreCases variables (Relates s a b) middle new =
    more_seen Relates middle new (g.D.Domain.variables c.loop-point.d) variables (now c.args.condition.now) s (seen_term now c.args.left.now.term) a (seen_term now c.args.right.now.term) b
    c.loop-point.invariant.same_variables (grown.keeps c.args.condition.now c.requires.condition.valid)
    (term_stays first now grown c.args.left.now.term (configuration_valid q.left a c.requires.left)) (term_stays first now grown c.args.right.now.term (configuration_valid q.right b c.requires.right)) c.in_ok-found.ensures.more in
    let Before : List Value → Type 0 = λ v. (truth s v ≡ true) × RelatedBelow q k (tree_of v a) (tree_of v b) in
    record {
      extends = extends-both _ _ _ grown c.in_ok-found.ensures.extends;
      same_variables = c.in_ok-found.ensures.same_variables ∙ c.loop-point.invariant.same_variables;
      more = more_same variables (λ v. Before v ⊎ Relates s a b v) (λ v. (truth s v ≡ true) × RelatedBelow q (k + 1) (tree_of v a) (tree_of v b)) old new
          (λ v fits. beside_either (truth s v ≡ true) (RelatedBelow q k (tree_of v a) (tree_of v b)) (RelatedBy q k (tree_of v a) (tree_of v b)) (RelatedBelow q (k + 1) (tree_of v a) (tree_of v b)) (below_more q (tree_of v a) (tree_of v b) k))
          (more_then variables Before (Relates s a b) old middle new c.loop-point.invariant.more here);
    }

pub returns-clause-more : goal.returns-clause-more
returns-clause-more g c =
    let look = g.D.Domain.look in
    let first = look c.args.d.now in
    let q = c.args.problem.now in
    let k = c.loop-point.point in
    let s = first c.args.condition.now in
    let a = seen_term first c.args.left.now.term in
    let b = seen_term first c.args.right.now.term in
    let past : length q.points.points ≤ k = omega (arith, c.len-point-end.ensures, c.loop-point-test.false) in
    more_same (g.D.Domain.variables c.args.d.now) (λ v. (truth s v ≡ true) × RelatedBelow q k (tree_of v a) (tree_of v b)) (λ v. (truth s v ≡ true) × Related q (tree_of v a) (tree_of v b))
    (seen_cases first c.args.cases) (seen_cases (look c.loop-point.d) c.loop-point.found)
    (λ v fits. let all = below_all q (tree_of v a) (tree_of v b) k past in (λ h. (h.0, all.0 h.1), λ h. (h.0, all.1 h.1)))
    c.loop-point.invariant.more
