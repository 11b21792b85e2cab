use Rattle.std.proofs.Common.{◌≡◌, ◌++◌, ◌∷◌, [], sym, ap, ◌∙◌, subst}
use Rattle.data_value.specs.Truth.{IsCondition, truth}
use Rattle.data_value.proofs.Grown.{extends-both}
use Rattle.sort_term.specs.NodeTerms.{seen_term, tree_of}
use Rattle.sort_term.specs.Relation.{left, right, InCutOf}
use Rattle.sort_term.proofs.NodeTerming.{term_stays}
use Rattle.unify.specs.Branches.{IsConfiguration}
use Rattle.path_condition.proofs.LeafLemmas.{configuration_valid}
use Rattle.probe_keys.specs.Probed.{IsProbed}
use Rattle.point_questions.specs.declared.question.Flaw.TheVariants.{Outside}
use Rattle.ground_step.specs.declared.verdict.SideName.TheVariants as side
use Rattle.point_questions.specs.Posed.{seen_posed}
use Rattle.point_questions.specs.Questions.{seen_questions, unsearched, IsOutsideFlaw, AreQuestions}
use Rattle.point_questions.proofs.Asking.{outside_pair}
use Rattle.point_questions.proofs.grounding.outside_questions.Goals as goal

pub outside_where-requires-2-clause-config : goal.outside_where-requires-2-clause-config
outside_where-requires-2-clause-config g c =
    let look = g.D.Domain.look in
    let sys = c.args.problem.now.right in
    let t = c.args.point.now.right.term in
    subst (IsConfiguration sys) (sym (term_stays (look c.args.d.now) (look c.outside_where.new.d) c.in_ok-formula.ensures.extends t (configuration_valid sys (seen_term (look c.args.d.now) t) c.requires.right))) c.requires.right

pub outside_where-requires-2-clause-condition : goal.outside_where-requires-2-clause-condition
outside_where-requires-2-clause-condition g c =
    subst IsCondition (sym (c.in_ok-formula.ensures.extends.keeps c.args.point.now.condition c.requires.condition.valid)) c.requires.condition

pub returns-clause-extends : goal.returns-clause-extends
returns-clause-extends g c = extends-both _ _ _ c.in_ok-formula.ensures.extends c.in_ok-formula-2.ensures.extends

pub returns-clause-asked : goal.returns-clause-asked
returns-clause-asked g c =
    let look = g.D.Domain.look in
    let variables = g.D.Domain.variables c.args.d.now in
    let first = look c.args.d.now in
    let middle = look c.outside_where.new.d in
    let last = look c.outside_where-2.new.d in
    let q = c.args.problem.now in
    let x = seen_posed first c.args.point.now in
    let one = c.in_ok-formula.formula in
    let two = c.in_ok-formula-2.formula in
    let kept : last one ≡ middle one = c.in_ok-formula-2.ensures.extends.keeps one c.in_ok-formula.ensures.outside.condition.valid in
    let same = term_stays first middle c.in_ok-formula.ensures.extends c.args.point.now.right.term (configuration_valid q.right x.right c.requires.right) in
    let condition = c.in_ok-formula.ensures.extends.keeps c.args.point.now.condition c.requires.condition.valid in
    let left_asked = subst (IsProbed variables variables (truth x.condition) (λ v. InCutOf q left (tree_of v x.left))) (sym kept) c.in_ok-formula.ensures.outside in
    let there = subst (λ vs. IsProbed vs vs (truth (middle c.args.point.now.condition)) (λ v. InCutOf q right (tree_of v (seen_term middle c.args.point.now.right.term))) (last two)) c.in_ok-formula.ensures.same_variables c.in_ok-formula-2.ensures.outside in
    let right_asked = subst (λ s. IsProbed variables variables (truth s) (λ v. InCutOf q right (tree_of v x.right)) (last two)) condition (subst (λ t. IsProbed variables variables (truth (middle c.args.point.now.condition)) (λ v. InCutOf q right (tree_of v t)) (last two)) same there) in
    subst (λ xs. AreQuestions IsOutsideFlaw q variables variables (unsearched x) (seen_questions last xs))
    (sym (c.in_ok-push-2.ensures.ok ∙ ap (λ xs. xs ++ record { flaw = Outside side.Right; formula = two } ∷ []) (c.in_ok-push.ensures.ok ∙ ap (λ xs. xs ++ record { flaw = Outside side.Left; formula = one } ∷ []) c.new-questions.ensures)))
    (outside_pair q variables x (last one) (last two) left_asked right_asked)
