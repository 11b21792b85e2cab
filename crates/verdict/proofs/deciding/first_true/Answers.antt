use Rattle.std.proofs.Common.{arith, ◌≤◌, length, sym, ◌∙◌, subst}
use Rattle.std.specs.Prelude.{⊤}
use Rattle.std.proofs.lemmas.List.{take_all}
use Rattle.data_value.specs.Truth.{IsCondition}
use Rattle.data_value.proofs.Grown.{extends-both}
use Rattle.probe_keys.proofs.Turns.{item_at}
use Rattle.prover.specs.Answers.{MatchAnswer, IsNever, IsNeverTrue, IsTrueUnder}
use Rattle.point_questions.specs.declared.question.Question.{Question}
use Rattle.point_questions.specs.Questions.{SeenQuestion, seen_questions}
use Rattle.verdict.specs.Decided.{AreNeverTrue}
use Rattle.verdict.proofs.Turns.{never_more, first_is}
use Rattle.verdict.proofs.deciding.first_true.Goals as goal

pub decide-requires : goal.decide-requires
decide-requires g c =
    let look = g.D.Domain.look in
    let first = look c.args.d.now in
    let y = c.question-item.result in
    let is : IsCondition (first y.formula) = item_at (λ (z : SeenQuestion _). IsCondition z.formula) (λ (z : Question _). record { flaw = z.flaw; formula = first z.formula }) c.args.questions.now c.loop-question.question-index y c.loop-question-test.true c.question-item.is c.requires in
    subst IsCondition (sym (c.loop-question.invariant.extends.keeps y.formula is.valid)) is

pub returns-in-Holds-clause-extends : goal.returns-in-Holds-clause-extends
returns-in-Holds-clause-extends g c = extends-both _ _ _ c.loop-question.invariant.extends c.in_ok-decide.ensures.extends

pub returns-in-Holds-clause-first : goal.returns-in-Holds-clause-first
returns-in-Holds-clause-first g c =
    let look = g.D.Domain.look in
    let sorts = g.D.Domain.variables in
    let first = look c.args.d.now in
    let now = look c.loop-question.d in
    let y = c.question-item.result in
    let is : IsCondition (first y.formula) = item_at (λ (z : SeenQuestion _). IsCondition z.formula) (λ (z : Question _). record { flaw = z.flaw; formula = first z.formula }) c.args.questions.now c.loop-question.question-index y c.loop-question-test.true c.question-item.is c.requires in
    let told : IsTrueUnder (sorts c.loop-question.d) (now y.formula) c.in-Holds.values = subst (λ a. MatchAnswer a ⊤ (IsTrueUnder (sorts c.loop-question.d) (now y.formula))) c.in-Holds.is c.in_ok-decide.ensures.valuation in
    let holds : IsTrueUnder (sorts c.args.d.now) (first y.formula) c.in-Holds.values =
    subst (λ s. IsTrueUnder (sorts c.args.d.now) s c.in-Holds.values) (c.loop-question.invariant.extends.keeps y.formula is.valid) (subst (λ vs. IsTrueUnder vs (now y.formula) c.in-Holds.values) c.loop-question.invariant.same_variables told) in
    first_is first (sorts c.args.d.now) c.args.questions.now c.loop-question.question-index y c.loop-question-test.true c.question-item.is c.loop-question.invariant.never c.in-Holds.values holds

pub loop-question-preserved : goal.loop-question-preserved
loop-question-preserved g c =
    let look = g.D.Domain.look in
    let sorts = g.D.Domain.variables in
    let first = look c.args.d.now in
    let now = look c.loop-question.d in
    let y = c.question-item.result in
    let is : IsCondition (first y.formula) = item_at (λ (z : SeenQuestion _). IsCondition z.formula) (λ (z : Question _). record { flaw = z.flaw; formula = first z.formula }) c.args.questions.now c.loop-question.question-index y c.loop-question-test.true c.question-item.is c.requires in
    let told : IsNeverTrue (sorts c.loop-question.d) (now y.formula) = c.in_ok-decide.ensures.never.0 (subst IsNever (sym c.in-Never.is) tt) in
    let never : IsNeverTrue (sorts c.args.d.now) (first y.formula) =
    subst (λ s. IsNeverTrue (sorts c.args.d.now) s) (c.loop-question.invariant.extends.keeps y.formula is.valid) (subst (λ vs. IsNeverTrue vs (now y.formula)) c.loop-question.invariant.same_variables told) in
    record {
      extends = extends-both _ _ _ c.loop-question.invariant.extends c.in_ok-decide.ensures.extends;
      same_variables = c.in_ok-decide.ensures.same_variables ∙ c.loop-question.invariant.same_variables;
      never = never_more first (sorts c.args.d.now) c.args.questions.now c.loop-question.question-index y c.loop-question-test.true c.question-item.is c.loop-question.invariant.never never;
    }

pub returns-clause-first : goal.returns-clause-first
returns-clause-first g c =
    let first = g.D.Domain.look c.args.d.now in
    let past : length c.args.questions.now ≤ c.loop-question.question-index = omega (arith, c.loop-question-test.false) in
    subst (λ xs. AreNeverTrue (g.D.Domain.variables c.args.d.now) (seen_questions first xs)) (take_all c.loop-question.question-index c.args.questions.now past) c.loop-question.invariant.never
