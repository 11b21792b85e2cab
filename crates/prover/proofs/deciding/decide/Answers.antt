use Rattle.std.proofs.Common.{All, length, sym, ◌∙◌, subst}
use Rattle.data_value.specs.Sorts.{IsSort}
use Rattle.clause_search.specs.Found.{IsModelOf, IsRefuted, MatchFound}
use Rattle.prover.specs.Answers.{IsTrueUnder}
use Rattle.prover.specs.Splitting.{IsMarked}
use Rattle.prover.specs.Usage.{AreUsed}
use Rattle.prover.proofs.Decisions.{cleared_true, never_true}
use Rattle.prover.proofs.deciding.decide.Goals as goal

pub cleared-requires-clause-sorts : goal.cleared-requires-clause-sorts
cleared-requires-clause-sorts g c = subst (All IsSort) (sym c.sorts.ensures) (g.met.D.Domain.laws c.pose.new.d).sorts

pub returns-in-Model-clause-valuation : goal.returns-in-Model-clause-valuation
returns-in-Model-clause-valuation g c =
    let variables = g.D.Domain.variables c.args.d.now in
    let look = g.D.Domain.look c.args.d.now in
    let s = look c.args.formula.now in
    let clauses = c.in_ok-question.question.circuit.clauses in
    let is = subst (λ f. MatchFound f (λ m. IsModelOf clauses.vars clauses.list m) (λ _. Unit {0})) c.in-Model.is c.in_ok-model.ensures.assignment in
    let before = subst (IsTrueUnder variables s) (sym c.in_ok-spelled-in-Model.ensures) (c.in_ok-question.ensures.question.models c.in-Model.model is) in
    let used = subst (AreUsed look s (length variables)) (sym c.as_slice.ensures.value) c.in_ok-used.ensures in
    cleared_true variables s look c.sorts.result.now (length variables) c.as_slice.result.now c.in_ok-spelled-in-Model.spelled c.in_ok-cleared-in-Model.cleared (c.sorts.ensures ∙ c.in_ok-question.ensures.same_variables) used c.in_ok-cleared-in-Model.ensures before

pub returns-in-Model-clause-holds : goal.returns-in-Model-clause-holds
returns-in-Model-clause-holds g c = (λ _. (c.in_ok-cleared-in-Model.cleared, returns-in-Model-clause-valuation g c), λ _. tt)

pub returns-in-Model-clause-unused : goal.returns-in-Model-clause-unused
returns-in-Model-clause-unused g c = λ i unused. c.in_ok-cleared-in-Model.ensures.zero i (λ m. unused (c.in_ok-used.ensures.only i (subst (λ ms. IsMarked ms i) c.as_slice.ensures.value m)))

pub returns-clause-never : goal.returns-clause-never
returns-clause-never g c =
    let clauses = c.in_ok-question.question.circuit.clauses in
    (λ _. never_true (g.D.Domain.variables c.args.d.now) (g.D.Domain.look c.args.d.now c.args.formula.now) clauses.list c.in_ok-question.ensures.question.complete (c.in_ok-model.ensures.refuted.0 (subst IsRefuted (sym c.in-Refuted.is) tt)), λ _. tt)
