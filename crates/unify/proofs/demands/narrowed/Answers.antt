use Rattle.std.proofs.Common.{sym, subst, ap, ◌∙◌}
use Rattle.sort_term.specs.declared.rule.Demand.TheVariants.{Let}
use Rattle.sort_term.specs.Step.{Demanded}
use Rattle.unify.specs.Meets.{seen_matching}
use Rattle.unify.specs.Matchings.{seen_matchings, IsReady, GoOn, demand_times}
use Rattle.unify.specs.Scopes.{scope_of}
use Rattle.unify.proofs.demands.narrowed.Goals as goal

pub let_value-requires-clause-ready : goal.let_value-requires-clause-ready
let_value-requires-clause-ready g c = subst (IsReady _ _ _ _) (c.in-Let.is ∙ ap (Let c.in-Let.pattern) c.in-Expr.is) c.requires.ready

pub rows_read-requires-clause-ready : goal.rows_read-requires-clause-ready
rows_read-requires-clause-ready g c = subst (IsReady _ _ _ _) (c.in-Let.is ∙ ap (Let c.in-Let.pattern) c.in-Row.is) c.requires.ready

pub when_true-requires-clause-ready : goal.when_true-requires-clause-ready
when_true-requires-clause-ready g c = subst (IsReady _ _ _ _) c.in-When.is c.requires.ready

pub returns-in_ok-let_value-in-Expr-clause-matchings : goal.returns-in_ok-let_value-in-Expr-clause-matchings
returns-in_ok-let_value-in-Expr-clause-matchings g c =
    let m = seen_matching (g.D.Domain.look c.args.d.now) c.args.matching.now in
    let ms = seen_matchings (g.D.Domain.look c.let_value.new.d) c.in_ok-let_value-in-Expr.field-0 in
    subst (λ d. GoOn (scope_of c.args.semantics.now.cons c.args.vars.now (g.D.Domain.variables c.args.d.now)) m (demand_times d) (λ v w. Demanded c.args.program.now w d) ms) (sym (c.in-Let.is ∙ ap (Let c.in-Let.pattern) c.in-Expr.is)) c.in_ok-let_value-in-Expr.ensures.matchings

pub returns-in_ok-rows_read-in-Row-clause-matchings : goal.returns-in_ok-rows_read-in-Row-clause-matchings
returns-in_ok-rows_read-in-Row-clause-matchings g c =
    let m = seen_matching (g.D.Domain.look c.args.d.now) c.args.matching.now in
    let ms = seen_matchings (g.D.Domain.look c.rows_read.new.d) c.in_ok-rows_read-in-Row.field-0 in
    subst (λ d. GoOn (scope_of c.args.semantics.now.cons c.args.vars.now (g.D.Domain.variables c.args.d.now)) m (demand_times d) (λ v w. Demanded c.args.program.now w d) ms) (sym (c.in-Let.is ∙ ap (Let c.in-Let.pattern) c.in-Row.is)) c.in_ok-rows_read-in-Row.ensures.matchings

pub returns-in_ok-when_true-in-When-clause-matchings : goal.returns-in_ok-when_true-in-When-clause-matchings
returns-in_ok-when_true-in-When-clause-matchings g c =
    let m = seen_matching (g.D.Domain.look c.args.d.now) c.args.matching.now in
    let ms = seen_matchings (g.D.Domain.look c.when_true.new.d) c.in_ok-when_true-in-When.field-0 in
    subst (λ d. GoOn (scope_of c.args.semantics.now.cons c.args.vars.now (g.D.Domain.variables c.args.d.now)) m (demand_times d) (λ v w. Demanded c.args.program.now w d) ms) (sym c.in-When.is) c.in_ok-when_true-in-When.ensures.matchings
