use Rattle.std.proofs.Common.{sym, subst, ◌∙◌}
use Rattle.sort_term.specs.declared.rule.Source.TheVariants.{Expr}
use Rattle.sort_term.specs.Stands.{times}
use Rattle.sort_term.specs.NodeTerms.{seen_term}
use Rattle.unify.specs.Meets.{seen_matching, IsMatching, RebindsOnlyScalars, Equals}
use Rattle.unify.specs.Matchings.{seen_matchings, IsOfNodes}
use Rattle.unify.proofs.Binding.{binds_valid}
use Rattle.unify.proofs.Carried.{lawful_nodes, matching_stays}
use Rattle.unify.proofs.Readied.{pattern_some, pattern_repeats, value_sort, value_some}
use Rattle.unify.proofs.GoingOn.{go_on_from, value_on}
use Rattle.unify.proofs.demands.let_value.Goals as goal

pub evaluate-requires-clause-valid : goal.evaluate-requires-clause-valid
evaluate-requires-clause-valid g c = binds_valid c.args.semantics.now.cons c.args.vars.now _ c.requires.matching.binds

pub evaluate-requires-clause-sorted : goal.evaluate-requires-clause-sorted
evaluate-requires-clause-sorted g c = value_some c.args.semantics.now.cons c.args.semantics.now.tables c.args.vars.now (seen_matching (g.D.Domain.look c.args.d.now) c.args.matching.now) c.requires.matching c.args.pattern.now c.args.expr.now c.requires.ready

pub copy_matching-requires : goal.copy_matching-requires
copy_matching-requires g c =
    let old = g.D.Domain.look c.args.d.now in
    let now = g.D.Domain.look c.evaluate.new.d in
    let cons = c.args.semantics.now.cons in
    let tables = c.args.semantics.now.tables in
    let vars = c.args.vars.now in
    let m = seen_matching old c.args.matching.now in
    let lawful = c.requires.matching in
    let nodes = lawful_nodes cons vars m lawful in
    subst IsOfNodes (sym (matching_stays old now c.in_ok-term.ensures.extends c.args.matching.now nodes)) nodes

pub joined-requires-clause-pattern : goal.joined-requires-clause-pattern
joined-requires-clause-pattern g c =
    let old = g.D.Domain.look c.args.d.now in
    let now = g.D.Domain.look c.evaluate.new.d in
    let cons = c.args.semantics.now.cons in
    let tables = c.args.semantics.now.tables in
    let vars = c.args.vars.now in
    let m = seen_matching old c.args.matching.now in
    let lawful = c.requires.matching in
    pattern_some cons tables vars m lawful c.args.pattern.now (Expr c.args.expr.now) c.requires.ready

pub joined-requires-clause-term : goal.joined-requires-clause-term
joined-requires-clause-term g c =
    let old = g.D.Domain.look c.args.d.now in
    let now = g.D.Domain.look c.evaluate.new.d in
    let cons = c.args.semantics.now.cons in
    let tables = c.args.semantics.now.tables in
    let vars = c.args.vars.now in
    let m = seen_matching old c.args.matching.now in
    let lawful = c.requires.matching in
    c.in_ok-term.ensures.value.sorted ∙ value_sort cons tables vars m lawful c.args.pattern.now c.args.expr.now c.requires.ready

pub joined-requires-clause-matching : goal.joined-requires-clause-matching
joined-requires-clause-matching g c =
    let old = g.D.Domain.look c.args.d.now in
    let now = g.D.Domain.look c.evaluate.new.d in
    let cons = c.args.semantics.now.cons in
    let tables = c.args.semantics.now.tables in
    let vars = c.args.vars.now in
    let m = seen_matching old c.args.matching.now in
    let lawful = c.requires.matching in
    let kept = matching_stays old now c.in_ok-term.ensures.extends c.args.matching.now (lawful_nodes cons vars m lawful) in
    subst (IsMatching cons vars) (sym (c.in_ok-copy.ensures ∙ kept)) lawful

pub joined-requires-clause-repeats : goal.joined-requires-clause-repeats
joined-requires-clause-repeats g c =
    let old = g.D.Domain.look c.args.d.now in
    let now = g.D.Domain.look c.evaluate.new.d in
    let cons = c.args.semantics.now.cons in
    let tables = c.args.semantics.now.tables in
    let vars = c.args.vars.now in
    let m = seen_matching old c.args.matching.now in
    let lawful = c.requires.matching in
    let kept = matching_stays old now c.in_ok-term.ensures.extends c.args.matching.now (lawful_nodes cons vars m lawful) in
    subst (λ x. RebindsOnlyScalars vars x.binds (λ i. times i c.args.pattern.now)) (sym (c.in_ok-copy.ensures ∙ kept)) (pattern_repeats cons tables vars m lawful c.args.pattern.now (Expr c.args.expr.now) c.requires.ready)

pub returns-clause-matchings : goal.returns-clause-matchings
returns-clause-matchings g c =
    let old = g.D.Domain.look c.args.d.now in
    let now = g.D.Domain.look c.evaluate.new.d in
    let cons = c.args.semantics.now.cons in
    let tables = c.args.semantics.now.tables in
    let vars = c.args.vars.now in
    let m = seen_matching old c.args.matching.now in
    let lawful = c.requires.matching in
    let kept = matching_stays old now c.in_ok-term.ensures.extends c.args.matching.now (lawful_nodes cons vars m lawful) in
    let t = seen_term now c.in_ok-term.term in
    let ms = seen_matchings (g.D.Domain.look c.joined.new.d) c.in_ok-joined.field-0 in
    value_on cons vars (g.D.Domain.variables c.args.d.now) c.args.program.now c.args.pattern.now c.args.expr.now m t ms c.in_ok-term.ensures.value
    (go_on_from cons vars (g.D.Domain.variables c.evaluate.new.d) (g.D.Domain.variables c.args.d.now) (seen_matching now c.in_ok-copy.copy) m (λ i. times i c.args.pattern.now) (Equals c.args.pattern.now t) ms c.in_ok-term.ensures.same_variables (c.in_ok-copy.ensures ∙ kept) c.in_ok-joined.ensures.matchings)
