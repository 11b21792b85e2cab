use Rattle.std.proofs.Common.{[], ◌∷◌, ◌++◌, Some, sym, subst, ap, ◌∙◌}
use Rattle.data_value.specs.declared.DataSort.TheVariants.{Bool as BoolSort}
use Rattle.sort_term.specs.declared.rule.Demand.TheVariants.{When}
use Rattle.sort_term.specs.Step.{Demanded}
use Rattle.sort_term.specs.NodeTerms.{seen_term, seen_sort, tree_of}
use Rattle.unify.specs.Meets.{seen_matching}
use Rattle.unify.specs.Matchings.{seen_matchings, IsOfNodes, GoOn, Supposes, demand_times}
use Rattle.unify.proofs.Nodes.{data_node, plain_sort, plain_tree}
use Rattle.unify.proofs.Binding.{binds_valid}
use Rattle.unify.proofs.Carried.{lawful_nodes, matching_stays, condition_valid}
use Rattle.unify.proofs.KeyTests.{condition_from}
use Rattle.unify.proofs.Readied.{when_sort, when_some}
use Rattle.unify.proofs.KnownEquations.{tells_true}
use Rattle.unify.proofs.GoingOn.{when_on, when_off}
use Rattle.unify.specs.Scopes.{scope_of}
use Rattle.unify.proofs.demands.when_true.Goals as goal

pub evaluate-requires-clause-valid : goal.evaluate-requires-clause-valid
evaluate-requires-clause-valid g c = binds_valid c.args.semantics.now.cons c.args.vars.now _ c.requires.matching.binds

pub evaluate-requires-clause-sorted : goal.evaluate-requires-clause-sorted
evaluate-requires-clause-sorted g c = when_some c.args.semantics.now.cons c.args.semantics.now.tables c.args.vars.now (seen_matching (g.D.Domain.look c.args.d.now) c.args.matching.now) c.requires.matching c.args.condition.now c.requires.ready

pub plain_node-requires : goal.plain_node-requires
plain_node-requires g c =
    let old = g.D.Domain.look c.args.d.now in
    let now = g.D.Domain.look c.evaluate.new.d in
    let cons = c.args.semantics.now.cons in
    let tables = c.args.semantics.now.tables in
    let vars = c.args.vars.now in
    let m = seen_matching old c.args.matching.now in
    let lawful = c.requires.matching in
    data_node cons now c.in_ok-term.term BoolSort (c.in_ok-term.ensures.value.sorted ∙ when_sort cons tables vars m lawful c.args.condition.now c.requires.ready)

pub supposed-requires-clause-node : goal.supposed-requires-clause-node
supposed-requires-clause-node g c =
    let old = g.D.Domain.look c.args.d.now in
    let now = g.D.Domain.look c.evaluate.new.d in
    let cons = c.args.semantics.now.cons in
    let tables = c.args.semantics.now.tables in
    let vars = c.args.vars.now in
    let m = seen_matching old c.args.matching.now in
    let lawful = c.requires.matching in
    condition_from (now c.plain_node.result.now) (sym (plain_sort cons now c.plain_node.result.now) ∙ ap (λ t. seen_sort cons (seen_term now t)) (sym c.plain_node.ensures) ∙ c.in_ok-term.ensures.value.sorted ∙ when_sort cons tables vars m lawful c.args.condition.now c.requires.ready)

pub supposed-requires-clause-matching : goal.supposed-requires-clause-matching
supposed-requires-clause-matching g c =
    let old = g.D.Domain.look c.args.d.now in
    let now = g.D.Domain.look c.evaluate.new.d in
    let cons = c.args.semantics.now.cons in
    let tables = c.args.semantics.now.tables in
    let vars = c.args.vars.now in
    let m = seen_matching old c.args.matching.now in
    let lawful = c.requires.matching in
    let nodes = lawful_nodes cons vars m lawful in
    subst IsOfNodes (sym (matching_stays old now c.in_ok-term.ensures.extends c.args.matching.now nodes)) nodes

pub returns-in-Some-clause-matchings : goal.returns-in-Some-clause-matchings
returns-in-Some-clause-matchings g c =
    let old = g.D.Domain.look c.args.d.now in
    let now = g.D.Domain.look c.evaluate.new.d in
    let cons = c.args.semantics.now.cons in
    let tables = c.args.semantics.now.tables in
    let vars = c.args.vars.now in
    let m = seen_matching old c.args.matching.now in
    let lawful = c.requires.matching in
    let kept = matching_stays old now c.in_ok-term.ensures.extends c.args.matching.now (lawful_nodes cons vars m lawful) in
    let node = c.plain_node.result.now in
    let e = c.args.condition.now in
    let condition = condition_from (now node) (sym (plain_sort cons now node) ∙ ap (λ t. seen_sort cons (seen_term now t)) (sym c.plain_node.ensures) ∙ c.in_ok-term.ensures.value.sorted ∙ when_sort cons tables vars m lawful e c.requires.ready) in
    let more = rw c.in-Some.is at c.in_ok-more.ensures in
    subst (λ ms. GoOn (scope_of cons vars (g.D.Domain.variables c.args.d.now)) m (demand_times (When e)) (λ v w. Demanded c.args.program.now w (When e)) (seen_matchings now ms)) (sym (c.in_ok-push-in-Some.ensures.ok ∙ ap (λ ms. ms ++ c.in-Some.more ∷ []) c.new-matchings.ensures))
    (when_on cons vars (g.D.Domain.variables c.args.d.now) c.args.program.now e m lawful (now node) condition (λ v w a. c.in_ok-term.ensures.value.means v w a ∙ ap (λ t. tree_of v (seen_term now t)) c.plain_node.ensures ∙ plain_tree now v node) (tells_true now (g.D.Domain.variables c.evaluate.new.d) (g.met.D.Domain.laws c.evaluate.new.d) node condition) (seen_matching now c.in-Some.more) (subst (λ x. Supposes now (now node) x (Some c.in-Some.more)) kept more))

pub returns-clause-matchings : goal.returns-clause-matchings
returns-clause-matchings g c =
    let old = g.D.Domain.look c.args.d.now in
    let now = g.D.Domain.look c.evaluate.new.d in
    let cons = c.args.semantics.now.cons in
    let tables = c.args.semantics.now.tables in
    let vars = c.args.vars.now in
    let m = seen_matching old c.args.matching.now in
    let lawful = c.requires.matching in
    let node = c.plain_node.result.now in
    let e = c.args.condition.now in
    let condition = condition_from (now node) (sym (plain_sort cons now node) ∙ ap (λ t. seen_sort cons (seen_term now t)) (sym c.plain_node.ensures) ∙ c.in_ok-term.ensures.value.sorted ∙ when_sort cons tables vars m lawful e c.requires.ready) in
    let off = rw c.in-None.is at c.in_ok-more.ensures in
    subst (λ ms. GoOn (scope_of cons vars (g.D.Domain.variables c.args.d.now)) m (demand_times (When e)) (λ v w. Demanded c.args.program.now w (When e)) (seen_matchings now ms)) (sym c.new.ensures)
    (when_off cons vars (g.D.Domain.variables c.args.d.now) c.args.program.now e m lawful (now node) condition (λ v w a. c.in_ok-term.ensures.value.means v w a ∙ ap (λ t. tree_of v (seen_term now t)) c.plain_node.ensures ∙ plain_tree now v node)
    ((g.met.D.Domain.laws c.evaluate.new.d).known node _ (condition_valid (now node) condition) off))
