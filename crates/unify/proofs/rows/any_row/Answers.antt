use Rattle.std.proofs.Common.{arith, refl, ◌+◌, [], take, sym, subst, ap, ◌∙◌}
use Rattle.std.specs.Prelude.{Any}
use Rattle.std.proofs.lemmas.List.{take_all}
use Rattle.std.proofs.lemmas.List.Elements.{All-get_or}
use Rattle.data_value.specs.declared.DataSort.TheVariants.{Bits as BitsSort}
use Rattle.data_value.proofs.Grown.{extends-both, extends-same}
use Rattle.sort_term.specs.Sorted.{pattern_sort}
use Rattle.sort_term.specs.Stands.{times}
use Rattle.sort_term.specs.NodeTerms.{node_sort}
use Rattle.unify.specs.Meets.{seen_matching, IsMatching, RebindsOnlyScalars}
use Rattle.unify.specs.Matchings.{seen_matchings, GoOn, ReadsRow, IsRowFor}
use Rattle.unify.proofs.Carried.{lawful_nodes, matching_stays, going_on_nodes, appended}
use Rattle.unify.proofs.KeyTests.{is_sorted}
use Rattle.unify.proofs.GoingOn.{go_on_from, rows_more, no_rows}
use Rattle.unify.specs.Scopes.{scope_of}
use Rattle.unify.proofs.rows.any_row.Goals as goal

pub loop-row-init : goal.loop-row-init
loop-row-init g c =
    let old = g.D.Domain.look c.args.d.now in
    let m = seen_matching old c.args.matching.now in
    record {
      extends = extends-same old;
      same_variables = refl;
      rows = subst (λ ms. GoOn (scope_of c.args.semantics.now.cons c.args.vars.now (g.D.Domain.variables c.args.d.now)) m (λ i. times i c.args.pattern.now) (λ v w. Any (ReadsRow (old c.args.node.now) c.args.pattern.now v w) []) (seen_matchings old ms)) (sym c.new-matchings.ensures)
          (no_rows c.args.semantics.now.cons c.args.vars.now (g.D.Domain.variables c.args.d.now) c.args.pattern.now (old c.args.node.now) m);
    }

pub row_read-requires-clause-row : goal.row_read-requires-clause-row
row_read-requires-clause-row g c =
    let P = IsRowFor c.args.semantics.now.cons c.args.width (pattern_sort c.args.semantics.now.cons c.args.vars.now c.args.pattern.now) in
    subst P (sym c.row-item.is) (All-get_or P c.args.rows.now c.loop-row.row-index c.row-item.result c.loop-row-test.true c.requires.rows)

pub row_read-requires-clause-node : goal.row_read-requires-clause-node
row_read-requires-clause-node g c =
    let look = g.D.Domain.look in
    let old = look c.args.d.now in
    let now = look c.loop-row.d in
    let cons = c.args.semantics.now.cons in
    let vars = c.args.vars.now in
    let m = seen_matching old c.args.matching.now in
    let lawful = c.requires.matching in
    let kept = matching_stays old now c.loop-row.invariant.extends c.args.matching.now (lawful_nodes cons vars m lawful) in
    let same = c.loop-row.invariant.extends.keeps c.args.node.now (is_sorted (old c.args.node.now) (BitsSort c.args.width) c.requires.node).0 in
    ap node_sort same ∙ c.requires.node

pub row_read-requires-clause-matching : goal.row_read-requires-clause-matching
row_read-requires-clause-matching g c =
    let look = g.D.Domain.look in
    let old = look c.args.d.now in
    let now = look c.loop-row.d in
    let cons = c.args.semantics.now.cons in
    let vars = c.args.vars.now in
    let m = seen_matching old c.args.matching.now in
    let lawful = c.requires.matching in
    let kept = matching_stays old now c.loop-row.invariant.extends c.args.matching.now (lawful_nodes cons vars m lawful) in
    let same = c.loop-row.invariant.extends.keeps c.args.node.now (is_sorted (old c.args.node.now) (BitsSort c.args.width) c.requires.node).0 in
    subst (IsMatching cons vars) (sym kept) lawful

pub row_read-requires-clause-repeats : goal.row_read-requires-clause-repeats
row_read-requires-clause-repeats g c =
    let look = g.D.Domain.look in
    let old = look c.args.d.now in
    let now = look c.loop-row.d in
    let cons = c.args.semantics.now.cons in
    let vars = c.args.vars.now in
    let m = seen_matching old c.args.matching.now in
    let lawful = c.requires.matching in
    let kept = matching_stays old now c.loop-row.invariant.extends c.args.matching.now (lawful_nodes cons vars m lawful) in
    let same = c.loop-row.invariant.extends.keeps c.args.node.now (is_sorted (old c.args.node.now) (BitsSort c.args.width) c.requires.node).0 in
    subst (λ x. RebindsOnlyScalars vars x.binds (λ i. times i c.args.pattern.now)) (sym kept) c.requires.repeats

pub loop-row-preserved : goal.loop-row-preserved
loop-row-preserved g c =
    let look = g.D.Domain.look in
    let old = look c.args.d.now in
    let now = look c.loop-row.d in
    let cons = c.args.semantics.now.cons in
    let vars = c.args.vars.now in
    let m = seen_matching old c.args.matching.now in
    let lawful = c.requires.matching in
    let kept = matching_stays old now c.loop-row.invariant.extends c.args.matching.now (lawful_nodes cons vars m lawful) in
    let same = c.loop-row.invariant.extends.keeps c.args.node.now (is_sorted (old c.args.node.now) (BitsSort c.args.width) c.requires.node).0 in
    let next = look c.row_read.new.d in
    let variables = g.D.Domain.variables c.args.d.now in
    let p = c.args.pattern.now in
    let r = c.row-item.result in
    let i = c.loop-row.row-index in
    let key = old c.args.node.now in
    let before = seen_matchings now c.loop-row.matchings in
    let found = seen_matchings next c.in_ok-more.more in
    let made : GoOn (scope_of cons vars variables) m (λ j. times j p) (λ v w. ReadsRow key p v w r) found =
    subst (λ s. GoOn (scope_of cons vars variables) m (λ j. times j p) (λ v w. ReadsRow s p v w r) found) same
    (go_on_from cons vars (g.D.Domain.variables c.loop-row.d) variables (seen_matching now c.args.matching.now) m (λ j. times j p) (λ v w. ReadsRow (now c.args.node.now) p v w r) found c.loop-row.invariant.same_variables kept c.in_ok-more.ensures.matchings) in
    let all = appended now next c.in_ok-more.ensures.extends c.loop-row.matchings c.in_ok-more.more _ (going_on_nodes cons vars variables m (λ j. times j p) _ before c.loop-row.invariant.rows) c.in_ok-append.ensures in
    record {
      extends = extends-both old now next c.loop-row.invariant.extends c.in_ok-more.ensures.extends;
      same_variables = c.in_ok-more.ensures.same_variables ∙ c.loop-row.invariant.same_variables;
      rows = subst (GoOn (scope_of cons vars variables) m (λ j. times j p) (λ v w. Any (ReadsRow key p v w) (take (i + 1) c.args.rows.now))) (sym all)
          (rows_more cons vars variables p key c.args.rows.now i r m before found c.loop-row-test.true c.row-item.is c.loop-row.invariant.rows made);
    }

pub returns-clause-matchings : goal.returns-clause-matchings
returns-clause-matchings g c =
    let old = g.D.Domain.look c.args.d.now in
    subst (λ rs. GoOn (scope_of c.args.semantics.now.cons c.args.vars.now (g.D.Domain.variables c.args.d.now)) (seen_matching old c.args.matching.now) (λ i. times i c.args.pattern.now) (λ v w. Any (ReadsRow (old c.args.node.now) c.args.pattern.now v w) rs) (seen_matchings (g.D.Domain.look c.loop-row.d) c.loop-row.matchings))
    (take_all c.loop-row.row-index c.args.rows.now (omega arith)) c.loop-row.invariant.rows
