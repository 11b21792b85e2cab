use Rattle.std.proofs.Common.{rules, arith, ◌<◌, IsSome, length, ap, subst, sym, ◌∙◌}
use Rattle.data_value.proofs.Grown.{extends-both}
use Rattle.sort_term.specs.declared.rule.RuleExpr.{the_lemmas}
use Rattle.sort_term.specs.Sorted.{expr_sort_where}
use Rattle.sort_term.specs.NodeTerms.{seen_term, seen_sort}
use Rattle.unify.specs.Binds.{seen_binds, bound_sort}
use Rattle.unify.proofs.Evaluated.{binds_stay}
use Rattle.pair_match.specs.Bound.{AreNodes}
use Rattle.pair_match.specs.Clash.{ClashSomewhere}
use Rattle.pair_match.proofs.Arguments.{args_there, args_sorted, item_has, sorted_at, clash_here}
use Rattle.pair_match.proofs.Comparisons.{cons_same_here, args_clear, con_compared, compared_more, config_stays}
use Rattle.pair_match.proofs.Nodes.{nodes_valid, leaf_data}
use Rattle.pair_match.proofs.comparing.+compare.Goals as goal

pub compare-compare_all-requires : goal.compare-compare_all-requires
compare-compare_all-requires g t c κs within =
    let look = g.D.Domain.look c.args.d.now in
    let cons = c.args.semantics.now.cons in
    let sort_at = bound_sort cons (seen_binds look c.args.binds.now) in
    let one = cons_same_here look _ _ _ _ _ _ c.in-Con.is c.in-Con-config.is c.requires.clear in (
      search (rules, the_lemmas),
      (
        within.0,
        (
          within.1.0,
          (
            within.1.1,
            (
              c.requires.binds,
              (
                args_there cons sort_at _ _ _ _ c.in-Con.is c.as_slice.ensures c.requires.term,
                (
                  args_sorted cons sort_at look _ _ _ _ _ _ _ _ c.in-Con.is c.as_slice.ensures c.in-Con-config.is c.as_slice-in-Con-config.ensures one c.requires.term c.requires.config,
                  (args_clear look _ _ _ _ _ _ _ _ c.in-Con.is c.as_slice.ensures c.in-Con-config.is c.as_slice-in-Con-config.ensures c.requires.clear, c.requires.sameness),
                ),
              ),
            ),
          ),
        ),
      ),
    )

pub compare-compare_node-requires-clause-term : goal.compare-compare_node-requires-clause-term
compare-compare_node-requires-clause-term g t c = leaf_data c.args.semantics.now.cons _ c.requires.binds c.args.term.now c.in_default.not-Con c.requires.term

pub compare-returns-in_ok-compare_all-in-Con-config-clause-compared : goal.compare-returns-in_ok-compare_all-in-Con-config-clause-compared
compare-returns-in_ok-compare_all-in-Con-config-clause-compared g t c =
    let look = g.D.Domain.look c.args.d.now in
    let one = cons_same_here look _ _ _ _ _ _ c.in-Con.is c.in-Con-config.is c.requires.clear in
    con_compared look (g.D.Domain.variables c.args.d.now) (seen_binds look c.args.binds.now) _ _ _ _ _ _ _ _ c.in-Con.is c.as_slice.ensures c.in-Con-config.is c.as_slice-in-Con-config.ensures one _ _ c.in_ok-compare_all-in-Con-config.ensures.compared

pub compare_all-compare-requires : goal.compare_all-compare-requires
compare_all-compare-requires g t c κs within =
    let look = g.D.Domain.look in
    let first = look c.args.d.now in
    let now = look c.loop-i.d in
    let cons = c.args.semantics.now.cons in
    let bs = seen_binds first c.args.binds.now in
    let long = c.loop-i.invariant.long in
    let inside : c.loop-i.i < length c.args.configs.now = omega (arith, long, c.loop-i-test.true) in
    let e = c.index-terms-i.result in
    let u = c.index-configs-i.result in
    let same = binds_stay first now c.loop-i.invariant.extends c.args.binds.now (nodes_valid bs c.requires.binds) in
    let sorted = item_has (λ x. IsSome (expr_sort_where cons (bound_sort cons bs) x)) c.args.terms.now c.loop-i.i e c.loop-i-test.true c.index-terms-i.is c.requires.terms in
    let sorts = sorted_at (seen_sort cons) (expr_sort_where cons (bound_sort cons bs)) (seen_term first) c.args.configs.now c.args.terms.now c.loop-i.i u e c.requires.configs inside c.index-configs-i.is c.loop-i-test.true c.index-terms-i.is in
    let stays = config_stays cons first now c.loop-i.invariant.extends u _ sorted sorts in (
      search (rules, the_lemmas),
      (
        within.0,
        (
          within.1.0,
          (
            within.1.1,
            (
              subst AreNodes (sym same) c.requires.binds,
              (
                subst (λ xs. IsSome (expr_sort_where cons (bound_sort cons xs) e)) (sym same) sorted,
                (
                  ap (seen_sort cons) stays ∙ sorts ∙ ap (λ xs. expr_sort_where cons (bound_sort cons xs) e) (sym same),
                  (
                    λ k. c.requires.clear (clash_here (seen_term first) c.args.terms.now c.args.configs.now c.loop-i.i e u c.loop-i-test.true c.index-terms-i.is inside c.index-configs-i.is (subst (ClashSomewhere e) stays k)),
                    c.loop-i.invariant.compared.lawful,
                  ),
                ),
              ),
            ),
          ),
        ),
      ),
    )

pub compare_all-loop-i-preserved : goal.compare_all-loop-i-preserved
compare_all-loop-i-preserved g t c =
    let look = g.D.Domain.look in
    let first = look c.args.d.now in
    let now = look c.loop-i.d in
    let cons = c.args.semantics.now.cons in
    let bs = seen_binds first c.args.binds.now in
    let long = c.loop-i.invariant.long in
    let inside : c.loop-i.i < length c.args.configs.now = omega (arith, long, c.loop-i-test.true) in
    let e = c.index-terms-i.result in
    let u = c.index-configs-i.result in
    let same = binds_stay first now c.loop-i.invariant.extends c.args.binds.now (nodes_valid bs c.requires.binds) in
    let sorted = item_has (λ x. IsSome (expr_sort_where cons (bound_sort cons bs) x)) c.args.terms.now c.loop-i.i e c.loop-i-test.true c.index-terms-i.is c.requires.terms in
    let sorts = sorted_at (seen_sort cons) (expr_sort_where cons (bound_sort cons bs)) (seen_term first) c.args.configs.now c.args.terms.now c.loop-i.i u e c.requires.configs inside c.index-configs-i.is c.loop-i-test.true c.index-terms-i.is in
    let stays = config_stays cons first now c.loop-i.invariant.extends u _ sorted sorts in
    record {
      long = long;
      extends = extends-both _ _ _ c.loop-i.invariant.extends c.in_ok-compare.ensures.extends;
      same_variables = c.in_ok-compare.ensures.same_variables ∙ c.loop-i.invariant.same_variables;
      compared = compared_more first (g.D.Domain.variables c.args.d.now) (g.D.Domain.variables c.loop-i.d) c.loop-i.invariant.same_variables bs (seen_binds now c.args.binds.now) same c.args.terms.now c.args.configs.now c.loop-i.i e u long c.loop-i-test.true c.index-terms-i.is c.index-configs-i.is (seen_term now u) stays _ _ _ c.loop-i.invariant.compared c.in_ok-compare.ensures.compared;
    }
