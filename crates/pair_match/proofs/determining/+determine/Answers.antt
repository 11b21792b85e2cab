use Rattle.std.proofs.Common.{rules, arith, ◌<◌, IsSome, length, ap, sym, ◌∙◌}
use Rattle.sort_term.specs.declared.rule.RuleExpr.{the_lemmas}
use Rattle.sort_term.specs.Sorted.{var_sort, expr_sort}
use Rattle.sort_term.specs.NodeTerms.{seen_term, seen_sort}
use Rattle.sort_term.proofs.Parts.{some_of}
use Rattle.pair_match.proofs.Arguments.{same_con, args_there, args_sorted, item_has, sorted_at, clash_here}
use Rattle.pair_match.proofs.Determiners.{var_within, determines_lit, determines_op, determined_con, cons_clash, determined_more}
use Rattle.pair_match.proofs.determining.+determine.Goals as goal

pub determine-bind-requires-clause-within : goal.determine-bind-requires-clause-within
determine-bind-requires-clause-within g t c = var_within c.args.semantics.now.cons c.args.vars.now _ _ c.in-Var.is c.requires.term

pub determine-determine_all-requires : goal.determine-determine_all-requires
determine-determine_all-requires g t c κs within =
    let cons = c.args.semantics.now.cons in
    let sort_at = var_sort c.args.vars.now in (
      search (rules, the_lemmas),
      (
        within.0,
        (
          within.1.0,
          (
            within.1.1,
            (
              args_there cons sort_at _ _ _ _ c.in-Con.is c.as_slice.ensures c.requires.term,
              (
                args_sorted cons sort_at (g.D.Domain.look c.args.d.now) _ _ _ _ _ _ _ _ c.in-Con.is c.as_slice.ensures c.in-Con-config.is c.as_slice-then-con-found.ensures (same_con _ _ c.if-con-found.true) c.requires.term c.requires.config,
                c.requires.binds,
              ),
            ),
          ),
        ),
      ),
    )

pub determine-returns-in-Lit : goal.determine-returns-in-Lit
determine-returns-in-Lit g t c = rw c.in-Lit.is (determines_lit c.args.semantics.now.cons c.args.vars.now _ _ _ c.requires.binds)

pub determine-returns-in-Op : goal.determine-returns-in-Op
determine-returns-in-Op g t c =
    let s = some_of (expr_sort c.args.semantics.now.cons c.args.vars.now c.args.term.now) c.requires.term in
    rw c.in-Op.is (determines_op c.args.semantics.now.cons c.args.vars.now _ _ _ s.0 _ (sym (ap (expr_sort c.args.semantics.now.cons c.args.vars.now) c.in-Op.is) ∙ s.1) c.requires.binds)

pub determine-returns-in_ok-determine_all-in-Con-config : goal.determine-returns-in_ok-determine_all-in-Con-config
determine-returns-in_ok-determine_all-in-Con-config g t c =
    determined_con c.args.semantics.now.cons c.args.vars.now (g.D.Domain.look c.args.d.now) _ _ _ _ _ _ _ _ c.in-Con.is c.as_slice.ensures c.in-Con-config.is c.as_slice-then-con-found.ensures (same_con _ _ c.if-con-found.true) _ _ _ c.in_ok-determine_all-in-Con-config.ensures

pub determine-returns-else-con-found : goal.determine-returns-else-con-found
determine-returns-else-con-found g t c = cons_clash (g.D.Domain.look c.args.d.now) _ _ _ _ _ _ c.in-Con.is c.in-Con-config.is c.if-con-found.false

pub determine_all-determine-requires : goal.determine_all-determine-requires
determine_all-determine-requires g t c κs within =
    let cons = c.args.semantics.now.cons in
    let vars = c.args.vars.now in
    let look = g.D.Domain.look c.args.d.now in
    let long = c.loop-i.invariant.long in
    let inside : c.loop-i.i < length c.args.configs.now = omega (arith, long, c.loop-i-test.true) in (
      search (rules, the_lemmas),
      (
        within.0,
        (
          within.1.0,
          (
            within.1.1,
            (
              item_has (λ e. IsSome (expr_sort cons vars e)) c.args.terms.now c.loop-i.i c.index-terms-i.result c.loop-i-test.true c.index-terms-i.is c.requires.terms,
              (
                sorted_at (seen_sort cons) (expr_sort cons vars) (seen_term look) c.args.configs.now c.args.terms.now c.loop-i.i _ _ c.requires.configs inside c.index-configs-i.is c.loop-i-test.true c.index-terms-i.is,
                c.loop-i.invariant.determined.lawful,
              ),
            ),
          ),
        ),
      ),
    )

pub determine_all-returns-then-not-branch : goal.determine_all-returns-then-not-branch
determine_all-returns-then-not-branch g t c =
    let look = g.D.Domain.look c.args.d.now in
    let long = c.loop-i.invariant.long in
    let inside : c.loop-i.i < length c.args.configs.now = omega (arith, long, c.loop-i-test.true) in
    clash_here (seen_term look) c.args.terms.now c.args.configs.now c.loop-i.i _ _ c.loop-i-test.true c.index-terms-i.is inside c.index-configs-i.is (rw c.if-not-branch.true at c.in_ok-determine.ensures)

pub determine_all-loop-i-preserved : goal.determine_all-loop-i-preserved
determine_all-loop-i-preserved g t c =
    let look = g.D.Domain.look c.args.d.now in
    let long = c.loop-i.invariant.long in
    record {
      long = long;
      determined = determined_more c.args.semantics.now.cons c.args.vars.now look _ _ _ c.args.terms.now c.args.configs.now c.loop-i.i _ _ long c.loop-i-test.true c.index-terms-i.is c.index-configs-i.is c.loop-i.invariant.determined (rw c.if-not-branch.false at c.in_ok-determine.ensures);
    }
