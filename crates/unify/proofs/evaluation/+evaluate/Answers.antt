use Rattle.std.proofs.Common.{rules, ap, sym, subst, ◌∙◌, map, IsSome}
use Rattle.data_value.proofs.Grown.{extends-both}
use Rattle.sort_term.specs.declared.term.Term.TheVariants.{Plain}
use Rattle.sort_term.specs.declared.rule.RuleExpr.{the_lemmas}
use Rattle.sort_term.specs.Sorted.{expr_sort_where}
use Rattle.unify.specs.Binds.{bound_sort, seen_binds}
use Rattle.unify.proofs.Evaluated.{var_bound, lit_value, op_sorted, con_sorted, var_gives, lit_gives, con_gives, args_nodes, args_valid, args_fit, op_gives, binds_stay, valid_stay, more_give}
use Rattle.unify.proofs.evaluation.+evaluate.Goals as goal

pub evaluate-copy_bound-requires-clause-bound : goal.evaluate-copy_bound-requires-clause-bound
evaluate-copy_bound-requires-clause-bound g t c = var_bound _ _ _ _ c.in-Var.is c.requires.sorted

pub evaluate-constant-requires : goal.evaluate-constant-requires
evaluate-constant-requires g t c = lit_value _ _ _ _ c.in-Lit.is c.requires.sorted

pub evaluate-evaluate_all-requires : goal.evaluate-evaluate_all-requires
evaluate-evaluate_all-requires g t c κs within = (
  search (rules, the_lemmas),
  (within.0, (within.1.0, (within.1.1, (c.requires.valid, op_sorted _ _ _ _ _ _ c.in-Op.is c.as_slice.ensures c.requires.sorted)))),
)

pub evaluate-evaluate_all-requires-in-Con : goal.evaluate-evaluate_all-requires-in-Con
evaluate-evaluate_all-requires-in-Con g t c κs within = (
  search (rules, the_lemmas),
  (within.0, (within.1.0, (within.1.1, (c.requires.valid, con_sorted _ _ _ _ _ _ c.in-Con.is c.as_slice-in-Con.ensures c.requires.sorted)))),
)

pub evaluate-plain_nodes-requires : goal.evaluate-plain_nodes-requires
evaluate-plain_nodes-requires g t c =
    args_nodes _ _ _ _ _ _ _ _ c.in-Op.is c.as_slice.ensures c.in_ok-terms-in-Op.ensures.values c.requires.sorted

pub evaluate-apply-requires-clause-valid : goal.evaluate-apply-requires-clause-valid
evaluate-apply-requires-clause-valid g t c =
    args_valid _ _ _ _ _ _ _ _ c.in-Op.is c.as_slice.ensures c.in_ok-terms-in-Op.ensures.values c.requires.sorted _ (c.in_ok-nodes-in-Op.ensures ∙ ap (map Plain) (sym c.as_slice-in-Op.ensures))

pub evaluate-apply-requires-clause-sorted : goal.evaluate-apply-requires-clause-sorted
evaluate-apply-requires-clause-sorted g t c =
    args_fit _ _ _ _ _ _ _ _ c.in-Op.is c.as_slice.ensures c.in_ok-terms-in-Op.ensures.values c.requires.sorted _ (c.in_ok-nodes-in-Op.ensures ∙ ap (map Plain) (sym c.as_slice-in-Op.ensures))

pub evaluate-returns-in_ok-copy_bound-in-Var-clause-value : goal.evaluate-returns-in_ok-copy_bound-in-Var-clause-value
evaluate-returns-in_ok-copy_bound-in-Var-clause-value g t c = var_gives _ _ _ _ _ c.in-Var.is c.in_ok-copy_bound-in-Var.ensures

pub evaluate-returns-in_ok-constant-in-Lit-clause-value : goal.evaluate-returns-in_ok-constant-in-Lit-clause-value
evaluate-returns-in_ok-constant-in-Lit-clause-value g t c = lit_gives _ _ _ _ _ _ c.in-Lit.is c.requires.sorted c.in_ok-constant-in-Lit.ensures.made

pub evaluate-returns-in_ok-apply-in-Op-clause-value : goal.evaluate-returns-in_ok-apply-in-Op-clause-value
evaluate-returns-in_ok-apply-in-Op-clause-value g t c =
    op_gives _ _ _ _ _ _ _ _ c.in-Op.is c.as_slice.ensures c.in_ok-terms-in-Op.ensures.values c.requires.sorted _ (c.in_ok-nodes-in-Op.ensures ∙ ap (map Plain) (sym c.as_slice-in-Op.ensures)) _ _ c.in_ok-apply-in-Op.ensures.made

pub evaluate-returns-in_ok-terms-in-Con-clause-value : goal.evaluate-returns-in_ok-terms-in-Con-clause-value
evaluate-returns-in_ok-terms-in-Con-clause-value g t c = con_gives _ _ _ _ _ _ _ _ _ c.in-Con.is c.as_slice-in-Con.ensures c.from_vec.ensures c.in_ok-terms-in-Con.ensures.values

pub evaluate_all-evaluate-requires : goal.evaluate_all-evaluate-requires
evaluate_all-evaluate-requires g t c κs within =
    let f = g.D.Domain.look c.args.d.now in
    let now = g.D.Domain.look c.loop-expr.d in
    let cons = c.args.semantics.now.cons in
    let same = binds_stay f now c.loop-expr.invariant.extends c.args.binds.now c.requires.valid in (
      search (rules, the_lemmas),
      (
        within.0,
        (
          within.1.0,
          (
            within.1.1,
            (
              valid_stay f now c.loop-expr.invariant.extends c.args.binds.now c.requires.valid,
              subst (λ bs. IsSome (expr_sort_where cons (bound_sort cons bs) c.expr-item.result)) (sym same)
                  (subst (λ e. IsSome (expr_sort_where cons (bound_sort cons (seen_binds f c.args.binds.now)) e)) (sym c.expr-item.is) (c.requires.sorted c.loop-expr.expr-index c.expr-item.result c.loop-expr-test.true)),
            ),
          ),
        ),
      ),
    )

pub evaluate_all-loop-expr-preserved : goal.evaluate_all-loop-expr-preserved
evaluate_all-loop-expr-preserved g t c = record {
  extends = extends-both _ _ _ c.loop-expr.invariant.extends c.in_ok-evaluate.ensures.extends;
  same_variables = c.in_ok-evaluate.ensures.same_variables ∙ c.loop-expr.invariant.same_variables;
  values = more_give _ _ _ _ _ _ _ _ _ _ _ c.requires.valid c.requires.sorted c.loop-expr.invariant.extends c.in_ok-evaluate.ensures.extends c.loop-expr-test.true c.expr-item.is c.in_ok-push.ensures.items c.loop-expr.invariant.values c.in_ok-evaluate.ensures.value;
}
