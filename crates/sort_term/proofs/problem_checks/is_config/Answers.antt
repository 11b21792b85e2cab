use Rattle.std.proofs.Common.{◌↔◌, IsTrue, subst, ◌∙◌}
use Rattle.sort_term.specs.declared.term.Sort.TheVariants.{Own}
use Rattle.sort_term.specs.Sorted.{IsExprOf}
use Rattle.sort_term.proofs.problem_checks.is_config.Goals as goal

pub returns : goal.returns
returns g c =
    subst (λ sort. IsTrue c.is_expr_of.result ↔ IsExprOf c.args.semantics.now.cons c.args.vars.now (Own sort) c.args.expr.now) c.config.ensures.value
    (subst (λ cons. IsTrue c.is_expr_of.result ↔ IsExprOf cons c.args.vars.now (Own c.config.result) c.args.expr.now) (c.as_slice.ensures ∙ c.cons.ensures.value) c.is_expr_of.ensures)
