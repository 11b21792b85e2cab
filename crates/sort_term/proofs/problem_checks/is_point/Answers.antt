use Rattle.std.proofs.Common.{◌≡◌, true, false, sym, ◌∙◌, subst}
use Rattle.sort_term.specs.declared.term.Sort.TheVariants.{Own}
use Rattle.sort_term.specs.Sorted.{IsExprOf}
use Rattle.sort_term.proofs.problem_checks.is_point.Goals as goal

pub returns-else-are_configs : goal.returns-else-are_configs
returns-else-are_configs c = (
  λ h. absurd (let e : false ≡ true = sym c.if-are_configs.false ∙ h in cc),
  λ p. c.are_configs.ensures.1 (
    subst (λ vars. IsExprOf c.args.left.now.cons vars (Own c.args.left.now.config) c.args.point.now.left) (sym c.as_slice-vars.ensures) p.left_term,
    subst (λ vars. IsExprOf c.args.right.now.cons vars (Own c.args.right.now.config) c.args.point.now.right) (sym c.as_slice-vars.ensures) p.right_term,
  ),
)
