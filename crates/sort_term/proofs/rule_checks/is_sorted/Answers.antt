use Rattle.std.proofs.Common.{◌≡◌, true, false, sym, ◌∙◌, subst}
use Rattle.sort_term.specs.declared.term.Sort.TheVariants.{Own}
use Rattle.sort_term.specs.Sorted.{IsPatternOf, IsExprOf}
use Rattle.sort_term.proofs.rule_checks.is_sorted.Goals as goal

pub returns-else-has_ends : goal.returns-else-has_ends
returns-else-has_ends c = (
  λ h. absurd (let e : false ≡ true = sym c.if-has_ends.false ∙ h in cc),
  λ s. c.has_ends.ensures.1 (
    subst (λ vars. IsPatternOf c.args.cons.now vars (Own c.args.config) c.args.rule.now.head) (sym c.as_slice-vars.ensures) s.head,
    subst (λ vars. IsExprOf c.args.cons.now vars (Own c.args.config) c.args.rule.now.result) (sym c.as_slice-vars.ensures) s.result,
  ),
)
