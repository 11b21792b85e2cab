use Rattle.std.proofs.Common.{Some, true, false, sym, ap, ◌∙◌, ◌≡◌}
use Rattle.sort_term.specs.declared.term.Sort.TheVariants.{Plain}
use Rattle.sort_term.proofs.LeafSorts.{leaf-value, leaf-none}
use Rattle.sort_term.proofs.sorted.sort_of_leaf.Goals as goal

pub returns-then-is_value : goal.returns-then-is_value
returns-then-is_value c =
    ap (λ s. Some (Plain s)) c.value_sort.ensures ∙ sym (leaf-value c.args.value.now (c.is_value.ensures.0 c.if-is_value.true))

pub returns-else-is_value : goal.returns-else-is_value
returns-else-is_value c =
    sym (leaf-none c.args.value.now (λ h. let e : false ≡ true = sym c.if-is_value.false ∙ c.is_value.ensures.1 h in cc))
