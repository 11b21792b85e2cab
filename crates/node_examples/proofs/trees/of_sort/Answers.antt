use Rattle.std.proofs.Common.{sym, ap, ◌∙◌}
use Rattle.data_value.proofs.TestLemmas.{sorts_agree}
use Rattle.expr_tree.proofs.InPlace.{judged_sort}
use Rattle.node_examples.proofs.trees.of_sort.Goals as goal

pub returns-clause-sort : goal.returns-clause-sort
returns-clause-sort c =
    let sorts = c.args.trees.now.variables.items in
    sym (judged_sort sorts c.in_ok-copy.field-0) ∙ ap (λ s. s.sort) c.in_ok-copy.ensures ∙ sym c.sort.ensures ∙ sorts_agree c.sort.result c.args.sort (sym c.same_sort.ensures ∙ c.if-not-same_sort.false)
