use Rattle.std.proofs.Common.{ap, ◌∙◌}
use Rattle.expr_tree.specs.Trees.{judged}
use Rattle.node_examples.proofs.trees.replaced.Goals as goal

-- the tree is well sorted over the sorts of what stands in the place of the variables, which are those of the variables
pub returns : goal.returns
returns c =
    let sorts = c.args.trees.now.variables.items in
    ap (λ p. p.0) (c.in_ok-substitute.ensures.sorted sorts c.in_ok-by.ensures.valid) ∙ ap (λ ss. (judged ss c.args.tree.now).0) c.in_ok-by.ensures.sorts ∙ c.requires.tree
