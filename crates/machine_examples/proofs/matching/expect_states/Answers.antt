use Rattle.std.proofs.Common.{rules, ◌≡◌, ◌∙◌, IsTrue, ap, sym}
use Rattle.sort_term.specs.Sorted.{tree_sort, pattern_sort}
use Rattle.machine_examples.proofs.matching.expect_states.Goals as goal

pub returns-clause-tree : goal.returns-clause-tree
returns-clause-tree c =
    let cons = c.args.semantics.now.cons in
    let is_tree : IsTrue c.is_tree_of.result = search rules in
    let is_pattern : IsTrue c.is_pattern_of.result = search rules in
    let same : c.as_slice-cons.result.now ≡ cons = c.as_slice-cons.ensures ∙ c.cons.ensures.value in
    c.ground_terms_are_trees.ensures.sorts cons c.args.tree.now ∙ ap (λ k. tree_sort k c.args.tree.now) (sym same) ∙ (c.is_tree_of.ensures.0 is_tree).is ∙ sym (c.is_pattern_of.ensures.0 is_pattern).is
    ∙ ap (λ k. pattern_sort k c.as_slice-vars.result.now c.args.rule.now.head) same ∙ ap (λ w. pattern_sort cons w c.args.rule.now.head) c.as_slice-vars.ensures
