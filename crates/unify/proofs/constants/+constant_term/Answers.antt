use Rattle.std.proofs.Common.{rules, IsSome, subst, sym, ◌∙◌}
use Rattle.std.proofs.lemmas.List.Elements.{All-get_or}
use Rattle.data_value.proofs.Grown.{extends-both}
use Rattle.sort_term.specs.declared.term.Term.{the_lemmas}
use Rattle.sort_term.specs.Sorted.{tree_sort}
use Rattle.unify.proofs.Lifted.{leaf_value, leaf_term, con_term, parts_sorted, more_terms}
use Rattle.unify.proofs.constants.+constant_term.Goals as goal

pub constant_term-constant_terms-requires : goal.constant_term-constant_terms-requires
constant_term-constant_terms-requires g t c κs within = (
  search (rules, the_lemmas),
  (within.0, (within.1.0, (within.1.1, parts_sorted c.args.semantics.now.cons c.args.tree.now c.in-Con.con c.in-Con.trees _ c.in-Con.is c.as_slice.ensures c.requires))),
)

pub constant_term-constant-requires : goal.constant_term-constant-requires
constant_term-constant-requires g t c = leaf_value c.args.semantics.now.cons c.args.tree.now c.in-Plain.value c.in-Plain.is c.requires

pub constant_term-returns-in_ok-constant-in-Plain-clause-term : goal.constant_term-returns-in_ok-constant-in-Plain-clause-term
constant_term-returns-in_ok-constant-in-Plain-clause-term g t c =
    leaf_term c.args.semantics.now.cons (g.D.Domain.look c.constant.new.self) c.args.tree.now c.in-Plain.value _ c.in-Plain.is c.requires c.in_ok-constant-in-Plain.ensures.made

pub constant_term-returns-in_ok-terms-in-Con-clause-term : goal.constant_term-returns-in_ok-terms-in-Con-clause-term
constant_term-returns-in_ok-terms-in-Con-clause-term g t c =
    con_term c.args.semantics.now.cons (g.D.Domain.look c.constant_terms.new.d) c.args.tree.now c.in-Con.con c.in-Con.trees _ _ c.in-Con.is c.as_slice.ensures c.in_ok-terms-in-Con.ensures.terms

pub constant_terms-constant_term-requires : goal.constant_terms-constant_term-requires
constant_terms-constant_term-requires g t c κs within = (
  search (rules, the_lemmas),
  (within.0, (within.1.0, (within.1.1, subst (λ u. IsSome (tree_sort c.args.semantics.now.cons u)) (sym c.tree-item.is) (All-get_or (λ u. IsSome (tree_sort c.args.semantics.now.cons u)) c.args.trees.now c.loop-tree.tree-index _ c.loop-tree-test.true c.requires)))),
)

pub constant_terms-loop-tree-preserved : goal.constant_terms-loop-tree-preserved
constant_terms-loop-tree-preserved g t c = record {
  extends = extends-both _ _ _ c.loop-tree.invariant.extends c.in_ok-term.ensures.extends;
  same_variables = c.in_ok-term.ensures.same_variables ∙ c.loop-tree.invariant.same_variables;
  terms = more_terms c.args.semantics.now.cons (g.D.Domain.look c.loop-tree.d) (g.D.Domain.look c.constant_term.new.d) c.in_ok-term.ensures.extends c.args.trees.now c.loop-tree.tree-index c.tree-item.result _ _ _ c.requires c.loop-tree-test.true c.tree-item.is c.in_ok-push.ensures.ok
      c.loop-tree.invariant.terms c.in_ok-term.ensures.term;
}
