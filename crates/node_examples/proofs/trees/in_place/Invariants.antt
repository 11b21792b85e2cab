use Rattle.std.proofs.Common.{◌≡◌, map, take, true}
use Rattle.std.specs.List.{list_all}
use Rattle.expr_tree.specs.Trees.{expr_sort, judged}
use Rattle.node_examples.proofs.trees.in_place.Given as goal

-- the trees so far have the sorts so far, and are well sorted
abbrev pub invariant-loop-place : goal.invariant-loop-place
invariant-loop-place l = (map expr_sort l.by ≡ take l.place l.sorts) × (list_all (λ p. p.0) (map (judged l.trees.variables.items) l.by) ≡ true)
