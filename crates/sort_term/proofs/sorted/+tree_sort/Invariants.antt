use Rattle.std.proofs.Common.{◌≡◌, length, map, drop}
use Rattle.sort_term.specs.Sorted.{have_sorts, tree_sort}
use Rattle.sort_term.proofs.sorted.+tree_sort.Given as goal

abbrev pub invariant-trees_have-loop-i : goal.invariant-trees_have-loop-i
invariant-trees_have-loop-i l = record {
  long : length l.parts ≡ length l.sorts;
  rest : have_sorts (map (tree_sort l.cons) l.parts) l.sorts ≡ have_sorts (map (tree_sort l.cons) (drop l.i l.parts)) (drop l.i l.sorts);
}
