use Rattle.std.proofs.Common.{◌≡◌, ◌≤◌, length, map, drop, take, Some}
use Rattle.sort_term.specs.Sorted.{have_sorts, all_there, data_part, expr_sort}
use Rattle.sort_term.proofs.sorted.+expr_sort.Given as goal

abbrev pub invariant-exprs_have-loop-i : goal.invariant-exprs_have-loop-i
invariant-exprs_have-loop-i l = record {
  long : length l.parts ≡ length l.sorts;
  rest : have_sorts (map (expr_sort l.cons l.vars) l.parts) l.sorts ≡ have_sorts (map (expr_sort l.cons l.vars) (drop l.i l.parts)) (drop l.i l.sorts);
}

abbrev pub invariant-applied_sort-loop-i : goal.invariant-applied_sort-loop-i
invariant-applied_sort-loop-i l = record {
  few : length l.parts ≤ 3;
  long : length l.args ≡ 3;
  there : all_there (map data_part (map (expr_sort l.cons l.vars) (take l.i l.parts))) ≡ Some (take l.i l.args);
}
