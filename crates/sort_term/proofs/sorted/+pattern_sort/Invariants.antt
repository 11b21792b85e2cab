use Rattle.std.proofs.Common.{◌≡◌, length, map, drop}
use Rattle.sort_term.specs.Sorted.{have_sorts, pattern_sort}
use Rattle.sort_term.proofs.sorted.+pattern_sort.Given as goal

abbrev pub invariant-patterns_have-loop-i : goal.invariant-patterns_have-loop-i
invariant-patterns_have-loop-i l = record {
  long : length l.parts ≡ length l.sorts;
  rest : have_sorts (map (pattern_sort l.cons l.vars) l.parts) l.sorts ≡ have_sorts (map (pattern_sort l.cons l.vars) (drop l.i l.parts)) (drop l.i l.sorts);
}
