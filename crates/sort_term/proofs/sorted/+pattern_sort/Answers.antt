use Rattle.std.proofs.Common.{arith, ◌<◌, length, sym, ◌∙◌}
use Rattle.sort_term.specs.Sorted.{pattern_sort}
use Rattle.sort_term.proofs.Having.{have-other_length, have-stops, have-goes}
use Rattle.sort_term.proofs.sorted.+pattern_sort.Goals as goal

pub patterns_have-returns-then-parts-sorts : goal.patterns_have-returns-then-parts-sorts
patterns_have-returns-then-parts-sorts t c = sym (have-other_length (pattern_sort c.args.cons.now c.args.vars.now) c.args.parts.now c.args.sorts.now c.if-parts-sorts.true)

pub patterns_have-returns-then-not-has_this_sort : goal.patterns_have-returns-then-not-has_this_sort
patterns_have-returns-then-not-has_this_sort t c =
    let l : c.loop-i.i < length c.args.sorts.now = omega (arith, c.loop-i.invariant.long) in
    sym (c.loop-i.invariant.rest ∙ have-stops _ _ _ _ _ _ _ _ c.loop-i-test.true l c.index-parts-i.is c.pattern_sort.ensures c.has_this_sort.ensures c.if-not-has_this_sort.true)

pub patterns_have-loop-i-preserved : goal.patterns_have-loop-i-preserved
patterns_have-loop-i-preserved t c =
    let l : c.loop-i.i < length c.args.sorts.now = omega (arith, c.loop-i.invariant.long) in
    record {
      long = c.loop-i.invariant.long;
      rest = c.loop-i.invariant.rest ∙ have-goes _ _ _ _ _ _ _ _ c.loop-i-test.true l c.index-parts-i.is c.pattern_sort.ensures c.has_this_sort.ensures c.if-not-has_this_sort.false;
    }
