use Rattle.std.proofs.Common.{arith, ◌≡◌, ◌<◌, length, map, take, Some, None, sym, ap, ◌∙◌}
use Rattle.std.proofs.lemmas.List.{take_more_set, take_all}
use Rattle.std.proofs.Math.ListN.{length-set}
use Rattle.sort_term.specs.Sorted.{all_there, data_part, fitted_sort, expr_sort}
use Rattle.sort_term.proofs.Applied.{applied_sort-many, all_there-missing, all_there-more}
use Rattle.sort_term.proofs.Having.{have-other_length, have-stops, have-goes}
use Rattle.sort_term.proofs.sorted.+expr_sort.Goals as goal

pub exprs_have-returns-then-parts-sorts : goal.exprs_have-returns-then-parts-sorts
exprs_have-returns-then-parts-sorts t c = sym (have-other_length (expr_sort c.args.cons.now c.args.vars.now) c.args.parts.now c.args.sorts.now c.if-parts-sorts.true)

pub exprs_have-returns-then-not-has_this_sort : goal.exprs_have-returns-then-not-has_this_sort
exprs_have-returns-then-not-has_this_sort t c =
    let l : c.loop-i.i < length c.args.sorts.now = omega (arith, c.loop-i.invariant.long) in
    sym (c.loop-i.invariant.rest ∙ have-stops _ _ _ _ _ _ _ _ c.loop-i-test.true l c.index-parts-i.is c.expr_sort.ensures c.has_this_sort.ensures c.if-not-has_this_sort.true)

pub exprs_have-loop-i-preserved : goal.exprs_have-loop-i-preserved
exprs_have-loop-i-preserved t c =
    let l : c.loop-i.i < length c.args.sorts.now = omega (arith, c.loop-i.invariant.long) in
    record {
      long = c.loop-i.invariant.long;
      rest = c.loop-i.invariant.rest ∙ have-goes _ _ _ _ _ _ _ _ c.loop-i-test.true l c.index-parts-i.is c.expr_sort.ensures c.has_this_sort.ensures c.if-not-has_this_sort.false;
    }

pub applied_sort-returns-then-parts-gt3 : goal.applied_sort-returns-then-parts-gt3
applied_sort-returns-then-parts-gt3 t c =
    sym (applied_sort-many c.args.op (expr_sort c.args.cons.now c.args.vars.now) c.args.parts.now c.if-parts-gt3.true)

pub applied_sort-returns-in-None : goal.applied_sort-returns-in-None
applied_sort-returns-in-None t c =
    let h : data_part (expr_sort c.args.cons.now c.args.vars.now c.index-parts-i.result) ≡ None = ap data_part (sym c.expr_sort.ensures) ∙ sym c.data_part.ensures ∙ c.in-None.is in
    sym (ap (fitted_sort c.args.op) (all_there-missing data_part (expr_sort c.args.cons.now c.args.vars.now) c.args.parts.now c.loop-i.i c.index-parts-i.result c.loop-i-test.true c.index-parts-i.is h))

pub applied_sort-loop-i-preserved : goal.applied_sort-loop-i-preserved
applied_sort-loop-i-preserved t c =
    let h : data_part (expr_sort c.args.cons.now c.args.vars.now c.index-parts-i.result) ≡ Some c.in-Some.a = ap data_part (sym c.expr_sort.ensures) ∙ sym c.data_part.ensures ∙ c.in-Some.is in
    let inside : c.loop-i.i < length c.loop-i.args = omega (arith, c.loop-i.invariant.few, c.loop-i.invariant.long) in
    record {
      few = c.loop-i.invariant.few;
      long = length-set c.loop-i.args c.loop-i.i c.in-Some.a ∙ c.loop-i.invariant.long;
      there = all_there-more data_part (expr_sort c.args.cons.now c.args.vars.now) c.args.parts.now (take c.loop-i.i c.loop-i.args) c.loop-i.i c.index-parts-i.result c.in-Some.a c.loop-i-test.true c.index-parts-i.is h c.loop-i.invariant.there
          ∙ ap Some (sym (take_more_set c.loop-i.args c.loop-i.i c.in-Some.a inside));
    }

pub applied_sort-returns : goal.applied_sort-returns
applied_sort-returns t c =
    let f = expr_sort c.args.cons.now c.args.vars.now in
    let e : c.loop-i.i ≡ length c.args.parts.now = omega (arith, c.loop-i-test.false, c.loop-i.auto.i-end) in
    let all : take c.loop-i.i c.args.parts.now ≡ c.args.parts.now = take_all c.loop-i.i c.args.parts.now c.loop-i-test.false in
    let there : all_there (map data_part (map f c.args.parts.now)) ≡ Some (take (length c.args.parts.now) c.loop-i.args) =
    ap (λ ps. all_there (map data_part (map f ps))) (sym all) ∙ c.loop-i.invariant.there ∙ ap (λ n. Some (take n c.loop-i.args)) e in
    c.sort_by_op.ensures ∙ ap (fitted_sort c.args.op) (sym there)
