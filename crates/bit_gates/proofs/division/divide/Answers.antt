use Rattle.std.proofs.Common.{◌≤◌, ◌∙◌, ap, arith}
use Rattle.refute_check.specs.Truth.{clause_below}
use Rattle.bit_gates.proofs.RangeLemmas.{clause_below_more}
use Rattle.bit_gates.proofs.DivisionLemmas.{divide_extends, divide_means}
use Rattle.bit_gates.proofs.division.divide.Goals as goal

pub divides-requires-clause-x : goal.divides-requires-clause-x
divides-requires-clause-x c =
    let l1 = c.in_ok-quotient.ensures.grows in
    let l2 = c.in_ok-remainder.ensures.grows in
    let l : c.args.b.now.clauses.vars ≤ c.fresh_word-2.new.b.clauses.vars = omega arith in
    clause_below_more _ _ _ l c.requires.x

pub divides-requires-clause-y : goal.divides-requires-clause-y
divides-requires-clause-y c =
    let l1 = c.in_ok-quotient.ensures.grows in
    let l2 = c.in_ok-remainder.ensures.grows in
    let l : c.args.b.now.clauses.vars ≤ c.fresh_word-2.new.b.clauses.vars = omega arith in
    clause_below_more _ _ _ l c.requires.y

pub divides-requires-clause-q : goal.divides-requires-clause-q
divides-requires-clause-q c =
    ap (clause_below c.fresh_word-2.new.b.clauses.vars) c.as_slice.ensures ∙ clause_below_more _ _ _ c.in_ok-remainder.ensures.grows c.in_ok-quotient.ensures.in_range

pub returns-clause-extends : goal.returns-clause-extends
returns-clause-extends c =
    divide_extends c.args.b.now c.fresh_word.new.b c.fresh_word-2.new.b c.divides.new.b c.demand.new.self c.args.x.now c.args.y.now c.in_ok-quotient.quotient c.in_ok-remainder.remainder c.as_slice.result.now c.as_slice-2.result.now c.in_ok-right.right
    c.in_ok-quotient.ensures c.in_ok-remainder.ensures c.in_ok-right.ensures.extends c.as_slice.ensures c.as_slice-2.ensures c.in_ok-right.ensures.made c.demand.ensures.vars c.in_ok-demand.ensures.added c.requires.x c.requires.y c.requires.same

pub returns-clause-made : goal.returns-clause-made
returns-clause-made c =
    divide_means c.args.b.now c.fresh_word.new.b c.fresh_word-2.new.b c.divides.new.b c.demand.new.self c.args.x.now c.args.y.now c.in_ok-quotient.quotient c.in_ok-remainder.remainder c.as_slice.result.now c.as_slice-2.result.now c.in_ok-right.right
    c.in_ok-quotient.ensures c.in_ok-remainder.ensures c.in_ok-right.ensures.extends c.as_slice.ensures c.as_slice-2.ensures c.in_ok-right.ensures.made c.demand.ensures.vars c.in_ok-demand.ensures.added
