use Rattle.bit_gates.proofs.RangeLemmas.{clause_below_more}
use Rattle.bit_gates.proofs.ExtendLemmas.{extends_trans}
use Rattle.bit_gates.proofs.KnownLemmas.{on_ok_after, if_ok_with}
use Rattle.bit_gates.proofs.DivisionLemmas.{is_divided}
use Rattle.bit_gates.proofs.division.divides.Goals as goal

pub extend_zero-requires-clause-x : goal.extend_zero-requires-clause-x
extend_zero-requires-clause-x c = clause_below_more _ _ _ c.in_ok-total.ensures.extends.grows c.requires.x

pub rests-requires-clause-y : goal.rests-requires-clause-y
rests-requires-clause-y c = clause_below_more _ _ _ (extends_trans c.in_ok-total.ensures.extends c.in_ok-same.ensures.extends).grows c.requires.y

pub rests-requires-clause-q : goal.rests-requires-clause-q
rests-requires-clause-q c = clause_below_more _ _ _ (extends_trans c.in_ok-total.ensures.extends c.in_ok-same.ensures.extends).grows c.requires.q

pub rests-requires-clause-r : goal.rests-requires-clause-r
rests-requires-clause-r c = clause_below_more _ _ _ (extends_trans c.in_ok-total.ensures.extends c.in_ok-same.ensures.extends).grows c.requires.r

pub returns-clause-extends : goal.returns-clause-extends
returns-clause-extends c =
    on_ok_after c.and.result (λ g. extends_trans c.in_ok-total.ensures.extends (extends_trans c.in_ok-same.ensures.extends (extends_trans c.in_ok-rest.ensures.extends g))) c.and.ensures.extends

pub returns-clause-made : goal.returns-clause-made
returns-clause-made c = if_ok_with c.and.result _ _
    (λ g z h. is_divided c.args.b.now c.product_sum.new.b c.equal.new.b c.rests.new.b c.and.new.b c.args.x.now c.args.y.now c.args.q.now c.args.r.now c.in_ok-total.total c.as_slice.result.now c.in_ok-wide.wide c.as_slice-2.result.now
    c.in_ok-same.same c.in_ok-rest.rest z c.requires.same_y c.in_ok-total.ensures.made c.as_slice.ensures c.in_ok-wide.ensures c.as_slice-2.ensures
    c.in_ok-same.ensures.extends c.in_ok-same.ensures.made c.in_ok-rest.ensures.extends c.in_ok-rest.ensures.made g h)
    c.and.ensures.extends c.and.ensures.made
