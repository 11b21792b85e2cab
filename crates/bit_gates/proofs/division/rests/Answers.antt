use Rattle.bit_gates.proofs.RangeLemmas.{clause_below_more}
use Rattle.bit_gates.proofs.ExtendLemmas.{extends_trans}
use Rattle.bit_gates.proofs.KnownLemmas.{on_ok_after, if_ok_with}
use Rattle.bit_gates.proofs.LayoutLemmas.{has_copies}
use Rattle.bit_gates.proofs.DivisionLemmas.{is_rest_bit}
use Rattle.bit_gates.proofs.division.rests.Goals as goal

pub equal-requires-clause-x : goal.equal-requires-clause-x
equal-requires-clause-x c = clause_below_more _ _ _ c.in_ok-less.ensures.extends.grows c.requires.y

pub equal-requires-clause-y : goal.equal-requires-clause-y
equal-requires-clause-y c = has_copies c.below.new.b _ _ c.constant.result _ _ c.constant.ensures c.in_ok-zeros.ensures c.as_slice.ensures

pub equal-requires-2-clause-x : goal.equal-requires-2-clause-x
equal-requires-2-clause-x c = clause_below_more _ _ _ (extends_trans c.in_ok-less.ensures.extends c.in_ok-none.ensures.extends).grows c.requires.q

pub equal-requires-2-clause-y : goal.equal-requires-2-clause-y
equal-requires-2-clause-y c = has_copies c.equal.new.b _ _ c.constant-2.result _ _ c.constant-2.ensures c.in_ok-ones.ensures c.as_slice-2.ensures

pub returns-clause-extends : goal.returns-clause-extends
returns-clause-extends c =
    on_ok_after c.or.result
    (λ g. extends_trans c.in_ok-less.ensures.extends (extends_trans c.in_ok-none.ensures.extends (extends_trans c.in_ok-full.ensures.extends (extends_trans c.in_ok-known.ensures.extends g))))
    c.or.ensures.extends

pub returns-clause-made : goal.returns-clause-made
returns-clause-made c = if_ok_with c.or.result _ _
    (λ g z h. is_rest_bit c.args.b.now c.below.new.b c.equal.new.b c.equal-2.new.b c.and.new.b c.or.new.b c.args.y.now c.args.q.now c.args.r.now c.in_ok-zeros.zeros c.as_slice.result.now c.in_ok-ones.ones c.as_slice-2.result.now
    c.constant.result c.constant-2.result c.in_ok-less.less c.in_ok-none.none c.in_ok-full.full c.in_ok-known.known z
    c.constant.ensures c.in_ok-zeros.ensures c.as_slice.ensures c.constant-2.ensures c.in_ok-ones.ensures c.as_slice-2.ensures
    c.in_ok-less.ensures.extends c.in_ok-less.ensures.made c.in_ok-none.ensures.extends c.in_ok-none.ensures.made c.in_ok-full.ensures.extends c.in_ok-full.ensures.made
    c.in_ok-known.ensures.extends c.in_ok-known.ensures.made g h)
    c.or.ensures.extends c.or.ensures.made
