use Rattle.bit_gates.proofs.RangeLemmas.{clause_below_more}
use Rattle.bit_gates.proofs.ExtendLemmas.{extends_trans}
use Rattle.bit_gates.proofs.KnownLemmas.{on_ok_after, if_ok_with}
use Rattle.bit_gates.proofs.LayoutLemmas.{has_copies}
use Rattle.bit_gates.proofs.ProductLemmas.{is_partial}
use Rattle.bit_gates.proofs.product.add_partial.Goals as goal

pub mux_words-requires-clause-y : goal.mux_words-requires-clause-y
mux_words-requires-clause-y c = has_copies c.args.b.now _ _ c.constant.result _ _ c.constant.ensures c.in_ok-zeros.ensures c.as_slice-2.ensures

pub add-requires-clause-y : goal.add-requires-clause-y
add-requires-clause-y c = clause_below_more _ _ _ c.in_ok-part.ensures.extends.grows c.requires.sum

pub returns-clause-extends : goal.returns-clause-extends
returns-clause-extends c = on_ok_after c.add.result (λ g. extends_trans c.in_ok-part.ensures.extends g) c.add.ensures.extends

pub returns-clause-made : goal.returns-clause-made
returns-clause-made c = if_ok_with c.add.result _ _
    (λ g v h. is_partial c.args.b.now c.mux_words.new.b c.add.new.b c.args.sum.now c.args.x.now c.in_ok-moved.moved c.as_slice.result.now c.in_ok-zeros.zeros c.as_slice-2.result.now c.in_ok-part.part c.as_slice-3.result.now v
    c.args.s c.constant.result c.args.count c.in_ok-moved.ensures c.as_slice.ensures c.constant.ensures c.in_ok-zeros.ensures c.as_slice-2.ensures
    c.in_ok-part.ensures.extends c.in_ok-part.ensures.made c.as_slice-3.ensures g h)
    c.add.ensures.extends c.add.ensures.made
