use Rattle.bit_gates.proofs.RangeLemmas.{clause_below_more}
use Rattle.bit_gates.proofs.ExtendLemmas.{extends_trans}
use Rattle.bit_gates.proofs.KnownLemmas.{on_ok_after, if_ok_with}
use Rattle.bit_gates.proofs.WordLemmas.{word_lent}
use Rattle.bit_gates.proofs.DivisionLemmas.{is_product_sum}
use Rattle.bit_gates.proofs.division.product_sum.Goals as goal

pub add-requires-clause-y : goal.add-requires-clause-y
add-requires-clause-y c =
    clause_below_more _ _ _ c.in_ok-product.ensures.extends.grows (word_lent c.as_slice-4.result.now c.in_ok-wide_r.ensures c.as_slice-4.ensures).in_range

pub returns-clause-extends : goal.returns-clause-extends
returns-clause-extends c = on_ok_after c.add.result (λ g. extends_trans c.in_ok-product.ensures.extends g) c.add.ensures.extends

pub returns-clause-made : goal.returns-clause-made
returns-clause-made c = if_ok_with c.add.result _ _
    (λ g v h. is_product_sum c.args.b.now c.multiply.new.b c.add.new.b c.args.q.now c.args.y.now c.args.r.now c.in_ok-wide_q.wide_q c.in_ok-wide_y.wide_y c.in_ok-wide_r.wide_r
    c.as_slice.result.now c.as_slice-2.result.now c.as_slice-4.result.now c.in_ok-product.product c.as_slice-3.result.now v c.requires.same_q c.requires.same_r
    c.in_ok-wide_q.ensures c.as_slice.ensures c.in_ok-wide_y.ensures c.as_slice-2.ensures c.in_ok-wide_r.ensures c.as_slice-4.ensures
    c.in_ok-product.ensures.extends c.in_ok-product.ensures.made c.as_slice-3.ensures g h)
    c.add.ensures.extends c.add.ensures.made
