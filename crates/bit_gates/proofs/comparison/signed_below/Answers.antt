use Rattle.bit_gates.proofs.KnownLemmas.{if_ok_with}
use Rattle.bit_gates.proofs.SumLemmas.{is_signed_below}
use Rattle.bit_gates.proofs.comparison.signed_below.Goals as goal

pub returns-clause-made : goal.returns-clause-made
returns-clause-made c = if_ok_with c.below.result _ _
    (λ g z h. is_signed_below c.args.b.now c.below.new.b c.args.x.now c.args.y.now c.in_ok-first.first c.in_ok-second.second c.as_slice.result.now c.as_slice-2.result.now z c.requires.same g
    c.in_ok-first.ensures c.as_slice.ensures c.in_ok-second.ensures c.as_slice-2.ensures h)
    c.below.ensures.extends c.below.ensures.made
