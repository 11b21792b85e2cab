use Rattle.std.proofs.Common.{◌∙◌, sym, refl}
use Rattle.refute_check.specs.Sets.{marked}
use Rattle.refute_check.proofs.LitLemmas.{none_within, more_added}
use Rattle.refute_check.proofs.lit_set.LitSet.start.Goals as goal

pub loop-lit-init : goal.loop-lit-init
loop-lit-init c = λ x. c.clear.ensures x ∙ sym (none_within x)

pub loop-lit-preserved : goal.loop-lit-preserved
loop-lit-preserved c =
    more_added (marked c.loop-lit.self) (marked c.add.new.self) _ c.loop-lit.lit-index _ _ c.loop-lit-test.true refl c.loop-lit.invariant c.in_ok-add.ensures
