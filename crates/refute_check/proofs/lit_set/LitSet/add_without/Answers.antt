use Rattle.std.proofs.Common.{◌∙◌, sym, refl}
use Rattle.refute_check.specs.Sets.{marked}
use Rattle.refute_check.proofs.LitLemmas.{without_none, without_added, without_left}
use Rattle.refute_check.proofs.lit_set.LitSet.add_without.Goals as goal
use Rattle.refute_check.proofs.lit_set.LitSet.add_without.Goals.{then-not-is_same+in_ok-add, else-not-is_same}

pub loop-lit-init : goal.loop-lit-init
loop-lit-init c = λ x. without_none (marked c.args.self.now x) c.args.but x

pub loop-lit-preserved : goal.loop-lit-preserved
loop-lit-preserved c =
    elim c.if-not-is_same.branch [
      | then-not-is_same+in_ok-add w ↦
          rw w.self-is (without_added (marked c.args.self.now) (marked c.loop-lit.self) (marked w.add.new.self) _ c.loop-lit.lit-index c.args.but _ _ c.loop-lit-test.true refl (sym c.is_same.ensures ∙ w.if-not-is_same.true) c.loop-lit.invariant w.in_ok-add.ensures)
      | else-not-is_same w ↦
          rw w.self-is (without_left (marked c.args.self.now) (marked c.loop-lit.self) _ c.loop-lit.lit-index c.args.but _ _ c.loop-lit-test.true refl (sym c.is_same.ensures ∙ w.if-not-is_same.false) c.loop-lit.invariant)
    ]
