use Rattle.std.proofs.Common.{arith, ◌≡◌, true, take, All, refl, subst}
use Rattle.std.proofs.lemmas.List.{take_all}
use Rattle.data_value.specs.declared.Scalar.TheVariants.{Flag}
use Rattle.data_value.specs.declared.Value.TheVariants.{One}
use Rattle.ground_step.proofs.Lists.{all_more}
use Rattle.ground_step.proofs.conditions.all_true.Goals as goal

pub loop-value-preserved : goal.loop-value-preserved
loop-value-preserved c =
    (all_more (λ x. x ≡ One (Flag true)) c.args.values.now c.loop-value.value-index c.value-item.result c.loop-value-test.true c.value-item.is).1 (c.loop-value.invariant, c.is_true.ensures.0 c.if-not-is_true.false)

pub returns : goal.returns
returns c =
    let all : take c.loop-value.value-index c.args.values.now ≡ c.args.values.now = take_all c.loop-value.value-index c.args.values.now (omega arith) in
    (λ y. subst (All (λ x. x ≡ One (Flag true))) all c.loop-value.invariant, λ x. refl)
