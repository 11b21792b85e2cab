use Rattle.std.proofs.Common.{◌≡◌, true, take, All}
use Rattle.data_value.specs.declared.Scalar.TheVariants.{Flag}
use Rattle.data_value.specs.declared.Value.TheVariants.{One}
use Rattle.ground_step.proofs.conditions.all_true.Given as goal

abbrev pub invariant-loop-value : goal.invariant-loop-value
invariant-loop-value l = All (λ x. x ≡ One (Flag true)) (take l.value-index l.values)
