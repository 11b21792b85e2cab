use Rattle.std.proofs.lemmas.Result.{IfOk-weaker}
use Rattle.data_value.proofs.GroundLemmas.{ground_values, ground_applied}
use Rattle.data_value.proofs.ground.GroundDomain.apply.Goals as goal

pub apply_value-requires-clause-values : goal.apply_value-requires-clause-values
apply_value-requires-clause-values c = ground_values c.args.args.now c.requires.valid

pub returns-clause-made : goal.returns-clause-made
returns-clause-made c = IfOk-weaker c.apply_value.result _ _ (λ x e. ground_applied c.args.op c.args.args.now x c.requires.valid c.requires.sorted e) c.apply_value.ensures
