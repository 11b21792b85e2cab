use Rattle.std.proofs.lemmas.Result.{IfOk-weaker}
use Rattle.data_value.proofs.GroundLemmas.{ground_constant}
use Rattle.data_value.proofs.ground.GroundDomain.constant.Goals as goal

pub returns-clause-made : goal.returns-clause-made
returns-clause-made c = IfOk-weaker c.copy_value.result _ _ (λ x e. ground_constant c.args.value.now x c.requires e) c.copy_value.ensures
