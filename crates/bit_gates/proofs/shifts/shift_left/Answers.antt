use Rattle.std.proofs.lemmas.Result.{IfOk-weaker}
use Rattle.bit_gates.proofs.ShiftLemmas.{is_shift_left}
use Rattle.bit_gates.proofs.shifts.shift_left.Goals as goal

pub returns-clause-made : goal.returns-clause-made
returns-clause-made c = IfOk-weaker c.shift.result _ _ (λ v h. is_shift_left c.shift.new.b c.args.x.now c.args.y.now v h) c.shift.ensures.made
