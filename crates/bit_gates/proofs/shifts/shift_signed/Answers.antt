use Rattle.std.proofs.Common.{◌≡◌, ◌+◌, ◌-◌, length, arith}
use Rattle.std.proofs.lemmas.Result.{IfOk-weaker}
use Rattle.bit_gates.proofs.RangeLemmas.{clause_below_get}
use Rattle.bit_gates.proofs.LayoutLemmas.{with_last}
use Rattle.bit_gates.proofs.ShiftLemmas.{is_shift_signed}
use Rattle.bit_gates.proofs.shifts.shift_signed.Goals as goal

pub returns-clause-made : goal.returns-clause-made
returns-clause-made c =
    let u : length c.args.x.now - 1 + 1 ≡ length c.args.x.now = omega arith in
    IfOk-weaker c.shift.result _ _ (λ v h. is_shift_signed c.shift.new.b c.args.x.now c.args.y.now v _ (length c.args.x.now - 1) u (with_last c.args.x.now (length c.args.x.now - 1) _ u) h) c.shift.ensures.made

pub shift-requires-clause-way : goal.shift-requires-clause-way
shift-requires-clause-way c = clause_below_get c.args.b.now.clauses.vars c.args.x.now (length c.args.x.now - 1) _ c.requires.x (omega arith)
