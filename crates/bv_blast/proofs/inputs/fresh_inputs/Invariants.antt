use Rattle.std.proofs.Common.{take}
use Rattle.bv_blast.specs.Free.{AreFree}
use Rattle.bv_blast.proofs.inputs.fresh_inputs.Given as goal

abbrev pub invariant-loop-width : goal.invariant-loop-width
invariant-loop-width l = AreFree l.fn.b l.b l.inputs (take l.width-index l.widths)
