use Rattle.std.proofs.Common.{◌≡◌, take}
use Rattle.refute_check.specs.Truth.{assigned}
use Rattle.bv_blast.specs.Inputs.{spelled}
use Rattle.bv_blast.proofs.reading.word_of.Given as goal

abbrev pub invariant-loop-i : goal.invariant-loop-i
invariant-loop-i l = l.word ≡ spelled (assigned l.model) (take l.i l.bits)
