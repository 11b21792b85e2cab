use Rattle.std.proofs.Common.{◌≡◌, take}
use Rattle.refute_check.specs.Truth.{assigned}
use Rattle.bv_blast.specs.Inputs.{words_of}
use Rattle.bv_blast.proofs.reading.words.Given as goal

abbrev pub invariant-loop-bits : goal.invariant-loop-bits
invariant-loop-bits l = l.words ≡ words_of (assigned l.model) (take l.bits-index l.bits-items)
