use Rattle.std.proofs.Common.{◌≡◌, take, map}
use Rattle.bv_blast.specs.Inputs.{positive}
use Rattle.bv_blast.proofs.walk.positive_word.Given as goal

abbrev pub invariant-loop-i : goal.invariant-loop-i
invariant-loop-i l = l.word ≡ map positive (take l.i l.bits)
