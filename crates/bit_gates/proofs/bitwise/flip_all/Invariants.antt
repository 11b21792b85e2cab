use Rattle.std.proofs.Common.{◌≡◌, map, take}
use Rattle.refute_check.specs.Truth.{flipped}
use Rattle.bit_gates.proofs.bitwise.flip_all.Given as goal

abbrev pub invariant-loop-lit : goal.invariant-loop-lit
invariant-loop-lit l = l.flips ≡ map flipped (take l.lit-index l.x)
