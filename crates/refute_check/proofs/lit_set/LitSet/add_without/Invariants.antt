use Rattle.std.proofs.Common.{◌≡◌, ◌||◌, ◌&&◌, not, take}
use Rattle.refute_check.specs.Literals.{has_lit, same_lit}
use Rattle.refute_check.specs.Sets.{marked}
use Rattle.refute_check.specs.declared.lit.Lit.{Lit as Literal}
use Rattle.refute_check.proofs.lit_set.LitSet.add_without.Given as goal

abbrev pub invariant-loop-lit : goal.invariant-loop-lit
invariant-loop-lit l = (x : Literal) → marked l.self x ≡ (marked l.initial.self x || (has_lit (take l.lit-index l.lit-items) x && not (same_lit l.but x)))
