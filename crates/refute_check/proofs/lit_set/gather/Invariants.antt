use Rattle.std.proofs.Common.{◌≡◌, ◌||◌, true, drop}
use Rattle.refute_check.specs.Literals.{has_lit}
use Rattle.refute_check.specs.Sets.{marked, Covers}
use Rattle.refute_check.specs.declared.lit.Lit.{Lit as Literal}
use Rattle.refute_check.proofs.lit_set.gather.Given as goal

-- what is still marked is in the rest of the list
abbrev pub invariant-loop-lit : goal.invariant-loop-lit
invariant-loop-lit l = record {
  rest : Covers (drop l.lit-index l.added) l.marks;
  kept : (x : Literal) → (has_lit l.kept.items x || marked l.marks x) ≡ (has_lit l.initial.kept.items x || marked l.initial.marks x);
  fewer : (x : Literal) → marked l.marks x ≡ true → marked l.initial.marks x ≡ true;
}
