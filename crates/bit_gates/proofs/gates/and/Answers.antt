use Rattle.std.proofs.Common.{◌∙◌}
use Rattle.bit_gates.proofs.KnownLemmas.{same_from, same_constant, and_left, and_same, and_right, and_left_false, and_right_none, and_opposites}
use Rattle.bit_gates.proofs.gates.and.Goals.{then-is_same-via-then-is_same, then-is_same-via-else-is_same+then-is_same-2}
use Rattle.bit_gates.proofs.gates.and.Goals.{then-is_same-4-via-then-is_same-4, then-is_same-4-via-else-is_same-4+then-is_same-5, then-is_same-4-via-else-is_same-4+else-is_same-5+then-is_same-6}
use Rattle.bit_gates.proofs.gates.and.Goals as goal

pub returns-then-is_same-clause-made : goal.returns-then-is_same-clause-made
returns-then-is_same-clause-made c = elim c.then-is_same.branch [
  | then-is_same-via-then-is_same w ↦ and_left c.args.b.now c.args.x c.args.y (same_constant _ _ _ w.if-is_same.ensures c.constant.ensures) c.requires.y
  | then-is_same-via-else-is_same+then-is_same-2 w ↦ and_same c.args.b.now c.args.x c.args.y (same_from _ _ w.if-is_same-2.ensures) c.requires.y
]

pub returns-then-is_same-3-clause-made : goal.returns-then-is_same-3-clause-made
returns-then-is_same-3-clause-made c = and_right c.args.b.now c.args.x c.args.y (same_constant _ _ _ c.if-is_same-3.ensures c.constant-2.ensures) c.requires.x

pub returns-then-is_same-4-clause-made : goal.returns-then-is_same-4-clause-made
returns-then-is_same-4-clause-made c =
    let z = c.constant-then-is_same-4.ensures in
    elim c.then-is_same-4.branch [
      | then-is_same-4-via-then-is_same-4 w ↦ and_left_false c.args.b.now c.args.x c.args.y _ z (same_constant _ _ _ w.if-is_same-4.ensures c.constant-3.ensures)
      | then-is_same-4-via-else-is_same-4+then-is_same-5 w ↦ and_right_none c.args.b.now c.args.x c.args.y _ z (same_constant _ _ _ w.if-is_same-5.ensures w.constant-else-is_same-4.ensures)
      | then-is_same-4-via-else-is_same-4+else-is_same-5+then-is_same-6 w ↦ and_opposites c.args.b.now c.args.x c.args.y _ z (same_from _ _ w.if-is_same-6.ensures ∙ w.flip.ensures)
    ]
