use Rattle.std.proofs.Common.{◌∙◌}
use Rattle.bit_gates.proofs.KnownLemmas.{same_from, xor_same, xor_opposites, xor_left, xor_right}
use Rattle.bit_gates.proofs.gates.xor.Goals as goal

pub returns-then-is_same-clause-made : goal.returns-then-is_same-clause-made
returns-then-is_same-clause-made c = xor_same c.args.b.now c.args.x c.args.y c.constant.result c.constant.ensures (same_from _ _ c.if-is_same.ensures)

pub returns-then-is_same-2-clause-made : goal.returns-then-is_same-2-clause-made
returns-then-is_same-2-clause-made c = xor_opposites c.args.b.now c.args.x c.args.y c.constant-then-is_same-2.result c.constant-then-is_same-2.ensures (same_from _ _ c.if-is_same-2.ensures ∙ c.flip.ensures)

pub returns-then-x-eq0-clause-made : goal.returns-then-x-eq0-clause-made
returns-then-x-eq0-clause-made c = xor_left c.args.b.now c.args.x c.args.y c.flip_if.result c.if-x-eq0.true c.flip_if.ensures c.requires.y

pub returns-then-y-eq0-clause-made : goal.returns-then-y-eq0-clause-made
returns-then-y-eq0-clause-made c = xor_right c.args.b.now c.args.x c.args.y c.flip_if-then-y-eq0.result c.if-y-eq0.true c.flip_if-then-y-eq0.ensures c.requires.x
