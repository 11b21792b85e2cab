use Rattle.std.proofs.Common.{sym, subst}
use Rattle.node_list.specs.Listed.{AreLines}
use Rattle.node_examples.proofs.asked.put_list.Goals as goal

pub put_lines-put-requires : goal.put_lines-put-requires
put_lines-put-requires g c = subst (AreLines (g.D.Domain.look c.args.d.now)) (sym c.as_slice.ensures.value) c.in_ok-lines.ensures.ordered
