use Rattle.std.proofs.Common.{sym, subst}
use Rattle.node_list.specs.Listed.{AreLines}
use Rattle.node_examples.proofs.text.tree_text.Goals as goal

pub line_texts-requires : goal.line_texts-requires
line_texts-requires g c = subst (AreLines (g.D.Domain.look c.args.d.now)) (sym c.as_slice.ensures.value) c.in_ok-lines.ensures.ordered
