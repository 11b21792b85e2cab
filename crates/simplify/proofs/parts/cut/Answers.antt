use Rattle.std.proofs.Common.{sym, ◌∙◌}
use Rattle.simplify.proofs.PartLemmas.{whole_simpler}
use Rattle.simplify.proofs.parts.cut.Goals as goal

pub returns-then-is_whole : goal.returns-then-is_whole
returns-then-is_whole g c =
    let d = c.args.d.now in
    let p = c.args.part.now in
    let is = c.is_whole.ensures c.if-is_whole.true in
    whole_simpler (g.D.Domain.look d) (g.D.Domain.variables d) (g.met.D.Domain.laws d) p.hi p.lo p.node c.requires.valid (sym c.sort.ensures ∙ is.0) is.1 c.requires.sorted _ c.in_ok-copy.ensures
