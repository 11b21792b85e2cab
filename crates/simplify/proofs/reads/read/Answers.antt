use Rattle.std.proofs.Common.{map, ap, ◌∙◌}
use Rattle.simplify.proofs.ReadLemmas.{earlier_read}
use Rattle.simplify.proofs.reads.read.Goals as goal

pub returns-in-Unclear : goal.returns-in-Unclear
returns-in-Unclear g c =
    let d = c.args.d.now in
    let look = g.D.Domain.look d in
    earlier_read look (g.D.Domain.variables d) c.args.map.now c.args.key.now c.loop-rest.rest c.from_vec.result c.requires.key c.loop-rest.invariant (ap (map look) c.from_vec.ensures ∙ c.in_ok-args-in-Unclear.ensures)
