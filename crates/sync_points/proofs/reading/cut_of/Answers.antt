use Rattle.sync_points.proofs.Read.{cut_read}
use Rattle.sync_points.proofs.reading.cut_of.Goals as goal

pub returns-in-Ok : goal.returns-in-Ok
returns-in-Ok g c =
    let vars = rw c.in-Some.is at c.in_ok-vars.ensures in
    let one = rw (c.in-Some-2.is, c.requires.names) at c.in_ok-parts.ensures in
    let two = rw (c.in-Some-3.is, c.requires.names) at c.in_ok-parts-2.ensures in
    cut_read c.in-Ok.name c.args.name.now _ _ _ c.in-Some.vars c.in-Some-2.parts c.in-Some-3.parts c.in-Some-3.whens c.in-Ok.ensures vars one two
