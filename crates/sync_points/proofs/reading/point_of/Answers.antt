use Rattle.sync_points.proofs.Read.{point_read}
use Rattle.sync_points.proofs.reading.point_of.Goals as goal

pub returns-in-Ok : goal.returns-in-Ok
returns-in-Ok c =
    let vars = rw (c.in-Some.is, c.none_known-none.ensures) at c.in_ok-vars.ensures in
    let one = rw (c.in-Some-2.is, c.left_known-known.ensures, c.requires.names) at c.in_ok-parts.ensures in
    let two = rw (c.in-Some-3.is, c.right_known-known.ensures, c.requires.names) at c.in_ok-parts-2.ensures in
    let three = rw (c.in-Some-4.is, c.none_known-none.ensures, c.requires.names) at c.in_ok-parts-3.ensures in
    point_read c.in-Ok.name c.args.name.now _ _ _ _ c.in-Some.vars c.in-Some-2.parts c.in-Some-3.parts c.in-Some-4.parts c.in-Some-4.whens c.in-Ok.ensures vars one two three
