use Rattle.std.proofs.Common.{get_or}
use Rattle.std.proofs.lemmas.List.{get_or_default}
use Rattle.name_resolution.proofs.Filling.{filled_more}
use Rattle.name_resolution.proofs.entries.filled.Goals as goal

pub loop-entry-preserved : goal.loop-entry-preserved
loop-entry-preserved c =
    let es = c.args.entries.now in
    let i = c.loop-entry.entry-index in
    let e = get_or es i (0, 0) in
    filled_more c.args.key c.args.word es c.requires i e c.loop-entry-test.true (get_or_default es i (0, 0) e c.loop-entry-test.true) c.loop-entry.map c.in_ok-map.map c.loop-entry.invariant c.in_ok-map.ensures
