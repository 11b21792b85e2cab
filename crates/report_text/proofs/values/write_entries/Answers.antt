use Rattle.std.proofs.Common.{◌<◌, length, sym, arith}
use Rattle.std.proofs.lemmas.Option.{get_or_from_slice_get}
use Rattle.report_text.specs.Values.{entry_text}
use Rattle.report_text.proofs.Written.{behind_more}
use Rattle.report_text.proofs.values.write_entries.Goals as goal

pub loop-place-preserved : goal.loop-place-preserved
loop-place-preserved c =
    let within : c.loop-place.place < length c.args.mapping.now.entries = omega arith in
    let is = sym (get_or_from_slice_get c.args.mapping.now.entries c.loop-place.place c.entry.result c.entry.result c.entry.ensures) in
    behind_more entry_text c.args.mapping.now.entries c.loop-place.place c.entry.result within is _ _ _ _ c.loop-place.invariant c.in_ok-push.ensures.items c.in_ok-write_entry.ensures
