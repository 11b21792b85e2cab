use Rattle.sync_points.proofs.Said.{lawful_new, taken}
use Rattle.sync_points.proofs.draft.PointsDraftDraft.add.Goals as goal

pub with_piece-requires : goal.with_piece-requires
with_piece-requires c = record { new = lawful_new c.args.self c.args.item.now c.in-Ok.piece c.in-Ok.ensures.ok }

pub returns-in_ok-with_piece-in-Ok-clause-ok : goal.returns-in_ok-with_piece-in-Ok-clause-ok
returns-in_ok-with_piece-in-Ok-clause-ok c = taken c.args.self c.args.item.now c.in-Ok.piece c.in_ok-with_piece-in-Ok.field-0 c.in-Ok.ensures.ok c.in_ok-with_piece-in-Ok.ensures
