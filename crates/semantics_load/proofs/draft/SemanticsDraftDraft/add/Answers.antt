use Rattle.semantics_load.proofs.Said.{piece_is_new}
use Rattle.semantics_load.proofs.Checking.{takes}
use Rattle.semantics_load.proofs.draft.SemanticsDraftDraft.add.Goals as goal

pub with_piece-requires : goal.with_piece-requires
with_piece-requires c =
    let lawful = c.in-Ok.ensures.ok in
    record { new = piece_is_new c.args.self c.args.item.now c.in-Ok.piece lawful.form.named lawful.said.says }

pub returns-in_ok-with_piece-in-Ok-clause-ok : goal.returns-in_ok-with_piece-in-Ok-clause-ok
returns-in_ok-with_piece-in-Ok-clause-ok c = takes c.args.self c.args.item.now c.in-Ok.piece c.in_ok-with_piece-in-Ok.field-0 c.in-Ok.ensures.ok c.in_ok-with_piece-in-Ok.ensures
