use Rattle.program_text.proofs.RowChecks.{other_item}
use Rattle.program_text.proofs.program_draft.ProgramDraftDraft.add.Goals as goal

pub returns-in_default : goal.returns-in_default
returns-in_default g c = record { ok = tt; fault = other_item c.args.self c.args.item.now c.in_default.not-Row }
