use Rattle.std.proofs.Common.{◌∙◌}
use Rattle.program_text.proofs.Programs.{is_program_text}
use Rattle.program_text.proofs.load_program.Goals as goal

pub returns-clause-ok : goal.returns-clause-ok
returns-clause-ok g c = is_program_text c.args.semantics.now c.args.bytes.now c.in_ok-start.start c.in_ok-draft.draft c.new-2.result c.in_ok-start.ensures c.in_ok-draft.ensures.ok (c.new-2.ensures ∙ c.into_rows.ensures)
