use Rattle.std.proofs.Common.{ap, Some, sym, ◌∙◌}
use Rattle.program_text.proofs.Programs.{is_start_text}
use Rattle.program_text.proofs.load_start.Goals as goal

pub returns-clause-ok : goal.returns-clause-ok
returns-clause-ok g c = is_start_text c.args.semantics.now c.args.bytes.now c.in_ok-start.start c.in_ok-draft.draft c.new-in-Some.result.term c.in_ok-start.ensures c.in_ok-draft.ensures.ok (sym c.in-Some.ensures ∙ ap Some (sym c.new-in-Some.ensures))
