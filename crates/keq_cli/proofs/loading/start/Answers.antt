use Rattle.std.proofs.Common.{List, ℕ, subst}
use Rattle.rule_text.specs.Faults.{IsLoadError}
use Rattle.program_text.specs.States.{no_start, start_loading}
use Rattle.program_text.specs.Text.{IsStartText}
use Rattle.keq_cli.specs.Tasks.{text_at}
use Rattle.keq_cli.proofs.Stops.{stops_refused}
use Rattle.keq_cli.proofs.loading.start.Goals as goal

pub returns-in-Ok-clause-made : goal.returns-in-Ok-clause-made
returns-in-Ok-clause-made g c = subst (λ (bytes : List ℕ). IsStartText c.args.semantics.now bytes c.in-Ok.state.term) c.text_at.ensures c.in-Ok.ensures.ok

pub returns-in-Err-clause-stops : goal.returns-in-Err-clause-stops
returns-in-Err-clause-stops g c =
    let start = no_start c.args.semantics.now in
    stops_refused start_loading start (text_at c.args.texts.now c.args.place) c.args.role c.in-Err.error c.stopped_by.result c.stopped_by.ensures (subst (λ (bytes : List ℕ). IsLoadError start_loading start bytes c.in-Err.error) c.text_at.ensures c.in-Err.ensures.fault)
