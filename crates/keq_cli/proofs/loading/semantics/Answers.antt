use Rattle.std.proofs.Common.{List, ℕ, subst}
use Rattle.rule_text.specs.Faults.{IsLoadError}
use Rattle.semantics_load.specs.Declaring.{nothing}
use Rattle.semantics_load.specs.Loads.{semantics_loading}
use Rattle.semantics_load.specs.Text.{IsSemanticsText}
use Rattle.keq_cli.specs.Tasks.{text_at}
use Rattle.keq_cli.proofs.Stops.{stops_refused}
use Rattle.keq_cli.proofs.loading.semantics.Goals as goal

pub returns-in-Ok-clause-made : goal.returns-in-Ok-clause-made
returns-in-Ok-clause-made g c = subst (λ (bytes : List ℕ). IsSemanticsText bytes c.in-Ok.semantics) c.text_at.ensures c.in-Ok.ensures.ok

pub returns-in-Err-clause-stops : goal.returns-in-Err-clause-stops
returns-in-Err-clause-stops g c =
    let start = nothing in
    stops_refused semantics_loading start (text_at c.args.texts.now c.args.place) c.args.role c.in-Err.error c.stopped_by.result c.stopped_by.ensures (subst (λ (bytes : List ℕ). IsLoadError semantics_loading start bytes c.in-Err.error) c.text_at.ensures c.in-Err.ensures.fault)
