use Rattle.std.proofs.Common.{List, ℕ, subst}
use Rattle.rule_text.specs.Faults.{IsLoadError}
use Rattle.sync_points.specs.Pieces.{no_points}
use Rattle.sync_points.specs.Loads.{points_loading}
use Rattle.sync_points.specs.Text.{IsPointsText}
use Rattle.keq_cli.specs.Tasks.{text_at}
use Rattle.keq_cli.proofs.Stops.{stops_refused}
use Rattle.keq_cli.proofs.loading.points.Goals as goal

pub returns-in-Ok-clause-made : goal.returns-in-Ok-clause-made
returns-in-Ok-clause-made c = subst (λ (bytes : List ℕ). IsPointsText c.args.left.now c.args.right.now bytes c.in-Ok.points) c.text_at.ensures c.in-Ok.ensures.ok

pub returns-in-Err-clause-stops : goal.returns-in-Err-clause-stops
returns-in-Err-clause-stops c =
    let start = no_points c.args.left.now c.args.right.now in
    stops_refused points_loading start (text_at c.args.texts.now c.args.place) c.args.role c.in-Err.error c.stopped_by.result c.stopped_by.ensures (subst (λ (bytes : List ℕ). IsLoadError points_loading start bytes c.in-Err.error) c.text_at.ensures c.in-Err.ensures.fault)
