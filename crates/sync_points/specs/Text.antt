-- Which text is that of cuts and points between two semantics.
use Rattle.std.specs.Prelude.{ℕ, List}
use Rattle.rule_text.specs.Faults.{IsWholeText}
use Rattle.sort_term.specs.declared.points.Points.{Points}
use Rattle.sort_term.specs.Problems.{AreCuts, AreUndefs, ArePoints}
use Rattle.sort_term.specs.System.{System}
use Rattle.sync_points.specs.Pieces.{no_points}
use Rattle.sync_points.specs.Loads.{points_loading}

-- the text is that of items that make these cuts and points
pub record IsPointsText (left right : System) (bytes : List ℕ) (p : Points) : Type 0 where
  pub whole : IsWholeText points_loading (no_points left right) bytes (record { left = left; right = right; points = p })

-- cuts and points that pass their checks
pub record AreLawful (left right : System) (p : Points) : Type 0 where
  pub left_cuts : AreCuts left p.left_cuts
  pub right_cuts : AreCuts right p.right_cuts
  pub undefs : AreUndefs p.left_cuts p.undefs
  pub points : ArePoints left right p.points
