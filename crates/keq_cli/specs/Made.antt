-- What the texts of a check make.
use Rattle.sort_term.specs.declared.points.Points.{Points}
use Rattle.sort_term.specs.Step.{Tables}
use Rattle.sort_term.specs.System.{System}
use Rattle.semantics_load.specs.Text.{IsSemanticsText}
use Rattle.program_text.specs.Text.{IsProgramText}
use Rattle.sync_points.specs.Text.{IsPointsText}
use Rattle.keq_cli.specs.Plan.{Texts}
use Rattle.keq_cli.specs.Tasks.{text_at}

-- the first two texts make these semantics
pub record AreSemantics (texts : Texts) (left right : System) : Type 0 where
  pub left_text : IsSemanticsText (text_at texts 0) left
  pub right_text : IsSemanticsText (text_at texts 1) right

-- the next two make these programs of them
pub record ArePrograms (texts : Texts) (left right : System) (left_program right_program : Tables) : Type 0 where
  pub left_text : IsProgramText left (text_at texts 2) left_program
  pub right_text : IsProgramText right (text_at texts 3) right_program

-- all five make the parts of a problem
pub record AreMade (texts : Texts) (left right : System) (left_program right_program : Tables) (points : Points) : Type 0 where
  pub semantics : AreSemantics texts left right
  pub programs : ArePrograms texts left right left_program right_program
  pub points_text : IsPointsText left right (text_at texts 4) points
