use Rattle.sync_points.proofs.Drafts.{no_points_and_fault}
use Rattle.sync_points.proofs.laws.text_has_no_value_and_fault.Goals as goal

pub returns : goal.returns
returns c = no_points_and_fault
