use Rattle.sort_term.proofs.GroundLemmas.{well_grounded}
use Rattle.sort_term.proofs.ground_laws.well_grounded_is_grounded.Goals as goal

pub returns : goal.returns
returns c = well_grounded
