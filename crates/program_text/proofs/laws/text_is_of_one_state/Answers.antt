use Rattle.program_text.proofs.Programs.{one_state}
use Rattle.program_text.proofs.laws.text_is_of_one_state.Goals as goal

pub returns : goal.returns
returns c = one_state
