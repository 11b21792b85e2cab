use Rattle.report_text.proofs.Reloading.{printed_loads}
use Rattle.report_text.proofs.laws.printed_states_load.Goals as goal

pub returns : goal.returns
returns c = printed_loads
