use Rattle.program_text.proofs.Programs.{one_program}
use Rattle.program_text.proofs.laws.text_is_of_one_program.Goals as goal

pub returns : goal.returns
returns c = one_program
