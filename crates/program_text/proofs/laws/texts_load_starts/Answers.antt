use Rattle.program_text.proofs.Programs.{texts_load_starts}
use Rattle.program_text.proofs.laws.texts_load_starts.Goals as goal

pub returns : goal.returns
returns c = texts_load_starts
