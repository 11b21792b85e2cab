use Rattle.rule_text.proofs.OneEnd.{one_fault}
use Rattle.program_text.specs.States.{no_start, start_loading}
use Rattle.program_text.proofs.Programs.{start_adds_one}
use Rattle.program_text.proofs.laws.start_text_has_one_fault.Goals as goal

pub returns : goal.returns
returns c = λ s. one_fault start_loading start_adds_one (no_start s)
