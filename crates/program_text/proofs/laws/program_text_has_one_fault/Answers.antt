use Rattle.rule_text.proofs.OneEnd.{one_fault}
use Rattle.program_text.specs.Rows.{no_rows, program_loading}
use Rattle.program_text.proofs.Programs.{row_adds_one}
use Rattle.program_text.proofs.laws.program_text_has_one_fault.Goals as goal

pub returns : goal.returns
returns c = λ s. one_fault program_loading row_adds_one (no_rows s)
