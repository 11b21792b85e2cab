use Rattle.rule_text.proofs.OneEnd.{no_value_and_fault}
use Rattle.program_text.specs.Rows.{no_rows, program_loading}
use Rattle.program_text.proofs.Programs.{row_adds_one}
use Rattle.program_text.proofs.laws.program_text_has_no_value_and_fault.Goals as goal

pub returns : goal.returns
returns c = λ s bytes p f t. no_value_and_fault program_loading row_adds_one (no_rows s) bytes (record { semantics = s; rows = p }) f t.whole
