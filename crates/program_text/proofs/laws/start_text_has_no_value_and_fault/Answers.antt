use Rattle.std.proofs.Common.{Some}
use Rattle.rule_text.proofs.OneEnd.{no_value_and_fault}
use Rattle.program_text.specs.States.{no_start, start_loading}
use Rattle.program_text.proofs.Programs.{start_adds_one}
use Rattle.program_text.proofs.laws.start_text_has_no_value_and_fault.Goals as goal

pub returns : goal.returns
returns c = λ s bytes t f text. no_value_and_fault start_loading start_adds_one (no_start s) bytes (record { semantics = s; tree = Some t }) f text.whole
