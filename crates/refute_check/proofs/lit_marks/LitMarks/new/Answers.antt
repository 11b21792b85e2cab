use Rattle.refute_check.proofs.SetLemmas.{none_marked}
use Rattle.refute_check.proofs.lit_marks.LitMarks.new.Goals as goal

pub returns : goal.returns
returns c = none_marked (record { positive = c.new.result; negative = c.new-2.result }) c.new.ensures c.new-2.ensures
