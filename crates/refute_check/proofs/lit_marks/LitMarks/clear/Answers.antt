use Rattle.refute_check.proofs.SetLemmas.{none_marked}
use Rattle.refute_check.proofs.lit_marks.LitMarks.clear.Goals as goal

pub returns : goal.returns
returns c = none_marked (record { positive = c.clear.new.self; negative = c.clear-2.new.self }) c.clear.ensures c.clear-2.ensures
