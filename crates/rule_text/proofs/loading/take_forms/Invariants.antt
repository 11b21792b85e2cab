use Rattle.std.proofs.Common.{take}
use Rattle.rule_text.specs.Faults.{AreTaken}
use Rattle.rule_text.proofs.loading.take_forms.Given as goal

-- the forms so far make the draft
abbrev pub invariant-loop-k : goal.invariant-loop-k
invariant-loop-k g l = AreTaken g.D.Draft.loading l.fn.start (take l.k l.forms) l.draft
