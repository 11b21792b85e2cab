use Rattle.std.proofs.Common.{take, true}
use Rattle.sort_term.specs.Cuts.{AllTrue}
use Rattle.ground_step.specs.GroundBinds.{Restricts}
use Rattle.ground_step.proofs.conditions.all_hold.Given as goal

abbrev pub invariant-loop-condition : goal.invariant-loop-condition
invariant-loop-condition g l = Restricts l.binds l.binds true (λ v. AllTrue v (take l.condition-index l.conditions))
