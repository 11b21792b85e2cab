use Rattle.rule_text.proofs.Misfits.{no_misfit, one_misfit}
use Rattle.rule_text.proofs.laws.misfits_are_unique.Goals as goal

pub returns-clause-none : goal.returns-clause-none
returns-clause-none c = no_misfit

pub returns-clause-one : goal.returns-clause-one
returns-clause-one c = one_misfit
