use Rattle.ground_step.proofs.Witnessed.{first_tests, first_rights, first_misses}
use Rattle.ground_step.proofs.verdict_laws.first_witnesses_show.Goals as goal

pub returns-clause-tests : goal.returns-clause-tests
returns-clause-tests c = first_tests

pub returns-clause-rights : goal.returns-clause-rights
returns-clause-rights c = first_rights

pub returns-clause-misses : goal.returns-clause-misses
returns-clause-misses c = first_misses
