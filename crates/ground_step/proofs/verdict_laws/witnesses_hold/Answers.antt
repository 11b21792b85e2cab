use Rattle.ground_step.proofs.Witnessed.{tests_hold, rights_fail, rights_miss, lefts_fail}
use Rattle.ground_step.proofs.verdict_laws.witnesses_hold.Goals as goal

pub returns-clause-tests : goal.returns-clause-tests
returns-clause-tests c = tests_hold

pub returns-clause-rights : goal.returns-clause-rights
returns-clause-rights c = rights_fail

pub returns-clause-right_misses : goal.returns-clause-right_misses
returns-clause-right_misses c = rights_miss

pub returns-clause-lefts : goal.returns-clause-lefts
returns-clause-lefts c = lefts_fail
