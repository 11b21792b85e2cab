use Rattle.data_value.specs.Trials.{trial_value}
use Rattle.data_value.proofs.TrialLemmas.{trial_value_fits, trial_fits}
use Rattle.data_value.proofs.laws.sorts_have_values.Goals as goal

pub returns-clause-every : goal.returns-clause-every
returns-clause-every c = λ s h. (trial_value 0 0 s, trial_value_fits 0 0 s h)

pub returns-clause-trials : goal.returns-clause-trials
returns-clause-trials c = trial_fits
