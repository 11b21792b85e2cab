use Rattle.sort_term.specs.Step.{StepsBy}
use Rattle.sort_term.specs.Cuts.{InCut}
use Rattle.sort_term.proofs.RunLemmas.{met_short, halted_short, succeeds_within}
use Rattle.sort_term.proofs.run_laws.met_runs_are_short.Goals as goal

pub returns : goal.returns
returns g c = record {
  met = λ sys tables cuts n s none run m. met_short (StepsBy sys tables) (InCut sys.cons cuts) s n run none m;
  halted = λ sys tables cuts n s none run h. halted_short (StepsBy sys tables) (InCut sys.cons cuts) s n run none h;
  successors = λ sys tables cuts n s t none. succeeds_within (StepsBy sys tables) (InCut sys.cons cuts) s n t none;
}
