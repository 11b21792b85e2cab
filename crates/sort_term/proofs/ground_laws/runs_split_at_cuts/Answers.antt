use Rattle.std.proofs.Common.{arith, length}
use Rattle.sort_term.specs.Step.{StepsBy}
use Rattle.sort_term.specs.Cuts.{InCut}
use Rattle.sort_term.proofs.Meets.{splits}
use Rattle.sort_term.proofs.ground_laws.runs_split_at_cuts.Goals as goal

pub returns : goal.returns
returns g c = λ sys tables cuts n s again run runs. splits (StepsBy sys tables) (InCut sys.cons cuts) n (length run) s again run (omega arith) runs
