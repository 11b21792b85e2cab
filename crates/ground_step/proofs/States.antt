-- A step from a state gives a state.
use Rattle.std.proofs.Common.{ℕ, List, [], ◌∷◌, get_or, All, sym, subst}
use Rattle.sort_term.specs.declared.points.Cut.{Cut}
use Rattle.sort_term.specs.System.{System}
use Rattle.sort_term.specs.Tree.{Tree}
use Rattle.sort_term.specs.Rules.{IsSemantics}
use Rattle.sort_term.specs.Step.{Tables, StepsBy, IsState}
use Rattle.sort_term.specs.Runs.{reached, IsRun}
use Rattle.sort_term.proofs.StepSorts.{step_states}
use Rattle.ground_step.specs.Reach.{StartedRun, EndsInState, LongFrom}

module _ (sys : System) (tables : Tables) (lawful : IsSemantics sys) where
  pub step_state : (n : ℕ) (s t : Tree) → StepsBy sys tables n s t → IsState sys t
  step_state n s t a = (step_states sys tables n s t lawful a).1

  pub run_state : (s : Tree) (run : List (ℕ × Tree)) → IsState sys s → IsRun (StepsBy sys tables) s run → IsState sys (reached s run)
  run_state s [] h r = h
  run_state s (x ∷ run) h r = run_state x.1 run (step_state x.0 s x.1 r.0) r.1

-- the runs of a level end in states
pub long_states : {S : Type 0} (sys : System) (tables : Tables) (cuts : List (Cut S)) (s : Tree) (k : ℕ) (runs : List StartedRun) → IsSemantics sys → IsState sys s → All (LongFrom sys tables cuts s k) runs → All (EndsInState sys) runs
long_states sys tables cuts s k runs lawful state a j d l =
    let p = get_or runs j d in
    let h = a j d l in
    subst (λ t. IsState sys (reached t p.1)) (sym h.0) (run_state sys tables lawful s p.1 state h.1.runs)
