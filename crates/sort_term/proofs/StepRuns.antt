-- Runs of a semantics: they go through states, and their rules fix them.
use Rattle.std.proofs.Common.{◌≡◌, [], ◌∷◌, length, ap, subst, refl}
use Rattle.std.proofs.lemmas.List.Elements.{All-nil, All-cons}
use Rattle.sort_term.specs.Step.{StepsBy, IsState}
use Rattle.sort_term.specs.Runs.{rules_of, IsRun}
use Rattle.sort_term.specs.RunLaws.{RulesFixRuns}
use Rattle.sort_term.specs.SortLaws.{RunsKeepStates}
use Rattle.sort_term.proofs.Agreeing.{one_step}
use Rattle.sort_term.proofs.StepSorts.{step_states}

pub one_run : RulesFixRuns
one_run sys lawful tables s [] [] a b e = refl
one_run sys lawful tables s [] (y ∷ ys) a b e = let l : 0 ≡ length (rules_of (y ∷ ys)) = ap length e in absurd (cc)
one_run sys lawful tables s (x ∷ xs) [] a b e = let l : length (rules_of (x ∷ xs)) ≡ 0 = ap length e in absurd (cc)
one_run sys lawful tables s (x ∷ xs) (y ∷ ys) a b e =
    let rule : x.0 ≡ y.0 = cc in
    let more : rules_of xs ≡ rules_of ys = cc in
    let state : x.1 ≡ y.1 = one_step sys lawful tables y.0 s x.1 y.1 (subst (λ n. StepsBy sys tables n s x.1) rule a.0) b.0 in
    let rest : xs ≡ ys = one_run sys lawful tables y.1 xs ys (subst (λ t. IsRun (StepsBy sys tables) t xs) state a.1) b.1 more in
    λ i. (rule i, state i) ∷ rest i

pub run_states : RunsKeepStates
run_states sys tables s [] lawful h r = (All-nil (λ x. IsState sys x.1), h)
run_states sys tables s (x ∷ run) lawful h r =
    let here : IsState sys x.1 = (step_states sys tables x.0 s x.1 lawful r.0).1 in
    let more = run_states sys tables x.1 run lawful here r.1 in
    (All-cons (λ y. IsState sys y.1) x run here more.0, more.1)
