use Rattle.std.proofs.Common.{◌∷◌, [], ◌++◌, ap, sym, ◌∙◌}
use Rattle.std.proofs.lemmas.Result.{IfOk-weaker}
use Rattle.ground_step.specs.Steps.{step_of, steps_of}
use Rattle.ground_step.specs.Reach.{longer_run, run_of, with_each}
use Rattle.ground_step.proofs.Growing.{with_more}
use Rattle.ground_step.proofs.reach.with_each.Goals as goal

pub returns-in-Ok : goal.returns-in-Ok
returns-in-Ok g c =
    let p = run_of c.args.run in
    let copies = rw c.as_slice.ensures at c.in-Ok.ensures in
    IfOk-weaker c.with_last.result _ _
    (λ all e. e ∙ ap (λ l. l ++ longer_run p (step_of c.in-Some.last) ∷ []) copies ∙ sym (with_more p c.pop.new.self c.in-Some.last) ∙ ap (λ l. with_each p (steps_of l)) (sym c.in-Some.ensures))
    c.with_last.ensures
