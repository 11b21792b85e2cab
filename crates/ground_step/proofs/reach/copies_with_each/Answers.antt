use Rattle.ground_step.specs.Reach.{run_of}
use Rattle.ground_step.proofs.Growing.{run_more}
use Rattle.ground_step.proofs.reach.copies_with_each.Goals as goal

pub loop-step-preserved : goal.loop-step-preserved
loop-step-preserved g c =
    run_more (run_of c.args.run.now) c.loop-step.runs.items c.push.new.self.items _ c.args.steps.now c.loop-step.step-index c.step-item.result c.in_ok-push.ensures.items c.in_ok-copy_with.ensures c.loop-step.invariant c.loop-step-test.true c.step-item.is
