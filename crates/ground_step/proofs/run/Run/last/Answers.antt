use Rattle.ground_step.proofs.Ahead.{last_reached}
use Rattle.ground_step.proofs.run.Run.last.Goals as goal

pub returns-in-Some : goal.returns-in-Some
returns-in-Some g c = last_reached c.args.self.now.start.term c.args.self.now.steps c.in-Some.step.now (rw c.as_slice.ensures at c.in-Some.ensures.value)
