use Rattle.std.proofs.Common.{refl}
use Rattle.ground_step.specs.Reach.{run_of}
use Rattle.keq_cli.specs.declared.status.Status.TheVariants.{Done}
use Rattle.keq_cli.proofs.TaskEnds.{ends_done}
use Rattle.keq_cli.proofs.run.run_from_start.Goals as goal

pub first_run-found-requires-clause-program : goal.first_run-found-requires-clause-program
first_run-found-requires-clause-program c = c.texts_load_programs.ensures c.args.semantics.now _ c.args.program.now c.requires.program

pub returns-clause-ends : goal.returns-clause-ends
returns-clause-ends c =
    let ended = c.in_ok-ended.ended in
    ends_done c.args.texts.now c.args.steps c.args.semantics.now c.requires.semantics c.args.program.now c.requires.program c.in_ok-start.start.term c.in_ok-start.ensures.made Done c.in_ok-report.field-0
    (record {
      is_done = refl;
      made = run_of ended.run;
      stopped = ended.stopped;
      follows = c.in_ok-ended.ensures.run;
      tells = c.in_ok-ended.ensures.stopped;
      is = c.in_ok-report.ensures;
    })
