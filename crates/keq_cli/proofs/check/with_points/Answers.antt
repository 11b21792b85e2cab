use Rattle.semantics_load.proofs.Drafts.{text_makes_semantics}
use Rattle.program_text.proofs.Programs.{texts_load_programs}
use Rattle.sync_points.proofs.Drafts.{texts_are_lawful}
use Rattle.keq_cli.proofs.TaskEnds.{stops_points}
use Rattle.keq_cli.proofs.check.with_points.Goals as goal

pub invariant_of-result : goal.invariant_of-result
invariant_of-result c =
    let left = c.args.left in
    let right = c.args.right in
    let semantics = c.requires.semantics in
    let programs = c.requires.programs in
    let lawful = texts_are_lawful left right _ c.in-Ok.points c.in-Ok.ensures.made in
    record {
      fits = record {
        left_semantics = text_makes_semantics _ left semantics.left_text;
        right_semantics = text_makes_semantics _ right semantics.right_text;
        left_rows = texts_load_programs left _ c.args.left_program programs.left_text;
        right_rows = texts_load_programs right _ c.args.right_program programs.right_text;
        left_cuts = lawful.left_cuts;
        right_cuts = lawful.right_cuts;
        undefs = lawful.undefs;
        fitting_points = lawful.points;
      };
    }

pub returns-in-Err-clause-stops : goal.returns-in-Err-clause-stops
returns-in-Err-clause-stops c =
    let semantics = c.requires.semantics in
    let programs = c.requires.programs in
    λ steps. stops_points c.args.texts.now steps c.args.left semantics.left_text c.args.right semantics.right_text c.args.left_program programs.left_text c.args.right_program programs.right_text c.in-Err.stopped c.in-Err.ensures.stops
