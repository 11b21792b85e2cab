use Rattle.machine_examples.proofs.loaded.problem.Goals as goal

pub invariant_of-result : goal.invariant_of-result
invariant_of-result c = record {
  fits = record {
    left_semantics = c.rules-left.ensures.valid;
    right_semantics = c.rules-right.ensures.valid;
    left_rows = c.requires.left_rows;
    right_rows = c.requires.right_rows;
    left_cuts = c.requires.points.left_cuts;
    right_cuts = c.requires.points.right_cuts;
    undefs = c.requires.points.undefs;
    fitting_points = c.requires.points.points;
  };
}
