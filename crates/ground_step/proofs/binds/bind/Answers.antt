use Rattle.std.proofs.Common.{rules, ◌≡◌, slice_get, Some}
use Rattle.ground_step.proofs.Bound.{restricts_old}
use Rattle.ground_step.proofs.binds.bind.Goals as goal

pub returns-in-Some-Some : goal.returns-in-Some-Some
returns-in-Some-Some c =
    let there : slice_get c.args.binds.now c.args.variable ≡ Some (Some c.in-Some-Some.bound) = search rules in
    restricts_old c.args.binds.now c.args.variable c.in-Some-Some.bound c.args.tree.now c.same_term.result there c.same_term.ensures
