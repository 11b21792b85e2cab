use Rattle.std.proofs.Common.{sym, subst}
use Rattle.data_value.specs.Truth.{IsCondition}
use Rattle.data_value.proofs.Grown.{extends-both}
use Rattle.unify.specs.Branches.{IsConfiguration}
use Rattle.verdict.proofs.Kept.{config_stays}
use Rattle.verdict.proofs.Sides.{both_explored}
use Rattle.verdict.proofs.exploring.explored.Goals as goal

pub explored_side-requires-2-clause-start : goal.explored_side-requires-2-clause-start
explored_side-requires-2-clause-start g c =
    let look = g.D.Domain.look in
    let sys = c.args.problem.now.right in
    subst (IsConfiguration sys) (sym (config_stays (look c.args.d.now) (look c.explored_side.new.d) c.in_ok-left.ensures.extends sys c.args.posed.right.term c.requires.right)) c.requires.right

pub explored_side-requires-2-clause-condition : goal.explored_side-requires-2-clause-condition
explored_side-requires-2-clause-condition g c =
    subst IsCondition (sym (c.in_ok-left.ensures.extends.keeps c.args.posed.condition c.requires.condition.valid)) c.requires.condition

pub returns-clause-extends : goal.returns-clause-extends
returns-clause-extends g c = extends-both _ _ _ c.in_ok-left.ensures.extends c.in_ok-right.ensures.extends

pub returns-clause-explored : goal.returns-clause-explored
returns-clause-explored g c =
    let look = g.D.Domain.look in
    both_explored (look c.args.d.now) (look c.explored_side.new.d) (look c.explored_side-2.new.d) c.in_ok-left.ensures.extends c.in_ok-right.ensures.extends c.args.problem.now c.args.steps
    (g.D.Domain.variables c.args.d.now) (g.D.Domain.variables c.explored_side.new.d) c.in_ok-left.ensures.same_variables c.args.posed c.requires.condition c.requires.left c.requires.right
    c.in_ok-left.left c.in_ok-left.ensures.explored c.in_ok-right.right c.in_ok-right.ensures.explored
