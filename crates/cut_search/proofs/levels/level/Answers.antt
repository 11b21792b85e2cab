use Rattle.std.proofs.Common.{◌∙◌, refl, [], ◌∷◌}
use Rattle.sort_term.specs.Step.{StepsBy}
use Rattle.sort_term.specs.Cuts.{InCut}
use Rattle.data_value.proofs.Grown.{extends-same, extends-both}
use Rattle.path_condition.specs.Leaves.{seen_leaf, Says}
use Rattle.cut_search.specs.Found.{seen_reach, NextOf, judged_by, conditions_of}
use Rattle.cut_search.proofs.Giving.{answered_nil, answered_joined}
use Rattle.cut_search.proofs.Reaching.{IsJoined, next_additive, seen_nothing, loop_start, leaf_now, loop_more, loop_end, reach_judged}
use Rattle.cut_search.proofs.Kept.{reach_now, one_before, judged_leaf}
use Rattle.cut_search.proofs.levels.level.Goals as goal

pub loop-leaf-init : goal.loop-leaf-init
loop-leaf-init g c =
    let first = g.D.Domain.look c.args.d.now in
    let variables = g.D.Domain.variables c.args.d.now in
    let sys = c.args.semantics.now in
    let none = c.nothing-reach.ensures in
    let r = c.nothing-reach.result in
    record {
      extends = extends-same first;
      same_variables = refl;
      reach = loop_start variables sys (judged_by g.J.Drops.Allows g.J.Drops.Keeps variables (conditions_of (g.D.Domain.look c.args.d.now) c.args.leaves.now)) (NextOf (StepsBy sys c.args.program.now) (InCut sys.cons c.args.cuts.now)) (next_additive (StepsBy sys c.args.program.now) (InCut sys.cons c.args.cuts.now)) first c.args.leaves.now r (seen_nothing first r none.met none.long none.halted none.dropped);
      answered = answered_nil c.args.answers.now.items r.dropped none.dropped;
    }

pub advance-requires-clause-leaf : goal.advance-requires-clause-leaf
advance-requires-clause-leaf g c =
    let variables = g.D.Domain.variables c.args.d.now in
    let sys = c.args.semantics.now in
    leaf_now variables sys (judged_by g.J.Drops.Allows g.J.Drops.Keeps variables (conditions_of (g.D.Domain.look c.args.d.now) c.args.leaves.now)) (NextOf (StepsBy sys c.args.program.now) (InCut sys.cons c.args.cuts.now)) (next_additive (StepsBy sys c.args.program.now) (InCut sys.cons c.args.cuts.now)) (g.D.Domain.look c.args.d.now) c.args.leaves.now c.loop-leaf.leaf-index c.leaf-item.result c.loop-leaf-test.true c.leaf-item.is c.requires.leaves
    (g.D.Domain.look c.loop-leaf.d) c.loop-leaf.invariant.extends

pub returns-in_err-more-clause-extends : goal.returns-in_err-more-clause-extends
returns-in_err-more-clause-extends g c = extends-both _ _ _ c.loop-leaf.invariant.extends c.advance.ensures.extends

pub returns-in_err-reach-clause-extends : goal.returns-in_err-reach-clause-extends
returns-in_err-reach-clause-extends g c = extends-both _ _ _ c.loop-leaf.invariant.extends c.advance.ensures.extends

pub loop-leaf-preserved : goal.loop-leaf-preserved
loop-leaf-preserved g c =
    let look = g.D.Domain.look in
    let variables = g.D.Domain.variables c.args.d.now in
    let Judged = judged_by g.J.Drops.Allows g.J.Drops.Keeps in
    let sys = c.args.semantics.now in
    let now = look c.loop-leaf.d in
    let after = look c.advance.new.d in
    let first = look c.args.d.now in
    let all_before = conditions_of first c.args.leaves.now in
    let leaf = c.leaf-item.result in
    let at = c.loop-leaf.invariant in
    let r = c.loop-leaf.reach in
    let s = c.in_ok-more.more in
    let all = c.in_ok-reach.reach in
    let is = c.in_ok-reach.ensures in
    let joined : IsJoined r s all = record { met = is.met; long = is.long; halted = is.halted; dropped = is.dropped } in
    let leaf_is = leaf_now variables sys (Judged variables all_before) (NextOf (StepsBy sys c.args.program.now) (InCut sys.cons c.args.cuts.now)) (next_additive (StepsBy sys c.args.program.now) (InCut sys.cons c.args.cuts.now)) first c.args.leaves.now c.loop-leaf.leaf-index leaf c.loop-leaf-test.true c.leaf-item.is c.requires.leaves first (extends-same first) in
    let made = reach_now variables (g.D.Domain.variables c.loop-leaf.d) at.same_variables (first leaf.condition ∷ []) (now leaf.condition ∷ []) (one_before first now at.extends leaf.condition leaf_is.condition) sys Judged ((NextOf (StepsBy sys c.args.program.now) (InCut sys.cons c.args.cuts.now)) (λ v rules t. Says v rules t (seen_leaf now leaf))) (seen_reach after s) c.in_ok-more.ensures.reach in
    let more = reach_judged variables sys (Judged variables (first leaf.condition ∷ [])) (Judged variables all_before) (judged_leaf g.J.Drops.Allows g.J.Drops.Keeps variables first c.args.leaves.now c.loop-leaf.leaf-index leaf c.loop-leaf-test.true c.leaf-item.is) ((NextOf (StepsBy sys c.args.program.now) (InCut sys.cons c.args.cuts.now)) (λ v rules t. Says v rules t (seen_leaf now leaf))) (seen_reach after s) made in
    record {
      extends = extends-both _ _ _ at.extends c.advance.ensures.extends;
      same_variables = c.advance.ensures.same_variables ∙ at.same_variables;
      reach = loop_more variables sys (Judged variables all_before) (NextOf (StepsBy sys c.args.program.now) (InCut sys.cons c.args.cuts.now)) (next_additive (StepsBy sys c.args.program.now) (InCut sys.cons c.args.cuts.now)) (look c.args.d.now) c.args.leaves.now c.loop-leaf.leaf-index leaf c.loop-leaf-test.true c.leaf-item.is c.requires.leaves
          now after at.extends c.advance.ensures.extends r s all joined at.reach more;
      answered = answered_joined c.args.answers.now.items c.loop-leaf.answers.items c.advance.new.answers.items r.dropped s.dropped all.dropped is.dropped at.answered c.in_ok-more.ensures.answered;
    }

pub returns-clause-reach : goal.returns-clause-reach
returns-clause-reach g c =
    let variables = g.D.Domain.variables c.args.d.now in
    let sys = c.args.semantics.now in
    loop_end variables sys (judged_by g.J.Drops.Allows g.J.Drops.Keeps variables (conditions_of (g.D.Domain.look c.args.d.now) c.args.leaves.now)) (NextOf (StepsBy sys c.args.program.now) (InCut sys.cons c.args.cuts.now)) (next_additive (StepsBy sys c.args.program.now) (InCut sys.cons c.args.cuts.now)) (g.D.Domain.look c.args.d.now) c.args.leaves.now c.loop-leaf.leaf-index (seen_reach (g.D.Domain.look c.loop-leaf.d) c.loop-leaf.reach) c.loop-leaf-test.false c.loop-leaf.invariant.reach
