use Rattle.std.proofs.Common.{arith, ◌≡◌, refl, ◌∙◌, [], ◌∷◌}
use Rattle.data_value.proofs.Grown.{extends-same, extends-both}
use Rattle.sort_term.specs.Step.{StepsBy}
use Rattle.sort_term.specs.Cuts.{InCut}
use Rattle.sort_term.specs.NodeTerms.{seen_term}
use Rattle.path_condition.specs.Leaves.{seen_leaves, Gives}
use Rattle.path_condition.proofs.LeafLemmas.{configuration_valid}
use Rattle.cut_search.specs.Found.{seen_reach, NextOf, StopsOf, judged_by, conditions_of}
use Rattle.cut_search.specs.Drops.{IsSettled}
use Rattle.cut_search.proofs.Reaching.{reach_judged}
use Rattle.cut_search.proofs.Giving.{answered_nil, answered_joined}
use Rattle.cut_search.proofs.Kept.{reach_now, judged_more, start_settled, slice_settled}
use Rattle.cut_search.proofs.Searching.{reach_first, open_leaves, reach_next, reach_last}
use Rattle.cut_search.proofs.dropping.all_found.Goals as goal

pub begun-requires-clause-start : goal.begun-requires-clause-start
begun-requires-clause-start g c = configuration_valid c.args.semantics.now (seen_term (g.D.Domain.look c.args.d.now) c.args.start.now.term) c.requires.start

pub loop-level-init : goal.loop-level-init
loop-level-init g c =
    let first = g.D.Domain.look c.args.d.now in
    let variables = g.D.Domain.variables c.args.d.now in
    let sys = c.args.semantics.now in
    let r = c.in_ok-reach.reach in
    let is = c.in_ok-reach.ensures in
    record {
      extends = extends-same first;
      same_variables = refl;
      reach = reach_first (first c.args.condition.now) (seen_term first c.args.start.now.term) (StepsBy sys c.args.program.now) (InCut sys.cons c.args.cuts.now) variables sys (judged_by g.J.Drops.Allows g.J.Drops.Keeps variables (first c.args.condition.now ∷ [])) first r
          c.requires.condition c.requires.start is.met is.long is.halted is.dropped (start_settled (g.J.Drops.Keeps variables) (first c.args.condition.now));
      answered = answered_nil c.args.answers.now.items r.dropped is.dropped;
    }

pub level-requires-clause-leaves : goal.level-requires-clause-leaves
level-requires-clause-leaves g c =
    let look = g.D.Domain.look in
    let variables = g.D.Domain.variables c.args.d.now in
    let sys = c.args.semantics.now in
    let first = look c.args.d.now in
    let now = look c.loop-level.d in
    let r = c.loop-level.reach in
    open_leaves (first c.args.condition.now) (seen_term first c.args.start.now.term) (StepsBy sys c.args.program.now) (InCut sys.cons c.args.cuts.now) variables sys (judged_by g.J.Drops.Allows g.J.Drops.Keeps variables (first c.args.condition.now ∷ [])) c.loop-level._level now now (extends-same now) r r r
    c.as_slice.result.now c.as_slice.ensures c.loop-level.invariant.reach

pub loop-level-preserved : goal.loop-level-preserved
loop-level-preserved g c =
    let look = g.D.Domain.look in
    let variables = g.D.Domain.variables c.args.d.now in
    let Judged = judged_by g.J.Drops.Allows g.J.Drops.Keeps in
    let sys = c.args.semantics.now in
    let Steps = StepsBy sys c.args.program.now in
    let In = InCut sys.cons c.args.cuts.now in
    let first = look c.args.d.now in
    let cs = first c.args.condition.now ∷ [] in
    let now = look c.loop-level.d in
    let after = look c.level.new.d in
    let at = c.loop-level.invariant in
    let r = c.loop-level.reach in
    let s = c.in_ok-more.more in
    let all = c.in_ok-reach-2.reach in
    let is = c.in_ok-reach-2.ensures in
    let P = NextOf Steps In (λ v rules t. Gives v rules t (seen_leaves now c.as_slice.result.now)) in
    let bs = conditions_of now c.as_slice.result.now in
    let made = reach_now variables (g.D.Domain.variables c.loop-level.d) at.same_variables bs bs refl sys Judged P (seen_reach after s) c.in_ok-more.ensures.reach in
    let more = reach_judged variables sys (Judged variables bs) (Judged variables cs) (judged_more g.J.Drops.Allows g.J.Drops.Keeps variables bs cs (slice_settled (IsSettled (g.J.Drops.Keeps variables) cs) now r.long c.as_slice.result.now c.as_slice.ensures at.reach.long_kept)) P (seen_reach after s) made in
    record {
      extends = extends-both _ _ _ at.extends c.level.ensures.extends;
      same_variables = c.level.ensures.same_variables ∙ at.same_variables;
      reach = reach_next (first c.args.condition.now) (seen_term first c.args.start.now.term) Steps In variables sys (Judged variables cs) c.loop-level._level now after c.level.ensures.extends r s all c.as_slice.result.now c.as_slice.ensures at.reach
          more is.met is.long is.halted is.dropped;
      answered = answered_joined c.args.answers.now.items c.loop-level.answers.items c.level.new.answers.items r.dropped s.dropped all.dropped is.dropped at.answered c.in_ok-more.ensures.answered;
    }

pub halt_all-requires-clause-leaves : goal.halt_all-requires-clause-leaves
halt_all-requires-clause-leaves g c =
    let look = g.D.Domain.look in
    let variables = g.D.Domain.variables c.args.d.now in
    let sys = c.args.semantics.now in
    let first = look c.args.d.now in
    let now = look c.loop-level.d in
    let r = c.loop-level.reach in
    open_leaves (first c.args.condition.now) (seen_term first c.args.start.now.term) (StepsBy sys c.args.program.now) (InCut sys.cons c.args.cuts.now) variables sys (judged_by g.J.Drops.Allows g.J.Drops.Keeps variables (first c.args.condition.now ∷ [])) c.loop-level._level now now (extends-same now) r r r
    c.as_slice-2.result.now c.as_slice-2.ensures c.loop-level.invariant.reach

pub returns-clause-extends : goal.returns-clause-extends
returns-clause-extends g c = extends-both _ _ _ c.loop-level.invariant.extends c.halt_all.ensures.extends

pub returns-clause-reach : goal.returns-clause-reach
returns-clause-reach g c =
    let look = g.D.Domain.look in
    let variables = g.D.Domain.variables c.args.d.now in
    let Judged = judged_by g.J.Drops.Allows g.J.Drops.Keeps in
    let sys = c.args.semantics.now in
    let Steps = StepsBy sys c.args.program.now in
    let In = InCut sys.cons c.args.cuts.now in
    let first = look c.args.d.now in
    let cs = first c.args.condition.now ∷ [] in
    let now = look c.loop-level.d in
    let after = look c.halt_all.new.d in
    let at = c.loop-level.invariant in
    let is = c.in_ok-joined.ensures in
    let end : c.loop-level._level ≡ c.args.steps = omega (arith, c.loop-level-test.false, c.loop-level.auto._level-end) in
    let P = StopsOf Steps (λ v rules t. Gives v rules t (seen_leaves now c.as_slice-2.result.now)) in
    let bs = conditions_of now c.as_slice-2.result.now in
    let made = reach_now variables (g.D.Domain.variables c.loop-level.d) at.same_variables bs bs refl sys Judged P (seen_reach after c.in_ok-halted.halted) c.in_ok-halted.ensures.reach in
    let halted = reach_judged variables sys (Judged variables bs) (Judged variables cs) (judged_more g.J.Drops.Allows g.J.Drops.Keeps variables bs cs (slice_settled (IsSettled (g.J.Drops.Keeps variables) cs) now c.loop-level.reach.long c.as_slice-2.result.now c.as_slice-2.ensures at.reach.long_kept)) P (seen_reach after c.in_ok-halted.halted) made in
    reach_last (first c.args.condition.now) (seen_term first c.args.start.now.term) Steps In variables sys (Judged variables cs) c.loop-level._level now after c.halt_all.ensures.extends c.loop-level.reach c.in_ok-halted.halted c.in_ok-joined.field-0 c.as_slice-2.result.now c.as_slice-2.ensures at.reach
    c.args.steps end halted (record { met = is.met; long = is.long; halted = is.halted; dropped = is.dropped })

pub returns-clause-answered : goal.returns-clause-answered
returns-clause-answered g c =
    answered_joined c.args.answers.now.items c.loop-level.answers.items c.halt_all.new.answers.items c.loop-level.reach.dropped c.in_ok-halted.halted.dropped c.in_ok-joined.field-0.dropped c.in_ok-joined.ensures.dropped c.loop-level.invariant.answered c.in_ok-halted.ensures.answered
