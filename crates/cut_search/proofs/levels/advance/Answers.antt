use Rattle.std.proofs.Common.{◌≡◌, sym, subst, ◌∙◌, [], ◌∷◌}
use Rattle.data_value.proofs.Grown.{extends-both}
use Rattle.sort_term.specs.Step.{StepsBy}
use Rattle.sort_term.specs.Cuts.{InCut}
use Rattle.path_condition.specs.Leaves.{seen_leaf, seen_leaves, Says, Gives}
use Rattle.path_condition.proofs.LeafLemmas.{leaf_stays}
use Rattle.symbolic_step.specs.OneStep.{IsStuckWhere}
use Rattle.cut_search.specs.Found.{under, seen_reach, IsReach, SplitOf, MovedOf, StopsOf, NextOf, judged_by}
use Rattle.cut_search.proofs.Giving.{answered_joined}
use Rattle.cut_search.proofs.Reaching.{reach_joined}
use Rattle.cut_search.proofs.Kept.{leaf_later, leaf_valid, condition_stays, under_leaf, reach_now, moved_stops, advance_joins, one_before}
use Rattle.cut_search.proofs.levels.advance.Goals as goal

pub halt-requires-clause-state : goal.halt-requires-clause-state
halt-requires-clause-state g c =
    let x = extends-both _ _ _ c.next.ensures.extends c.split_all.ensures.extends in
    leaf_valid (g.D.Domain.look c.split_all.new.d) c.args.semantics.now c.args.leaf.now (leaf_later (g.D.Domain.look c.args.d.now) (g.D.Domain.look c.split_all.new.d) x c.args.semantics.now c.args.leaf.now c.requires.leaf)

pub halt-requires-clause-stuck : goal.halt-requires-clause-stuck
halt-requires-clause-stuck g c = condition_stays (g.D.Domain.look c.next.new.d) (g.D.Domain.look c.split_all.new.d) c.split_all.ensures.extends c.in_ok-leaves.field-0.stuck c.in_ok-leaves.ensures.stuck.condition

pub returns-in_err-halted-clause-extends : goal.returns-in_err-halted-clause-extends
returns-in_err-halted-clause-extends g c = extends-both _ _ _ c.next.ensures.extends (extends-both _ _ _ c.split_all.ensures.extends c.halt.ensures.extends)

pub returns-in_err-joined-clause-extends : goal.returns-in_err-joined-clause-extends
returns-in_err-joined-clause-extends g c = extends-both _ _ _ c.next.ensures.extends (extends-both _ _ _ c.split_all.ensures.extends c.halt.ensures.extends)

pub returns-clause-extends : goal.returns-clause-extends
returns-clause-extends g c = extends-both _ _ _ c.next.ensures.extends (extends-both _ _ _ c.split_all.ensures.extends c.halt.ensures.extends)

pub returns-clause-reach : goal.returns-clause-reach
returns-clause-reach g c =
    let look = g.D.Domain.look in
    let variables = g.D.Domain.variables c.args.d.now in
    let Judged = judged_by g.J.Drops.Allows g.J.Drops.Keeps in
    let sys = c.args.semantics.now in
    let Steps = StepsBy sys c.args.program.now in
    let In = InCut sys.cons c.args.cuts.now in
    let first = look c.args.d.now in
    let second = look c.next.new.d in
    let third = look c.split_all.new.d in
    let last = look c.halt.new.d in
    let to_third = extends-both _ _ _ c.next.ensures.extends c.split_all.ensures.extends in
    let leaf = c.args.leaf.now in
    let before = first leaf.condition in
    let l = seen_leaf first leaf in
    let ls = seen_leaves second c.in_ok-leaves.field-0.leaves in
    let n = c.in_ok-leaves.field-0.stuck in
    let stuck = c.in_ok-leaves.ensures.stuck in
    let same_stuck : third n ≡ second n = c.split_all.ensures.extends.keeps n stuck.condition.valid in
    let stuck_now : IsStuckWhere variables Steps l (third n) = subst (λ s. IsStuckWhere variables Steps l s) (sym same_stuck) stuck in
    let cut = c.in_ok-cut.cut in
    let halted = c.in_ok-halted.halted in
    let all = c.in_ok-joined.field-0 in
    let is = c.in_ok-joined.ensures in
    let third_variables : g.D.Domain.variables c.split_all.new.d ≡ variables = c.split_all.ensures.same_variables ∙ c.next.ensures.same_variables in
    let split_made : IsReach (g.D.Domain.variables c.next.new.d) sys (Judged (g.D.Domain.variables c.next.new.d) (second leaf.condition ∷ [])) (SplitOf In (λ v rules t. Gives v rules t ls)) (seen_reach third cut) =
    subst (λ ks. IsReach (g.D.Domain.variables c.next.new.d) sys (Judged (g.D.Domain.variables c.next.new.d) (second leaf.condition ∷ [])) (SplitOf In (λ v rules t. Gives v rules t (seen_leaves second ks))) (seen_reach third cut)) c.as_slice.ensures c.in_ok-cut.ensures.reach in
    let is_cut = reach_now variables (g.D.Domain.variables c.next.new.d) c.next.ensures.same_variables (before ∷ []) (second leaf.condition ∷ []) (one_before first second c.next.ensures.extends leaf.condition c.requires.leaf.condition) sys Judged (SplitOf In (λ v rules t. Gives v rules t ls)) (seen_reach third cut) split_made in
    let halt_made = c.in_ok-halted.ensures.reach sys (under_leaf sys (third n) (seen_leaf third leaf) stuck_now.condition (leaf_later first third to_third sys leaf c.requires.leaf)) in
    let halt_here = reach_now variables (g.D.Domain.variables c.split_all.new.d) third_variables (before ∷ []) (third leaf.condition ∷ []) (one_before first third to_third leaf.condition c.requires.leaf.condition) sys Judged (MovedOf (λ v rules t. Says v rules t (under (third n) (seen_leaf third leaf)))) (seen_reach last halted) halt_made in
    let is_halted = moved_stops variables sys (Judged variables (before ∷ [])) Steps l (third n) stuck_now (seen_reach last halted)
    (subst (λ k. IsReach variables sys (Judged variables (before ∷ [])) (MovedOf (λ v rules t. Says v rules t (under (third n) k))) (seen_reach last halted)) (leaf_stays first third to_third sys leaf c.requires.leaf) halt_here) in
    reach_joined third last c.halt.ensures.extends variables sys (Judged variables (before ∷ [])) (SplitOf In (λ v rules t. Gives v rules t ls)) (StopsOf Steps (λ v rules t. Says v rules t l)) (NextOf Steps In (λ v rules t. Says v rules t l)) cut halted all
    (advance_joins variables sys (Judged variables (before ∷ [])) Steps In l ls c.in_ok-leaves.ensures.leaves)
    (record { met = is.met; long = is.long; halted = is.halted; dropped = is.dropped })
    is_cut is_halted

pub returns-clause-answered : goal.returns-clause-answered
returns-clause-answered g c =
    answered_joined c.args.answers.now.items c.split_all.new.answers.items c.halt.new.answers.items c.in_ok-cut.cut.dropped c.in_ok-halted.halted.dropped c.in_ok-joined.field-0.dropped c.in_ok-joined.ensures.dropped c.in_ok-cut.ensures.answered c.in_ok-halted.ensures.answered
