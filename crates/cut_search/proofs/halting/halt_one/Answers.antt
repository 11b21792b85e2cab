use Rattle.std.proofs.Common.{subst, [], ◌∷◌}
use Rattle.sort_term.specs.Step.{StepsBy}
use Rattle.data_value.proofs.Grown.{extends-both}
use Rattle.path_condition.specs.Leaves.{seen_leaf, Says}
use Rattle.path_condition.proofs.LeafLemmas.{leaf_stays}
use Rattle.cut_search.specs.Found.{under, seen_reach, IsReach, MovedOf, judged_by}
use Rattle.cut_search.proofs.Kept.{leaf_later, leaf_valid, under_leaf, reach_now, moved_stops, one_before}
use Rattle.cut_search.proofs.halting.halt_one.Goals as goal

pub halt-requires-clause-leaf : goal.halt-requires-clause-leaf
halt-requires-clause-leaf g c = (leaf_later (g.D.Domain.look c.args.d.now) (g.D.Domain.look c.next.new.d) c.next.ensures.extends c.args.semantics.now c.args.leaf.now c.requires.leaf).condition

pub halt-requires-clause-state : goal.halt-requires-clause-state
halt-requires-clause-state g c =
    leaf_valid (g.D.Domain.look c.next.new.d) c.args.semantics.now c.args.leaf.now (leaf_later (g.D.Domain.look c.args.d.now) (g.D.Domain.look c.next.new.d) c.next.ensures.extends c.args.semantics.now c.args.leaf.now c.requires.leaf)

pub returns-clause-extends : goal.returns-clause-extends
returns-clause-extends g c = extends-both _ _ _ c.next.ensures.extends c.halt.ensures.extends

pub returns-clause-reach : goal.returns-clause-reach
returns-clause-reach g c =
    let look = g.D.Domain.look in
    let variables = g.D.Domain.variables c.args.d.now in
    let Judged = judged_by g.J.Drops.Allows g.J.Drops.Keeps in
    let sys = c.args.semantics.now in
    let before = look c.args.d.now in
    let now = look c.next.new.d in
    let leaf = c.args.leaf.now in
    let l = seen_leaf before leaf in
    let s = now c.in_ok-found.found.stuck in
    let stuck = c.in_ok-found.ensures.stuck in
    let r = seen_reach (look c.halt.new.d) c.in_ok-halt.field-0 in
    let made = c.in_ok-halt.ensures.reach sys (under_leaf sys s (seen_leaf now leaf) stuck.condition (leaf_later before now c.next.ensures.extends sys leaf c.requires.leaf)) in
    let here = reach_now variables (g.D.Domain.variables c.next.new.d) c.next.ensures.same_variables (before leaf.condition ∷ []) (now leaf.condition ∷ []) (one_before before now c.next.ensures.extends leaf.condition c.requires.leaf.condition) sys Judged (MovedOf (λ v rules t. Says v rules t (under s (seen_leaf now leaf)))) r made in
    moved_stops variables sys (Judged variables (before leaf.condition ∷ [])) (StepsBy sys c.args.program.now) l s stuck r
    (subst (λ k. IsReach variables sys (Judged variables (before leaf.condition ∷ [])) (MovedOf (λ v rules t. Says v rules t (under s k))) r) (leaf_stays before now c.next.ensures.extends sys leaf c.requires.leaf) here)
