use Rattle.std.proofs.Common.{◌≡◌, true, sym, subst, ◌∙◌, [], ◌∷◌}
use Rattle.data_value.specs.Truth.{truth}
use Rattle.data_value.proofs.Grown.{extends-both}
use Rattle.sort_term.specs.Cuts.{InCut}
use Rattle.path_condition.specs.Leaves.{seen_leaf, seen_leaves, Says}
use Rattle.path_condition.proofs.LeafLemmas.{leaf_stays}
use Rattle.cut_search.specs.Found.{IsReach, IsSifted, SplitOf, judged_by}
use Rattle.cut_search.proofs.Giving.{answered_joined}
use Rattle.cut_search.proofs.Kept.{leaf_later, leaf_valid, condition_stays, sifted_now, sifted_same, sifted_later, sifted_both, seen_divided, outside_says, inside_says, one_before}
use Rattle.cut_search.proofs.splitting.divide.Goals as goal

pub part-requires-clause-state : goal.part-requires-clause-state
part-requires-clause-state g c =
    let x = extends-both _ _ _ c.outside.ensures.extends c.negation.ensures.extends in
    leaf_valid (g.D.Domain.look c.negation.new.d) c.args.semantics.now c.args.leaf.now (leaf_later (g.D.Domain.look c.args.d.now) (g.D.Domain.look c.negation.new.d) x c.args.semantics.now c.args.leaf.now c.requires.leaf)

pub part-requires-2-clause-before : goal.part-requires-2-clause-before
part-requires-2-clause-before g c =
    let x = extends-both _ _ _ c.outside.ensures.extends (extends-both _ _ _ c.negation.ensures.extends c.part.ensures.extends) in
    condition_stays (g.D.Domain.look c.args.d.now) (g.D.Domain.look c.part.new.d) x c.args.before.now c.requires.before

pub part-requires-2-clause-leaf : goal.part-requires-2-clause-leaf
part-requires-2-clause-leaf g c =
    let x = extends-both _ _ _ c.outside.ensures.extends (extends-both _ _ _ c.negation.ensures.extends c.part.ensures.extends) in
    (leaf_later (g.D.Domain.look c.args.d.now) (g.D.Domain.look c.part.new.d) x c.args.semantics.now c.args.leaf.now c.requires.leaf).condition

pub part-requires-2-clause-state : goal.part-requires-2-clause-state
part-requires-2-clause-state g c =
    let x = extends-both _ _ _ c.outside.ensures.extends (extends-both _ _ _ c.negation.ensures.extends c.part.ensures.extends) in
    leaf_valid (g.D.Domain.look c.part.new.d) c.args.semantics.now c.args.leaf.now (leaf_later (g.D.Domain.look c.args.d.now) (g.D.Domain.look c.part.new.d) x c.args.semantics.now c.args.leaf.now c.requires.leaf)

pub returns-in_err-long-clause-extends : goal.returns-in_err-long-clause-extends
returns-in_err-long-clause-extends g c =
    extends-both _ _ _ c.outside.ensures.extends (extends-both _ _ _ c.negation.ensures.extends (extends-both _ _ _ c.part.ensures.extends c.part-2.ensures.extends))

pub returns-in_err-divided-clause-extends : goal.returns-in_err-divided-clause-extends
returns-in_err-divided-clause-extends g c =
    extends-both _ _ _ c.outside.ensures.extends (extends-both _ _ _ c.negation.ensures.extends (extends-both _ _ _ c.part.ensures.extends c.part-2.ensures.extends))

pub returns-clause-extends : goal.returns-clause-extends
returns-clause-extends g c =
    extends-both _ _ _ c.outside.ensures.extends (extends-both _ _ _ c.negation.ensures.extends (extends-both _ _ _ c.part.ensures.extends c.part-2.ensures.extends))

pub returns-clause-reach : goal.returns-clause-reach
returns-clause-reach g c =
    let look = g.D.Domain.look in
    let variables = g.D.Domain.variables c.args.d.now in
    let Judged = judged_by g.J.Drops.Allows g.J.Drops.Keeps in
    let sys = c.args.semantics.now in
    let cuts = c.args.cuts.now in
    let first = look c.args.d.now in
    let second = look c.negation.new.d in
    let third = look c.part.new.d in
    let last = look c.part-2.new.d in
    let to_second = extends-both _ _ _ c.outside.ensures.extends c.negation.ensures.extends in
    let to_third = extends-both _ _ _ to_second c.part.ensures.extends in
    let before = first c.args.before.now in
    let leaf = c.args.leaf.now in
    let l = seen_leaf first leaf in
    let o = look c.outside.new.d c.in_ok-outside.outside in
    let i = second c.in_ok-inside.inside in
    let is_outside = c.in_ok-outside.ensures.outside in
    let met = c.in_ok-met.met in
    let long = c.in_ok-long.long in
    let second_variables : g.D.Domain.variables c.negation.new.d ≡ variables = c.negation.ensures.same_variables ∙ c.outside.ensures.same_variables in
    let third_variables : g.D.Domain.variables c.part.new.d ≡ variables = c.part.ensures.same_variables ∙ second_variables in
    let same_outside : third c.in_ok-outside.outside ≡ o = (extends-both _ _ _ c.negation.ensures.extends c.part.ensures.extends).keeps c.in_ok-outside.outside is_outside.condition.valid in
    let met_made = sifted_now variables (g.D.Domain.variables c.negation.new.d) second_variables (before ∷ []) (second c.args.before.now ∷ []) (one_before first second to_second c.args.before.now c.requires.before) sys Judged (λ v rules t. Says v rules t (seen_leaf second leaf) × (truth i v ≡ true)) (seen_leaves third met.kept) (seen_leaves third met.dropped)
    (c.in_ok-met.ensures.sifted sys (leaf_later first second to_second sys leaf c.requires.leaf)) in
    let met_here : IsSifted variables sys (Judged variables (before ∷ [])) (λ v rules t. Says v rules t l × (truth i v ≡ true)) (seen_leaves third met.kept) (seen_leaves third met.dropped) =
    subst (λ k. IsSifted variables sys (Judged variables (before ∷ [])) (λ v rules t. Says v rules t k × (truth i v ≡ true)) (seen_leaves third met.kept) (seen_leaves third met.dropped)) (leaf_stays first second to_second sys leaf c.requires.leaf) met_made in
    let is_met = sifted_later variables sys (Judged variables (before ∷ [])) third last c.part-2.ensures.extends (λ v rules t. Says v rules t l × InCut sys.cons cuts t) met.kept met.dropped
    (sifted_same variables sys (Judged variables (before ∷ [])) (λ v rules t. Says v rules t l × (truth i v ≡ true)) (λ v rules t. Says v rules t l × InCut sys.cons cuts t) (seen_leaves third met.kept) (seen_leaves third met.dropped)
    (λ v fits rules t x. (inside_says variables sys cuts l o is_outside i c.in_ok-inside.ensures.means v fits rules t).0 x)
    (λ v fits rules t x. (inside_says variables sys cuts l o is_outside i c.in_ok-inside.ensures.means v fits rules t).1 x)
    met_here) in
    let long_made = sifted_now variables (g.D.Domain.variables c.part.new.d) third_variables (before ∷ []) (third c.args.before.now ∷ []) (one_before first third to_third c.args.before.now c.requires.before) sys Judged (λ v rules t. Says v rules t (seen_leaf third leaf) × (truth (third c.in_ok-outside.outside) v ≡ true)) (seen_leaves last long.kept) (seen_leaves last long.dropped)
    (c.in_ok-long.ensures.sifted sys (leaf_later first third to_third sys leaf c.requires.leaf)) in
    let long_here : IsSifted variables sys (Judged variables (before ∷ [])) (λ v rules t. Says v rules t l × (truth o v ≡ true)) (seen_leaves last long.kept) (seen_leaves last long.dropped) =
    subst (λ s. IsSifted variables sys (Judged variables (before ∷ [])) (λ v rules t. Says v rules t l × (truth s v ≡ true)) (seen_leaves last long.kept) (seen_leaves last long.dropped)) same_outside
    (subst (λ k. IsSifted variables sys (Judged variables (before ∷ [])) (λ v rules t. Says v rules t k × (truth (third c.in_ok-outside.outside) v ≡ true)) (seen_leaves last long.kept) (seen_leaves last long.dropped)) (leaf_stays first third to_third sys leaf c.requires.leaf) long_made) in
    let is_long = sifted_same variables sys (Judged variables (before ∷ [])) (λ v rules t. Says v rules t l × (truth o v ≡ true)) (λ v rules t. Says v rules t l × (¬ InCut sys.cons cuts t)) (seen_leaves last long.kept) (seen_leaves last long.dropped)
    (λ v fits rules t x. (outside_says variables sys cuts l o is_outside v fits rules t).0 x)
    (λ v fits rules t x. (outside_says variables sys cuts l o is_outside v fits rules t).1 x)
    long_here in
    let r = c.in_ok-divided.field-0 in
    let is = c.in_ok-divided.ensures in
    subst (IsReach variables sys (Judged variables (before ∷ [])) (SplitOf (InCut sys.cons cuts) (λ v rules t. Says v rules t l))) (sym (seen_divided last met.kept long.kept met.dropped long.dropped r is.met is.long is.halted is.dropped))
    (sifted_both variables sys (Judged variables (before ∷ [])) (λ v rules t. Says v rules t l × InCut sys.cons cuts t) (λ v rules t. Says v rules t l × (¬ InCut sys.cons cuts t)) (λ v rules t. Says v rules t l)
    (seen_leaves last met.kept) (seen_leaves last met.dropped) (seen_leaves last long.kept) (seen_leaves last long.dropped) (λ v fits rules t x. x.0) (λ v fits rules t x. x.0) is_met is_long)

pub returns-clause-answered : goal.returns-clause-answered
returns-clause-answered g c =
    answered_joined c.args.answers.now.items c.part.new.answers.items c.part-2.new.answers.items c.in_ok-met.met.dropped c.in_ok-long.long.dropped c.in_ok-divided.field-0.dropped c.in_ok-divided.ensures.dropped c.in_ok-met.ensures.answered c.in_ok-long.ensures.answered
