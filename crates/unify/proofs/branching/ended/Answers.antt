use Rattle.std.proofs.Common.{false, ◌∙◌, ◌≡◌, [], ◌∷◌, IsSome, All, map, sym, subst}
use Rattle.sort_term.specs.Sorted.{expr_sort_where}
use Rattle.sort_term.specs.NodeTerms.{seen_term}
use Rattle.unify.specs.Binds.{bound_sort, AreValid, Gives}
use Rattle.data_value.specs.Truth.{IsCondition}
use Rattle.unify.specs.Meets.{seen_matching}
use Rattle.data_value.specs.Truth.{IsTruth, all_true}
use Rattle.unify.proofs.Evaluated.{binds_stay}
use Rattle.unify.proofs.Binding.{binds_valid}
use Rattle.data_value.proofs.Grown.{extends-both}
use Rattle.unify.specs.Branches.{SeenBranch, seen_branches}
use Rattle.unify.specs.Matchings.{BranchesOf}
use Rattle.unify.proofs.Ending.{result_some, branch_made, branch_dead}
use Rattle.unify.proofs.KnownEquations.{known_is, not_known}
use Rattle.unify.proofs.branching.ended.Goals as goal

pub all-requires : goal.all-requires
all-requires g c = subst (λ es. All IsCondition (map (g.D.Domain.look c.args.d.now) es)) (sym c.as_slice.ensures) c.requires.matching.lawful.equations

pub evaluate-requires-clause-valid : goal.evaluate-requires-clause-valid
evaluate-requires-clause-valid g c =
    let look = g.D.Domain.look in
    let old = look c.args.d.now in
    let now = look c.all.new.d in
    let sys = c.args.semantics.now in
    let r = c.args.rule.now in
    let m = seen_matching old c.args.matching.now in
    let b = c.requires.matching in
    let kept = binds_stay old now c.in_ok-condition.ensures.extends c.args.matching.now.binds (binds_valid sys.cons r.vars m.binds b.lawful.binds) in
    subst AreValid (sym kept) (binds_valid sys.cons r.vars m.binds b.lawful.binds)

pub evaluate-requires-clause-sorted : goal.evaluate-requires-clause-sorted
evaluate-requires-clause-sorted g c =
    let look = g.D.Domain.look in
    let old = look c.args.d.now in
    let now = look c.all.new.d in
    let sys = c.args.semantics.now in
    let r = c.args.rule.now in
    let m = seen_matching old c.args.matching.now in
    let b = c.requires.matching in
    let kept = binds_stay old now c.in_ok-condition.ensures.extends c.args.matching.now.binds (binds_valid sys.cons r.vars m.binds b.lawful.binds) in
    subst (λ bs. IsSome (expr_sort_where sys.cons (bound_sort sys.cons bs) r.result)) (sym kept) (result_some sys r c.requires.rule m b)

pub returns-then-is_known_as-clause-branches : goal.returns-then-is_known_as-clause-branches
returns-then-is_known_as-clause-branches g c =
    let look = g.D.Domain.look in
    let old = look c.args.d.now in
    let now = look c.all.new.d in
    let sys = c.args.semantics.now in
    let r = c.args.rule.now in
    let m = seen_matching old c.args.matching.now in
    let s = c.in_ok-condition.condition in
    let all : IsTruth (now s) (all_true m.equations) = subst (λ es. IsTruth (now s) (all_true (map old es))) c.as_slice.ensures c.in_ok-condition.ensures.means in
    subst (λ bs. BranchesOf sys r (m ∷ []) (seen_branches now bs)) (sym c.new.ensures)
    (branch_dead sys r m (now s) all ((g.met.D.Domain.laws c.all.new.d).known s _ all.condition.valid (known_is false (now s) (sym c.is_known_as.ensures ∙ c.if-is_known_as.true))))

pub returns-in_err-push-clause-extends : goal.returns-in_err-push-clause-extends
returns-in_err-push-clause-extends g c = extends-both _ _ _ c.in_ok-condition.ensures.extends c.in_ok-result.ensures.extends

pub returns-clause-extends : goal.returns-clause-extends
returns-clause-extends g c = extends-both _ _ _ c.in_ok-condition.ensures.extends c.in_ok-result.ensures.extends

pub returns-clause-branches : goal.returns-clause-branches
returns-clause-branches g c =
    let look = g.D.Domain.look in
    let old = look c.args.d.now in
    let now = look c.all.new.d in
    let sys = c.args.semantics.now in
    let r = c.args.rule.now in
    let m = seen_matching old c.args.matching.now in
    let s = c.in_ok-condition.condition in
    let all : IsTruth (now s) (all_true m.equations) = subst (λ es. IsTruth (now s) (all_true (map old es))) c.as_slice.ensures c.in_ok-condition.ensures.means in
    let b = c.requires.matching in
    let kept = binds_stay old now c.in_ok-condition.ensures.extends c.args.matching.now.binds (binds_valid sys.cons r.vars m.binds b.lawful.binds) in
    let next = look c.evaluate.new.d in
    let t = seen_term next c.in_ok-result.«result» in
    let same : next s ≡ now s = c.in_ok-result.ensures.extends.keeps s all.condition.valid in
    let live = not_known false (now s) (sym c.is_known_as.ensures ∙ c.if-is_known_as.false) in
    let made : SeenBranch _ = record { condition = now s; result = t } in
    let is = branch_made sys r c.requires.rule m b made all (subst (λ bs. Gives sys.cons bs r.result t) kept c.in_ok-result.ensures.value) live in
    rw (c.in_ok-push.ensures.ok, c.new-branches.ensures, same, c.new-2.ensures) is
