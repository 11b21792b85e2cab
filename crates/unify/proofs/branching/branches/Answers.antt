use Rattle.std.proofs.Common.{◌≡◌, length, slice_get, slice_index_or, Some, sym, subst, ap, ◌∙◌}
use Rattle.data_value.specs.Nodes.{IsLawful}
use Rattle.sort_term.specs.NodeTerms.{seen_term}
use Rattle.sort_term.proofs.Standing.{get-some}
use Rattle.sort_term.proofs.StepSorts.{rule_at}
use Rattle.unify.specs.Branches.{seen_branches}
use Rattle.unify.specs.Matchings.{seen_matchings, Started, AllMet, BranchesOf}
use Rattle.unify.proofs.Ending.{are_branches}
use Rattle.unify.specs.Scopes.{rule_scope_of}
use Rattle.unify.proofs.branching.branches.Goals as goal

pub returns-clause-branches : goal.returns-clause-branches
returns-clause-branches g c =
    let look = g.D.Domain.look in
    let old = look c.args.d.now in
    let first = look c.started.new.d in
    let now = look c.after_demands.new.d in
    let variables = g.D.Domain.variables c.args.d.now in
    let sys = c.args.semantics.now in
    let tables = c.args.program.now in
    let n = c.args.rule.0 in
    let r = c.index-as_slice-rule.result in
    let all : c.as_slice.result.now ≡ sys.rules = c.as_slice.ensures ∙ c.rules.ensures.value in
    let is : r ≡ slice_index_or sys.rules n r = rw all at c.index-as_slice-rule.is in
    let there : slice_get sys.rules n ≡ Some r = get-some sys.rules n r c.requires.rule ∙ ap Some (sym is) in
    let same = c.in_ok-matchings-2.ensures.same_variables ∙ c.in_ok-matchings.ensures.same_variables in
    let laws = subst (IsLawful now) same (g.met.D.Domain.laws c.after_demands.new.d) in
    let s = seen_term old c.args.config.now.term in
    let ms = seen_matchings first c.in_ok-matchings.matchings in
    let ns = c.in_ok-matchings-2.matchings in
    let bs = seen_branches (look c.finished.new.d) c.in_ok-finished.field-0 in
    let started : Started sys variables r s ms = subst (λ t. Started sys variables r (seen_term old t) ms) c.term.ensures c.in_ok-matchings.ensures.matchings in
    let met : AllMet (rule_scope_of sys tables variables r) (length r.demands) ms (seen_matchings now ns) = subst (λ vs. AllMet (rule_scope_of sys tables vs r) (length r.demands) ms (seen_matchings now ns)) c.in_ok-matchings.ensures.same_variables c.in_ok-matchings-2.ensures.matchings in
    let ended : BranchesOf sys r (seen_matchings now ns) bs = subst (λ xs. BranchesOf sys r (seen_matchings now xs) bs) c.as_slice-2.ensures c.in_ok-finished.ensures.branches in
    are_branches now variables laws sys tables n r there (rule_at sys n r c.rules.ensures.valid there) s ms ns started met bs ended
