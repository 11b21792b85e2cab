use Rattle.std.proofs.Common.{◌≡◌, ◌+◌, ◌≤◌, ◌||◌, arith, length, take, sym, ap, subst, ◌∙◌}
use Rattle.std.proofs.lemmas.List.{take_all, length-map}
use Rattle.data_value.specs.Truth.{IsCondition, IsTruth, truth}
use Rattle.data_value.proofs.Grown.{extends-both}
use Rattle.unify.specs.Branches.{seen_branch, seen_branches}
use Rattle.unify.proofs.Carried.{seen_at, seen_below}
use Rattle.path_condition.specs.Leaves.{seen_leaves}
use Rattle.symbolic_step.specs.OneStep.{seen_path}
use Rattle.symbolic_step.specs.Ends.{IsTakenTo, AreTaken, some_holds}
use Rattle.symbolic_step.proofs.TakenLemmas.{holds_more}
use Rattle.symbolic_step.proofs.RuleLemmas.{path_stays, branches_kept, branch_at, branch_same, branch_at_now, branch_valid, taken_pushed, taken_kept, taken_by_rule, holds_applies}
use Rattle.symbolic_step.proofs.by_rule.by_rule.Goals.{in-Some+in_ok-push, in_default}
use Rattle.symbolic_step.proofs.by_rule.by_rule.Goals as goal

pub taken-requires-clause-condition : goal.taken-requires-clause-condition
taken-requires-clause-condition g c =
    let look = g.D.Domain.look in
    let first = look c.flag.new.d in
    let sys = c.args.semantics.now in
    let are = branches_kept (look c.branches.new.d) first c.in_ok-applies.ensures.extends sys _ _ _ _ c.in_ok-found.found c.as_slice-branch-items.result.now c.as_slice-branch-items.ensures c.in_ok-found.ensures.branches in
    (branch_at_now first (look c.loop-branch.d) c.loop-branch.invariant.extends sys c.as_slice-branch-items.result.now c.loop-branch.branch-index c.branch-item.result c.loop-branch-test.true c.branch-item.is are.each).condition

pub taken-requires-clause-result : goal.taken-requires-clause-result
taken-requires-clause-result g c =
    let look = g.D.Domain.look in
    let first = look c.flag.new.d in
    let sys = c.args.semantics.now in
    let are = branches_kept (look c.branches.new.d) first c.in_ok-applies.ensures.extends sys _ _ _ _ c.in_ok-found.found c.as_slice-branch-items.result.now c.as_slice-branch-items.ensures c.in_ok-found.ensures.branches in
    branch_valid first (look c.loop-branch.d) c.loop-branch.invariant.extends sys c.as_slice-branch-items.result.now c.loop-branch.branch-index c.branch-item.result c.loop-branch-test.true c.branch-item.is are.each

pub returns-in_err-push-clause-extends : goal.returns-in_err-push-clause-extends
returns-in_err-push-clause-extends g c =
    extends-both _ _ _ c.in_ok-found.ensures.extends (extends-both _ _ _ c.in_ok-applies.ensures.extends (extends-both _ _ _ c.loop-branch.invariant.extends c.in_ok-leaf.ensures.extends))

pub either-requires-clause-first : goal.either-requires-clause-first
either-requires-clause-first g c = subst IsCondition (sym (c.in_ok-leaf.ensures.extends.keeps c.loop-branch.applies c.loop-branch.invariant.applies.condition.valid)) c.loop-branch.invariant.applies.condition

pub either-requires-clause-second : goal.either-requires-clause-second
either-requires-clause-second g c =
    let look = g.D.Domain.look in
    let first = look c.flag.new.d in
    let sys = c.args.semantics.now in
    let are = branches_kept (look c.branches.new.d) first c.in_ok-applies.ensures.extends sys _ _ _ _ c.in_ok-found.found c.as_slice-branch-items.result.now c.as_slice-branch-items.ensures c.in_ok-found.ensures.branches in
    let grown = extends-both _ _ _ c.loop-branch.invariant.extends c.in_ok-leaf.ensures.extends in
    (branch_at_now first (look c.taken.new.d) grown sys c.as_slice-branch-items.result.now c.loop-branch.branch-index c.branch-item.result c.loop-branch-test.true c.branch-item.is are.each).condition

pub returns-in_err-applies-2-clause-extends : goal.returns-in_err-applies-2-clause-extends
returns-in_err-applies-2-clause-extends g c =
    extends-both _ _ _ c.in_ok-found.ensures.extends (extends-both _ _ _ c.in_ok-applies.ensures.extends (extends-both _ _ _ c.loop-branch.invariant.extends (extends-both _ _ _ c.in_ok-leaf.ensures.extends c.in_err-applies-2.ensures.extends)))

pub loop-branch-preserved : goal.loop-branch-preserved
loop-branch-preserved g c =
    let look = g.D.Domain.look in
    let first = look c.flag.new.d in
    let now = look c.loop-branch.d in
    let made = look c.taken.new.d in
    let after = look c.either.new.d in
    let sys = c.args.semantics.now in
    let items = c.as_slice-branch-items.result.now in
    let i = c.loop-branch.branch-index in
    let b = c.branch-item.result in
    let bs = seen_branches first items in
    let path = c.args.path.now in
    let are = branches_kept (look c.branches.new.d) first c.in_ok-applies.ensures.extends sys _ _ _ _ c.in_ok-found.found items c.as_slice-branch-items.ensures c.in_ok-found.ensures.branches in
    let grown_first = extends-both _ _ _ c.in_ok-found.ensures.extends c.in_ok-applies.ensures.extends in
    let is_path : IsCondition (first path.condition) = subst IsCondition (sym (grown_first.keeps path.condition c.requires.path.valid)) c.requires.path in
    let lawful = branch_at first now c.loop-branch.invariant.extends sys items i b c.loop-branch-test.true c.branch-item.is are.each in
    let same_now = branch_same first now c.loop-branch.invariant.extends sys items i b c.loop-branch-test.true c.branch-item.is are.each in
    let grown = extends-both _ _ _ c.loop-branch.invariant.extends c.in_ok-leaf.ensures.extends in
    let same_made = branch_same first made grown sys items i b c.loop-branch-test.true c.branch-item.is are.each in
    let to_after = extends-both _ _ _ c.in_ok-leaf.ensures.extends c.in_ok-applies-2.ensures.extends in
    let il = seen_below (seen_branch first) items i c.loop-branch-test.true in
    let is = seen_at (seen_branch first) items i b c.loop-branch-test.true c.branch-item.is in
    let told : IsTakenTo made (seen_path now path) c.args.rule.0 (seen_branch first b) c.in_ok-leaf.field-0 = subst (λ sb. IsTakenTo made (seen_path now path) c.args.rule.0 sb c.in_ok-leaf.field-0) same_now c.in_ok-leaf.ensures.leaf in
    let s = now c.loop-branch.applies in
    let next = after c.in_ok-applies-2.applies in
    let kept : made c.loop-branch.applies ≡ s = c.in_ok-leaf.ensures.extends.keeps c.loop-branch.applies c.loop-branch.invariant.applies.condition.valid in
    record {
      extends = extends-both _ _ _ c.loop-branch.invariant.extends to_after;
      same_variables = c.in_ok-applies-2.ensures.same_variables ∙ c.in_ok-leaf.ensures.same_variables ∙ c.loop-branch.invariant.same_variables;
      taken = elim c.match-branch-4.branch [
        | in-Some+in_ok-push w ↦ taken_pushed first now after c.loop-branch.invariant.extends to_after sys path is_path c.args.rule.0 bs i (seen_branch first b) il is lawful c.loop-branch.leaves c.loop-branch.invariant.taken
            made c.in_ok-applies-2.ensures.extends c.match-branch-4.leaves w.in-Some.leaf (w.leaves-is ∙ w.in_ok-push.ensures.ok) (subst (IsTakenTo made (seen_path now path) c.args.rule.0 (seen_branch first b)) w.in-Some.is told)
        | in_default w ↦ subst (λ ls. AreTaken sys (seen_path first path) c.args.rule.0 (take (i + 1) bs) (seen_leaves after ls)) (sym w.leaves-is)
            (taken_kept first now after c.loop-branch.invariant.extends to_after sys path is_path c.args.rule.0 bs i (seen_branch first b) il is lawful c.loop-branch.leaves c.loop-branch.invariant.taken
            (subst (IsTakenTo made (seen_path now path) c.args.rule.0 (seen_branch first b)) w.in_default.is told))
      ];
      applies = holds_more bs i (seen_branch first b) s next il is c.loop-branch.invariant.applies
          (subst (λ t. IsTruth next (λ v. truth s v || truth t v)) (ap (λ sb. sb.condition) same_made) (subst (λ t. IsTruth next (λ v. truth t v || truth (made b.condition) v)) kept c.in_ok-applies-2.ensures.means));
    }

pub returns-clause-extends : goal.returns-clause-extends
returns-clause-extends g c = extends-both _ _ _ c.in_ok-found.ensures.extends (extends-both _ _ _ c.in_ok-applies.ensures.extends c.loop-branch.invariant.extends)

pub returns-clause-leaves : goal.returns-clause-leaves
returns-clause-leaves g c =
    let look = g.D.Domain.look in
    let first = look c.flag.new.d in
    let sys = c.args.semantics.now in
    let items = c.as_slice-branch-items.result.now in
    let bs = seen_branches first items in
    let are = branches_kept (look c.branches.new.d) first c.in_ok-applies.ensures.extends sys _ _ _ _ c.in_ok-found.found items c.as_slice-branch-items.ensures c.in_ok-found.ensures.branches in
    let long = length-map items (seen_branch first) in
    let end : length bs ≤ c.loop-branch.branch-index = omega arith in
    let leaves = seen_leaves (look c.loop-branch.d) c.loop-branch.leaves in
    let path = path_stays (look c.args.d.now) first (extends-both _ _ _ c.in_ok-found.ensures.extends c.in_ok-applies.ensures.extends) c.args.path.now c.requires.path in
    let all : AreTaken sys (seen_path first c.args.path.now) c.args.rule.0 bs leaves = subst (λ xs. AreTaken sys (seen_path first c.args.path.now) c.args.rule.0 xs leaves) (take_all c.loop-branch.branch-index bs end) c.loop-branch.invariant.taken in
    taken_by_rule _ sys _ (seen_path (look c.args.d.now) c.args.path.now) c.args.rule.0 _ bs are leaves (subst (λ p. AreTaken sys p c.args.rule.0 bs leaves) path all)

pub returns-clause-applies : goal.returns-clause-applies
returns-clause-applies g c =
    let look = g.D.Domain.look in
    let first = look c.flag.new.d in
    let sys = c.args.semantics.now in
    let items = c.as_slice-branch-items.result.now in
    let bs = seen_branches first items in
    let are = branches_kept (look c.branches.new.d) first c.in_ok-applies.ensures.extends sys _ _ _ _ c.in_ok-found.found items c.as_slice-branch-items.ensures c.in_ok-found.ensures.branches in
    let long = length-map items (seen_branch first) in
    let end : length bs ≤ c.loop-branch.branch-index = omega arith in
    let s = look c.loop-branch.d c.loop-branch.applies in
    let all : IsTruth s (some_holds bs) = subst (λ xs. IsTruth s (some_holds xs)) (take_all c.loop-branch.branch-index bs end) c.loop-branch.invariant.applies in
    holds_applies _ sys _ (seen_path (look c.args.d.now) c.args.path.now) c.args.rule.0 _ bs are s all
