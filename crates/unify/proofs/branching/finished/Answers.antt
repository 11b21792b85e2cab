use Rattle.std.proofs.Common.{arith, refl, ◌≤◌, ◌+◌, [], ◌∷◌, length, take, sym, subst, ◌∙◌}
use Rattle.std.proofs.lemmas.List.{take_all, length-map}
use Rattle.std.proofs.lemmas.List.Elements.{All-get_or}
use Rattle.data_value.proofs.Grown.{extends-both, extends-same}
use Rattle.unify.specs.Meets.{seen_matching}
use Rattle.unify.specs.Branches.{seen_branches}
use Rattle.unify.specs.Matchings.{seen_matchings, Binds, BoundBy, BranchesOf}
use Rattle.unify.proofs.Carried.{lawful_nodes, matching_stays, branches_appended, seen_at, seen_below}
use Rattle.unify.proofs.Ending.{branches_none, branches_more}
use Rattle.unify.proofs.branching.finished.Goals as goal

pub loop-matching-init : goal.loop-matching-init
loop-matching-init g c = record {
  extends = extends-same (g.D.Domain.look c.args.d.now);
  same_variables = refl;
  made = subst (λ bs. BranchesOf {N = g.row.D-Node.Denot} c.args.semantics.now c.args.rule.now [] (seen_branches (g.D.Domain.look c.args.d.now) bs)) (sym c.new-branches.ensures) (branches_none {N = g.row.D-Node.Denot} c.args.semantics.now c.args.rule.now);
}

pub ended-requires-clause-matching : goal.ended-requires-clause-matching
ended-requires-clause-matching g c =
    let look = g.D.Domain.look in
    let old = look c.args.d.now in
    let now = look c.loop-matching.d in
    let sys = c.args.semantics.now in
    let r = c.args.rule.now in
    let P = Binds sys.cons r.vars (BoundBy r (length r.demands)) in
    let olds = seen_matchings old c.args.matchings.now in
    let m = seen_matching old c.matching-item.result in
    let i = c.loop-matching.matching-index in
    let il = seen_below (seen_matching old) c.args.matchings.now i c.loop-matching-test.true in
    let is = seen_at (seen_matching old) c.args.matchings.now i c.matching-item.result c.loop-matching-test.true c.matching-item.is in
    let b : P m = subst P (sym is) (All-get_or P olds i m il c.requires.matchings) in
    let kept = matching_stays old now c.loop-matching.invariant.extends c.matching-item.result (lawful_nodes sys.cons r.vars m b.lawful) in
    subst P (sym kept) b

pub loop-matching-preserved : goal.loop-matching-preserved
loop-matching-preserved g c =
    let look = g.D.Domain.look in
    let old = look c.args.d.now in
    let now = look c.loop-matching.d in
    let sys = c.args.semantics.now in
    let r = c.args.rule.now in
    let P = Binds sys.cons r.vars (BoundBy r (length r.demands)) in
    let olds = seen_matchings old c.args.matchings.now in
    let m = seen_matching old c.matching-item.result in
    let i = c.loop-matching.matching-index in
    let il = seen_below (seen_matching old) c.args.matchings.now i c.loop-matching-test.true in
    let is = seen_at (seen_matching old) c.args.matchings.now i c.matching-item.result c.loop-matching-test.true c.matching-item.is in
    let b : P m = subst P (sym is) (All-get_or P olds i m il c.requires.matchings) in
    let kept = matching_stays old now c.loop-matching.invariant.extends c.matching-item.result (lawful_nodes sys.cons r.vars m b.lawful) in
    let next = look c.ended.new.d in
    let before = seen_branches now c.loop-matching.branches in
    let more = seen_branches next c.in_ok-more.more in
    let made : BranchesOf sys r (m ∷ []) more = subst (λ x. BranchesOf sys r (x ∷ []) more) kept c.in_ok-more.ensures.branches in
    record {
      extends = extends-both old now next c.loop-matching.invariant.extends c.in_ok-more.ensures.extends;
      same_variables = c.in_ok-more.ensures.same_variables ∙ c.loop-matching.invariant.same_variables;
      made = subst (BranchesOf sys r (take (i + 1) olds)) (sym (branches_appended now next c.in_ok-more.ensures.extends sys c.loop-matching.branches c.in_ok-more.more _ c.loop-matching.invariant.made.each c.in_ok-append.ensures))
          (branches_more sys r olds i m before more il is c.loop-matching.invariant.made made);
    }

pub returns-clause-branches : goal.returns-clause-branches
returns-clause-branches g c =
    let old = g.D.Domain.look c.args.d.now in
    let olds = seen_matchings old c.args.matchings.now in
    let long = length-map c.args.matchings.now (seen_matching old) in
    let end : length olds ≤ c.loop-matching.matching-index = omega arith in
    subst (λ ms. BranchesOf c.args.semantics.now c.args.rule.now ms (seen_branches (g.D.Domain.look c.loop-matching.d) c.loop-matching.branches)) (take_all c.loop-matching.matching-index olds end) c.loop-matching.invariant.made
