use Rattle.std.proofs.Common.{arith, refl, ◌≡◌, ◌≤◌, ◌+◌, [], length, take, get_or, sym, subst, ◌∙◌}
use Rattle.std.specs.Prelude.{Any}
use Rattle.std.proofs.lemmas.List.{take_all, length-map}
use Rattle.std.proofs.lemmas.List.Elements.{All-get_or}
use Rattle.data_value.proofs.Grown.{extends-both, extends-same}
use Rattle.sort_term.specs.Step.{Demanded}
use Rattle.unify.specs.Meets.{seen_matching, IsMatching, Fulfils}
use Rattle.unify.specs.Matchings.{seen_matchings, Binds, BoundBy, AreAfter, Together, IsReady, GoOn, demand_times}
use Rattle.unify.proofs.Carried.{lawful_nodes, matching_stays, bound_nodes, appended, seen_at, seen_below}
use Rattle.unify.proofs.GoingOn.{go_on_from}
use Rattle.unify.proofs.Demanding.{next_ready, next_none, next_more, next_all}
use Rattle.unify.specs.Scopes.{scope_of}
use Rattle.unify.proofs.branching.after_demand.Goals as goal

pub loop-matching-init : goal.loop-matching-init
loop-matching-init g c =
    let old = g.D.Domain.look c.args.d.now in
    let variables = g.D.Domain.variables c.args.d.now in
    let sys = c.args.semantics.now in
    let r = c.args.rule.now in
    let d = c.index-as_slice-place.result in
    let ds : c.as_slice.result.now ≡ r.demands = c.as_slice.ensures in
    let e : d ≡ get_or r.demands c.args.place d = rw ds at c.index-as_slice-place.is in
    record {
      extends = extends-same old;
      same_variables = refl;
      next = subst (λ ms. AreAfter sys r (c.args.place + 1) (seen_matchings old ms) × Together variables (seen_matchings old ms) (λ v w. Any (Fulfils {N = g.row.D-Node.Denot} v w) [] × Demanded c.args.program.now w d)) (sym c.new-found.ensures)
          (next_none sys r c.requires.rule c.args.place d c.requires.place e c.args.program.now variables);
    }

pub narrowed-requires-clause-matching : goal.narrowed-requires-clause-matching
narrowed-requires-clause-matching g c =
    let look = g.D.Domain.look in
    let old = look c.args.d.now in
    let now = look c.loop-matching.d in
    let sys = c.args.semantics.now in
    let r = c.args.rule.now in
    let k = c.args.place in
    let olds = seen_matchings old c.args.matchings.now in
    let m = seen_matching old c.matching-item.result in
    let i = c.loop-matching.matching-index in
    let il = seen_below (seen_matching old) c.args.matchings.now i c.loop-matching-test.true in
    let is = seen_at (seen_matching old) c.args.matchings.now i c.matching-item.result c.loop-matching-test.true c.matching-item.is in
    let b : Binds sys.cons r.vars (BoundBy r k) m = subst (Binds sys.cons r.vars (BoundBy r k)) (sym is) (All-get_or (Binds sys.cons r.vars (BoundBy r k)) olds i m il c.requires.matchings) in
    let kept = matching_stays old now c.loop-matching.invariant.extends c.matching-item.result (lawful_nodes sys.cons r.vars m b.lawful) in
    let d = c.index-as_slice-place.result in
    let ds : c.as_slice.result.now ≡ r.demands = c.as_slice.ensures in
    let e : d ≡ get_or r.demands k d = rw ds at c.index-as_slice-place.is in
    subst (IsMatching sys.cons r.vars) (sym kept) b.lawful

pub narrowed-requires-clause-ready : goal.narrowed-requires-clause-ready
narrowed-requires-clause-ready g c =
    let look = g.D.Domain.look in
    let old = look c.args.d.now in
    let now = look c.loop-matching.d in
    let sys = c.args.semantics.now in
    let r = c.args.rule.now in
    let k = c.args.place in
    let olds = seen_matchings old c.args.matchings.now in
    let m = seen_matching old c.matching-item.result in
    let i = c.loop-matching.matching-index in
    let il = seen_below (seen_matching old) c.args.matchings.now i c.loop-matching-test.true in
    let is = seen_at (seen_matching old) c.args.matchings.now i c.matching-item.result c.loop-matching-test.true c.matching-item.is in
    let b : Binds sys.cons r.vars (BoundBy r k) m = subst (Binds sys.cons r.vars (BoundBy r k)) (sym is) (All-get_or (Binds sys.cons r.vars (BoundBy r k)) olds i m il c.requires.matchings) in
    let kept = matching_stays old now c.loop-matching.invariant.extends c.matching-item.result (lawful_nodes sys.cons r.vars m b.lawful) in
    let d = c.index-as_slice-place.result in
    let ds : c.as_slice.result.now ≡ r.demands = c.as_slice.ensures in
    let e : d ≡ get_or r.demands k d = rw ds at c.index-as_slice-place.is in
    subst (λ x. IsReady sys.cons sys.tables r.vars x d) (sym kept) (next_ready sys r c.requires.rule k d c.requires.place e m b)

pub loop-matching-preserved : goal.loop-matching-preserved
loop-matching-preserved g c =
    let look = g.D.Domain.look in
    let old = look c.args.d.now in
    let now = look c.loop-matching.d in
    let sys = c.args.semantics.now in
    let r = c.args.rule.now in
    let k = c.args.place in
    let olds = seen_matchings old c.args.matchings.now in
    let m = seen_matching old c.matching-item.result in
    let i = c.loop-matching.matching-index in
    let il = seen_below (seen_matching old) c.args.matchings.now i c.loop-matching-test.true in
    let is = seen_at (seen_matching old) c.args.matchings.now i c.matching-item.result c.loop-matching-test.true c.matching-item.is in
    let b : Binds sys.cons r.vars (BoundBy r k) m = subst (Binds sys.cons r.vars (BoundBy r k)) (sym is) (All-get_or (Binds sys.cons r.vars (BoundBy r k)) olds i m il c.requires.matchings) in
    let kept = matching_stays old now c.loop-matching.invariant.extends c.matching-item.result (lawful_nodes sys.cons r.vars m b.lawful) in
    let d = c.index-as_slice-place.result in
    let ds : c.as_slice.result.now ≡ r.demands = c.as_slice.ensures in
    let e : d ≡ get_or r.demands k d = rw ds at c.index-as_slice-place.is in
    let next = look c.narrowed.new.d in
    let variables = g.D.Domain.variables c.args.d.now in
    let tables = c.args.program.now in
    let before = seen_matchings now c.loop-matching.found in
    let more = seen_matchings next c.in_ok-more.more in
    let made : GoOn (scope_of sys.cons r.vars variables) m (demand_times d) (λ v w. Demanded tables w d) more =
    go_on_from sys.cons r.vars (g.D.Domain.variables c.loop-matching.d) variables (seen_matching now c.matching-item.result) m (demand_times d) (λ v w. Demanded tables w d) more c.loop-matching.invariant.same_variables kept c.in_ok-more.ensures.matchings in
    let all = appended now next c.in_ok-more.ensures.extends c.loop-matching.found c.in_ok-more.more _ (bound_nodes sys.cons r.vars (BoundBy r (k + 1)) before c.loop-matching.invariant.next.0) c.in_ok-append.ensures in
    record {
      extends = extends-both old now next c.loop-matching.invariant.extends c.in_ok-more.ensures.extends;
      same_variables = c.in_ok-more.ensures.same_variables ∙ c.loop-matching.invariant.same_variables;
      next = subst (λ ms. AreAfter sys r (k + 1) ms × Together variables ms (λ v w. Any (Fulfils v w) (take (i + 1) olds) × Demanded tables w d)) (sym all)
          (next_more sys r c.requires.rule k d c.requires.place e tables variables olds i m before more il is c.requires.matchings c.loop-matching.invariant.next made);
    }

pub returns-clause-matchings : goal.returns-clause-matchings
returns-clause-matchings g c =
    let old = g.D.Domain.look c.args.d.now in
    let variables = g.D.Domain.variables c.args.d.now in
    let sys = c.args.semantics.now in
    let r = c.args.rule.now in
    let d = c.index-as_slice-place.result in
    let ds : c.as_slice.result.now ≡ r.demands = c.as_slice.ensures in
    let e : d ≡ get_or r.demands c.args.place d = rw ds at c.index-as_slice-place.is in
    let olds = seen_matchings old c.args.matchings.now in
    let long = length-map c.args.matchings.now (seen_matching old) in
    let end : length olds ≤ c.loop-matching.matching-index = omega arith in
    let found = seen_matchings (g.D.Domain.look c.loop-matching.d) c.loop-matching.found in
    next_all sys r c.requires.rule c.args.place d c.requires.place e c.args.program.now variables olds found
    (subst (λ ms. AreAfter sys r (c.args.place + 1) found × Together variables found (λ v w. Any (Fulfils v w) ms × Demanded c.args.program.now w d)) (take_all c.loop-matching.matching-index olds end) c.loop-matching.invariant.next)
