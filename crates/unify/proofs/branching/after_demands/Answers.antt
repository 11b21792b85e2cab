use Rattle.std.proofs.Common.{arith, refl, ◌≡◌, ◌<◌, length, sym, subst, ◌∙◌}
use Rattle.data_value.proofs.Grown.{extends-both, extends-same}
use Rattle.unify.specs.Matchings.{seen_matchings, AreAfter, AllMet, Next}
use Rattle.unify.proofs.Demanding.{all_met_none, all_met_more}
use Rattle.unify.specs.Scopes.{rule_scope_of}
use Rattle.unify.proofs.branching.after_demands.Goals as goal

pub loop-place-init : goal.loop-place-init
loop-place-init g c = record {
  extends = extends-same (g.D.Domain.look c.args.d.now);
  same_variables = refl;
  met = all_met_none c.args.semantics.now c.args.program.now (g.D.Domain.variables c.args.d.now) c.args.rule.now (seen_matchings (g.D.Domain.look c.args.d.now) c.args.matchings) c.requires.matchings;
}

pub after_demand-requires-clause-matchings : goal.after_demand-requires-clause-matchings
after_demand-requires-clause-matchings g c = subst (λ ms. AreAfter c.args.semantics.now c.args.rule.now c.loop-place.place (seen_matchings (g.D.Domain.look c.loop-place.d) ms)) (sym c.as_slice.ensures) c.loop-place.invariant.met.each

pub loop-place-preserved : goal.loop-place-preserved
loop-place-preserved g c =
    let look = g.D.Domain.look in
    let sys = c.args.semantics.now in
    let r = c.args.rule.now in
    let k = c.loop-place.place in
    let variables = g.D.Domain.variables c.args.d.now in
    let tables = c.args.program.now in
    let old = seen_matchings (look c.loop-place.d) c.loop-place.found in
    let new = seen_matchings (look c.after_demand.new.d) c.in_ok-found.found in
    let inside : k < length r.demands = (let l : k < length r.demands = omega (arith, c.loop-place-test.true, c.len-place-end.ensures) in l) in
    let made : Next (rule_scope_of sys tables variables r) k old new =
    subst (λ ms. Next (rule_scope_of sys tables variables r) k (seen_matchings (look c.loop-place.d) ms) new) c.as_slice.ensures (subst (λ vs. Next (rule_scope_of sys tables vs r) k (seen_matchings (look c.loop-place.d) c.as_slice.result.now) new) c.loop-place.invariant.same_variables c.in_ok-found.ensures.matchings) in
    record {
      extends = extends-both _ _ _ c.loop-place.invariant.extends c.in_ok-found.ensures.extends;
      same_variables = c.in_ok-found.ensures.same_variables ∙ c.loop-place.invariant.same_variables;
      met = all_met_more sys tables variables r k _ old new inside c.loop-place.invariant.met made;
    }

pub returns-clause-matchings : goal.returns-clause-matchings
returns-clause-matchings g c =
    let r = c.args.rule.now in
    let end : c.loop-place.place ≡ length r.demands = omega (arith, c.len-place-end.ensures, c.loop-place-test.false, c.loop-place.auto.place-end) in
    subst (λ k. AllMet (rule_scope_of c.args.semantics.now c.args.program.now (g.D.Domain.variables c.args.d.now) r) k (seen_matchings (g.D.Domain.look c.args.d.now) c.args.matchings) (seen_matchings (g.D.Domain.look c.loop-place.d) c.loop-place.found)) end c.loop-place.invariant.met
