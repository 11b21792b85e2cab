use Rattle.std.proofs.Common.{rules, [], map, refl, sym, subst, ◌∙◌}
use Rattle.data_value.proofs.Grown.{extends-same, extends-both}
use Rattle.sort_term.specs.declared.term.Term.{the_lemmas}
use Rattle.unify.proofs.Copied.{node_valid, args_valid}
use Rattle.sort_term.specs.NodeTerms.{seen_term}
use Rattle.cut_search.specs.Simpler.{AreSimplerTerms}
use Rattle.cut_search.proofs.Simplifying.{simpler_plain, simpler_con, simpler_none, term_now, simpler_more, simpler_now}
use Rattle.cut_search.proofs.simpler.+simpler_term.Goals as goal

pub simpler_term-simplify-requires : goal.simpler_term-simplify-requires
simpler_term-simplify-requires g t c = node_valid (g.D.Domain.look c.args.d.now) _ _ c.in-Plain.is c.requires

pub simpler_term-simpler_terms-requires : goal.simpler_term-simpler_terms-requires
simpler_term-simpler_terms-requires g t c κs within = (
  search (rules, the_lemmas),
  (within.0, (within.1, args_valid (g.D.Domain.look c.args.d.now) _ _ _ _ c.in-Con.is c.as_slice.ensures c.requires)),
)

pub simpler_term-returns-in_ok-simplify-in-Plain-clause-simpler : goal.simpler_term-returns-in_ok-simplify-in-Plain-clause-simpler
simpler_term-returns-in_ok-simplify-in-Plain-clause-simpler g t c =
    let look = g.D.Domain.look c.args.d.now in
    simpler_plain _ look _ _ _ _ c.in-Plain.is (node_valid look _ _ c.in-Plain.is c.requires) c.in_ok-simplify-in-Plain.ensures.simpler

pub simpler_term-returns-in_ok-args-in-Con-clause-simpler : goal.simpler_term-returns-in_ok-args-in-Con-clause-simpler
simpler_term-returns-in_ok-args-in-Con-clause-simpler g t c = simpler_con _ _ _ _ _ _ _ _ _ c.in-Con.is c.as_slice.ensures c.from_vec.ensures c.in_ok-args-in-Con.ensures.simpler

pub simpler_terms-loop-term-init : goal.simpler_terms-loop-term-init
simpler_terms-loop-term-init g t c =
    let look = g.D.Domain.look c.args.d.now in
    let variables = g.D.Domain.variables c.args.d.now in
    record {
      extends = extends-same look;
      same_variables = refl;
      simpler = subst (λ us. AreSimplerTerms variables [] (map (seen_term look) us)) (sym c.new-simpler.ensures.items) (simpler_none variables);
    }

pub simpler_terms-simpler_term-requires : goal.simpler_terms-simpler_term-requires
simpler_terms-simpler_term-requires g t c κs within = (
  search (rules, the_lemmas),
  (within.0, (within.1, term_now (g.D.Domain.look c.args.d.now) (g.D.Domain.look c.loop-term.d) c.args.terms.now c.loop-term.term-index c.term-item.result c.requires c.loop-term.invariant.extends c.loop-term-test.true c.term-item.is)),
)

pub simpler_terms-loop-term-preserved : goal.simpler_terms-loop-term-preserved
simpler_terms-loop-term-preserved g t c = record {
  extends = extends-both _ _ _ c.loop-term.invariant.extends c.in_ok-simpler_term.ensures.extends;
  same_variables = c.in_ok-simpler_term.ensures.same_variables ∙ c.loop-term.invariant.same_variables;
  simpler = simpler_more (g.D.Domain.variables c.args.d.now) (g.D.Domain.look c.args.d.now) (g.D.Domain.look c.loop-term.d) _ c.args.terms.now c.loop-term.term-index c.term-item.result _ _ _ c.requires c.loop-term.invariant.extends c.in_ok-simpler_term.ensures.extends c.loop-term-test.true c.term-item.is c.in_ok-push.ensures.items c.loop-term.invariant.simpler
      (simpler_now (g.D.Domain.variables c.args.d.now) (g.D.Domain.variables c.loop-term.d) c.loop-term.invariant.same_variables _ _ c.in_ok-simpler_term.ensures.simpler);
}
