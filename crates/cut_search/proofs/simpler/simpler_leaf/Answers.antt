use Rattle.std.proofs.Common.{ap, sym, subst, ◌∙◌}
use Rattle.sort_term.specs.NodeTerms.{seen_term}
use Rattle.path_condition.specs.Leaves.{rule_numbers}
use Rattle.cut_search.specs.Simpler.{IsSimplerTerm}
use Rattle.cut_search.proofs.simpler.simpler_leaf.Goals as goal

pub returns-clause-simpler : goal.returns-clause-simpler
returns-clause-simpler g c =
    let variables = g.D.Domain.variables c.args.d.now in
    let f = g.D.Domain.look c.args.d.now in
    let h = g.D.Domain.look c.simpler_term.new.d in
    record {
      condition = c.in_ok-condition.ensures ∙ c.simpler_term.ensures.extends.keeps c.args.leaf.now.condition c.requires.condition.valid;
      state = subst (λ t. IsSimplerTerm variables (seen_term f t) (seen_term h c.new.result.term)) c.term.ensures
          (subst (λ u. IsSimplerTerm variables (seen_term f c.term.result.now) (seen_term h u)) (sym c.new.ensures) c.in_ok-state.ensures.simpler);
      rules = ap rule_numbers (c.in_ok-rules.ensures ∙ c.as_slice.ensures);
    }
