use Rattle.std.proofs.Common.{◌≡◌, Some, sym, subst, ap, ◌∙◌}
use Rattle.sort_term.specs.declared.term.Sort.TheVariants.{Plain as PlainSort}
use Rattle.sort_term.specs.declared.term.Term.TheVariants.{Plain}
use Rattle.sort_term.specs.NodeTerms.{seen_term, seen_sort}
use Rattle.unify.specs.Binds.{seen_binds}
use Rattle.unify.proofs.Nodes.{node_sorted}
use Rattle.pair_match.specs.Sameness.{IsSameness}
use Rattle.pair_match.proofs.Samenesses.{sameness_stays}
use Rattle.pair_match.proofs.Comparisons.{node_compared}
use Rattle.pair_match.proofs.comparing.compare_node.Goals as goal

pub equate-requires-clause-sameness : goal.equate-requires-clause-sameness
equate-requires-clause-sameness g c =
    let look = g.D.Domain.look in
    subst IsSameness (sym (sameness_stays (look c.args.d.now) (look c.evaluate.new.d) c.in_ok-node.ensures.extends c.args.sameness.now c.requires.sameness)) c.requires.sameness

pub returns-clause-compared : goal.returns-clause-compared
returns-clause-compared g c =
    let look = g.D.Domain.look in
    let first = look c.args.d.now in
    let cons = c.args.semantics.now.cons in
    let found = c.in-Plain-config.found in
    let sorted : seen_sort cons (seen_term first (Plain found)) ≡ Some (PlainSort c.requires.term.0) = ap (λ u. seen_sort cons (seen_term first u)) (sym c.in-Plain-config.is) ∙ c.requires.config ∙ c.requires.term.1 in
    node_compared cons first (look c.evaluate.new.d) (look c.equate.new.d) c.in_ok-node.ensures.extends (g.D.Domain.variables c.args.d.now) (g.D.Domain.variables c.evaluate.new.d) c.in_ok-node.ensures.same_variables
    (seen_binds first c.args.binds.now) c.args.term.now c.in_ok-node.field-0 c.args.config.now c.in-Plain.node found c.args.sameness.now c.equate.new.sameness c.requires.sameness c.in-Plain.is c.in-Plain-config.is
    (node_sorted cons first found c.requires.term.0 sorted).0 c.in_ok-node.ensures.value c.in_ok-equate-in-Plain-config.ensures.equal
