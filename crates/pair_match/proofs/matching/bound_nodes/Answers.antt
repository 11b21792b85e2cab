use Rattle.std.proofs.Common.{◌<◌, ◌++◌, ◌∷◌, [], Some, length, map, sym, ap, ◌∙◌, subst}
use Rattle.std.specs.Prelude.{option_map}
use Rattle.std.proofs.lemmas.List.{map-append, take_all}
use Rattle.sort_term.specs.declared.term.Term.TheVariants.{Plain}
use Rattle.sort_term.specs.NodeTerms.{seen_term}
use Rattle.unify.specs.Binds.{seen_binds}
use Rattle.unify.proofs.Lists.{mapped_at}
use Rattle.pair_match.specs.Bound.{IsBoundToNode, bound_to}
use Rattle.pair_match.proofs.Arguments.{images_more}
use Rattle.pair_match.proofs.matching.bound_nodes.Goals as goal

pub bound_node-requires : goal.bound_node-requires
bound_node-requires g c =
    let look = g.D.Domain.look c.args.d.now in
    let items = c.as_slice-bound-items.result.now in
    mapped_at IsBoundToNode (option_map (seen_term look)) items c.loop-bound.bound-index c.bound-item.result (rw (sym c.as_slice-bound-items.ensures) at c.requires) c.loop-bound-test.true c.bound-item.is

pub loop-bound-preserved : goal.loop-bound-preserved
loop-bound-preserved g c =
    let look = g.D.Domain.look c.args.d.now in
    let binds = c.args.binds.now in
    let i = c.loop-bound.bound-index in
    let bound = c.bound-item.result in
    let within = subst (λ xs. i < length xs) c.as_slice-bound-items.ensures c.loop-bound-test.true in
    let more = images_more (option_map (seen_term look)) binds i bound within (rw c.as_slice-bound-items.ensures at c.bound-item.is) in
    let node = c.in_ok-node.node in
    let nodes = c.loop-bound.nodes in
    more ∙ ap (λ xs. xs ++ option_map (seen_term look) bound ∷ []) c.loop-bound.invariant ∙ ap (λ o. bound_to (map look nodes) ++ o ∷ []) c.in_ok-node.ensures
    ∙ sym (ap bound_to (ap (map look) c.in_ok-push.ensures.ok ∙ map-append look nodes (node ∷ [])) ∙ map-append (λ s. Some (Plain s)) (map look nodes) (look node ∷ []))

pub returns : goal.returns
returns g c =
    let look = g.D.Domain.look c.args.d.now in
    let all = take_all c.loop-bound.bound-index c.args.binds.now (rw c.as_slice-bound-items.ensures at c.loop-bound-test.false) in
    ap (seen_binds look) (sym all) ∙ c.loop-bound.invariant
