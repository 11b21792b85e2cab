use Rattle.std.proofs.Common.{◌≡◌, Some, nat_eq, sym, ap, ◌∙◌}
use Rattle.std.proofs.lemmas.Option.{same_Some}
use Rattle.indexmap.specs.IndexMap.{get}
use Rattle.node_list.specs.Listed.{StandsAt}
use Rattle.node_list.specs.Walks.{IsNew}
use Rattle.node_list.proofs.Lines.{match_option, placed_at}
use Rattle.node_list.proofs.walk.remembered.Goals as goal

pub returns-in-Some : goal.returns-in-Some
returns-in-Some g c =
    let look = g.D.Domain.look c.args.d.now in
    let node = c.args.node.now in
    let lines = c.args.walk.now.lines.items in
    let places = get nat_eq c.args.walk.now.places in
    let number : (look node).id ≡ Some c.in-Some.id = cc in
    let is : c.copied.result ≡ places c.in-Some.id = c.copied.ensures ∙ c.get.ensures.value in
    match_option c.copied.result (IsNew (look node) places) (λ p. StandsAt look lines p (look node))
    (λ none i own. ap places (same_Some i c.in-Some.id (sym own ∙ number)) ∙ sym is ∙ none)
    (λ p e. placed_at look (g.met.D.Symbolic.views c.args.d.now).one_by_id lines places c.requires.listing.placed node c.in-Some.id p c.requires.node number (sym is ∙ e))
