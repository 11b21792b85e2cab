use Rattle.std.proofs.Common.{All, sym, ap, ◌∙◌, subst}
use Rattle.std.proofs.lemmas.List.{map_push}
use Rattle.std.proofs.lemmas.List.Elements.{All-push}
use Rattle.simplify.specs.Pairs.{IsPair, seen_pair, seen_pairs}
use Rattle.node_examples.proofs.simpler.pairs_of.Goals as goal

pub loop-form-preserved : goal.loop-form-preserved
loop-form-preserved g c =
    let look = g.D.Domain.look c.args.d.now in
    let before = c.loop-form.pairs.items in
    let pair = c.in_ok-pair.field-0 in
    subst (All IsPair) (sym (ap (seen_pairs look) c.in_ok-push.ensures.items ∙ map_push (seen_pair look) before pair)) (All-push IsPair (seen_pairs look before) (seen_pair look pair) c.loop-form.invariant c.in_ok-pair.ensures)
