use Rattle.std.proofs.Common.{Some, sym, ap, ◌∙◌}
use Rattle.std.proofs.lemmas.Option.{slice_get-get_or}
use Rattle.prover.proofs.splitting.pair_at.Goals as goal

pub returns : goal.returns
returns g c =
    let look = g.D.Domain.look c.args.d.now in
    let lines = c.args.lines.now in
    let first = c.index-lines-first in
    let second = c.index-lines-second in
    record {
      first = (first.result, slice_get-get_or lines c.args.first first.result c.requires.first ∙ ap Some (sym first.is), ap (λ l. look l.node) first.is ∙ sym c.in_ok-copy.ensures);
      second = (second.result, slice_get-get_or lines c.args.second second.result c.requires.second ∙ ap Some (sym second.is), ap (λ l. look l.node) second.is ∙ sym c.in_ok-copy-2.ensures);
    }
