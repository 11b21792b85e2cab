use Rattle.std.proofs.Common.{inl, inr, get_or, ap, subst₂}
use Rattle.prover.specs.Splitting.{IsPairAt}
use Rattle.prover.proofs.splitting.pair.Goals as goal

pub returns-in_ok-pair_at : goal.returns-in_ok-pair_at
returns-in_ok-pair_at g c = λ a b two.
    let look = g.D.Domain.look c.args.d.now in
    inr (subst₂ (λ x y. IsPairAt look c.args.lines.now x y c.in_ok-pair_at.field-0) (ap (λ ps. get_or ps 1 0) two) (ap (λ ps. get_or ps 0 0) two) c.in_ok-pair_at.ensures)

pub returns-in_ok-pair_at-2 : goal.returns-in_ok-pair_at-2
returns-in_ok-pair_at-2 g c = λ a b two.
    let look = g.D.Domain.look c.args.d.now in
    inl (subst₂ (λ x y. IsPairAt look c.args.lines.now x y c.in_ok-pair_at-2.field-0) (ap (λ ps. get_or ps 0 0) two) (ap (λ ps. get_or ps 1 0) two) c.in_ok-pair_at-2.ensures)
