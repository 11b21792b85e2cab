use Rattle.std.proofs.Common.{min, sym, ap, ◌∙◌}
use Rattle.sort_term.proofs.Standing.{lets-more, capped}
use Rattle.sort_term.proofs.bound.times_in_lets.Goals as goal

pub loop-demand-preserved : goal.loop-demand-preserved
loop-demand-preserved c =
    capped _ _ _ _ _ c.loop-demand.invariant c.times_in_demand.ensures c.min-count.ensures
    ∙ ap (λ n. min n 2) (sym (lets-more c.args.i c.args.demands.now c.loop-demand.demand-index c.demand-item.result c.loop-demand-test.true c.demand-item.is))
