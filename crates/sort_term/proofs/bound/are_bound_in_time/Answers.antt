use Rattle.std.proofs.Common.{below_more}
use Rattle.sort_term.proofs.bound.are_bound_in_time.Goals as goal

pub loop-i-preserved : goal.loop-i-preserved
loop-i-preserved c = below_more _ _ c.loop-i.invariant (c.is_bound_in_time.ensures.0 c.if-not-is_bound_in_time.false)
