use Rattle.std.proofs.Common.{arith, ◌<◌, ◌∷◌, below_more}
use Rattle.sort_term.specs.Stands.{times_in, StandsIn, let_patterns}
use Rattle.sort_term.proofs.bound.all_stand_in.Goals as goal

pub loop-i-preserved : goal.loop-i-preserved
loop-i-preserved c =
    let here : 0 < times_in c.loop-i.i (c.args.pattern.now ∷ let_patterns c.args.demands.now) = omega (arith, c.times_in.ensures, c.if-times_in-eq0.false) in
    below_more (λ k. StandsIn k (c.args.pattern.now ∷ let_patterns c.args.demands.now)) _ c.loop-i.invariant here
