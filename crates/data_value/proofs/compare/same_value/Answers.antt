use Rattle.data_value.proofs.KeyLemmas.{decides_value_eq}
use Rattle.data_value.proofs.compare.same_value.Goals as goal

pub returns : goal.returns
returns c = rw c.eq.ensures (decides_value_eq c.args.a.now c.args.b.now)
