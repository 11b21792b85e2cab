use Rattle.data_value.proofs.TruthLemmas.{known_says, known_flag}
use Rattle.data_value.proofs.conditions.known_truth.Goals as goal

pub returns-in-Some-Flag-clause-means : goal.returns-in-Some-Flag-clause-means
returns-in-Some-Flag-clause-means g c =
    known_says (g.D.Domain.look c.args.d.now) (g.D.Domain.variables c.args.d.now) (g.met.D.Domain.laws c.args.d.now) c.args.a.now c.in-Some-Flag.b c.requires (cc)

pub unreachable-requires : goal.unreachable-requires
unreachable-requires g c =
    known_flag (g.D.Domain.look c.args.d.now) (g.D.Domain.variables c.args.d.now) (g.met.D.Domain.laws c.args.d.now) c.args.a.now c.in-Some-Bits.field-0-0 c.in-Some-Bits.field-0-1 c.requires (cc)
