use Rattle.std.proofs.Common.{ℕ, nat_le, length, subst}
use Rattle.data_value.specs.Words.{signed_rank}
use Rattle.bit_gates.specs.Bits.{number}
use Rattle.bit_gates.specs.Meaning.{IsBit}
use Rattle.bit_gates.proofs.SumLemmas.{is_at_most}
use Rattle.bit_gates.proofs.comparison.signed_below_or_equal.Goals as goal

pub returns-clause-made : goal.returns-clause-made
returns-clause-made c =
    subst (λ (n : ℕ). IsBit c.signed_below.new.b c.flip.result (λ a. nat_le (signed_rank n (number a c.args.x.now)) (signed_rank n (number a c.args.y.now)))) c.requires.same
    (is_at_most c.signed_below.new.b (λ a. signed_rank (length c.args.y.now) (number a c.args.x.now)) (λ a. signed_rank (length c.args.y.now) (number a c.args.y.now))
    c.in_ok-above.above c.flip.result c.flip.ensures c.in_ok-above.ensures.made)
