use Rattle.std.proofs.Common.{◌≡◌, ◌∙◌, map}
use Rattle.refute_check.specs.Truth.{flipped}
use Rattle.bit_gates.proofs.RangeLemmas.{clause_below_flips}
use Rattle.bit_gates.proofs.SumLemmas.{is_order}
use Rattle.bit_gates.proofs.comparison.below.Goals as goal

pub add_words-requires-clause-y : goal.add_words-requires-clause-y
add_words-requires-clause-y c =
    let f : c.as_slice.result.now ≡ map flipped c.args.y.now = c.as_slice.ensures ∙ c.in_ok-flips.ensures in
    rw f (clause_below_flips c.args.b.now.clauses.vars c.args.y.now c.requires.y)

pub returns-clause-made : goal.returns-clause-made
returns-clause-made c =
    is_order c.add_words.new.b c.args.x.now c.args.y.now c.as_slice.result.now c.in_ok-sum.sum.bits c.constant.result c.in_ok-sum.sum.carry c.flip.result c.constant.ensures (c.as_slice.ensures ∙ c.in_ok-flips.ensures) c.requires.same c.flip.ensures c.in_ok-sum.ensures.made
