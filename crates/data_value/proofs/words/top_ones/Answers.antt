use Rattle.std.proofs.Common.{arith}
use Rattle.data_value.proofs.WordLemmas.{two_to_le}
use Rattle.data_value.proofs.words.top_ones.Goals as goal

pub overflow_sub-result : goal.overflow_sub-result
overflow_sub-result c =
    rw (c.size-2.ensures, c.size.ensures) (two_to_le _ _ (omega arith))
