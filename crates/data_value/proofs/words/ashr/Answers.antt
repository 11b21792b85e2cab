use Rattle.std.proofs.Common.{arith}
use Rattle.data_value.proofs.WordLemmas.{filled_below, fits_64}
use Rattle.data_value.proofs.words.ashr.Goals as goal

pub overflow_add-result : goal.overflow_add-result
overflow_add-result c =
    rw (c.lshr-shifted.ensures, c.top_ones.ensures)
    (fits_64 c.args.w _ (omega arith) (filled_below c.args.w c.args.x c.args.y c.requires.word))
