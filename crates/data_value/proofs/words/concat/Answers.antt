use Rattle.data_value.proofs.WordLemmas.{concat_below, fits_64}
use Rattle.data_value.proofs.words.concat.Goals as goal

pub overflow_cast-result-3 : goal.overflow_cast-result-3
overflow_cast-result-3 c =
    rw c.size.ensures
    (fits_64 _ _ c.requires.width (concat_below c.args.v c.args.x c.args.w c.args.y c.requires.high c.requires.low))
