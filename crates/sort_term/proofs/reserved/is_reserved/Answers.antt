use Rattle.sort_term.specs.Names.{is_reserved_word}
use Rattle.sort_term.proofs.reserved.is_reserved.Goals as goal

pub returns : goal.returns
unfolding is_reserved_word
returns c = c.is_among.ensures
