use Rattle.data_value.proofs.MapLemmas.{same_reads, same_mapping, maps_differ, read_is_word}
use Rattle.data_value.proofs.laws.maps_are_their_reads.Goals as goal

pub returns-clause-equal : goal.returns-clause-equal
returns-clause-equal c = λ m n v w. (same_reads m n, same_mapping m n v w)

pub returns-clause-differ : goal.returns-clause-differ
returns-clause-differ c = maps_differ

pub returns-clause-words : goal.returns-clause-words
returns-clause-words c = read_is_word
