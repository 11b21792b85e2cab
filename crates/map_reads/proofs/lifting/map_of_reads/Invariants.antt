use Rattle.std.proofs.Common.{◌≡◌, fold, take}
use Rattle.data_value.specs.Maps.{zero_map}
use Rattle.map_reads.specs.Lifted.{with_read}
use Rattle.map_reads.proofs.lifting.map_of_reads.Given as goal

-- the map has the words of the reads so far
abbrev pub invariant-loop-read : goal.invariant-loop-read
invariant-loop-read l = record {
  made : l.made ≡ fold (with_read l.reads l.words l.variable) (zero_map l.keys l.width) (take l.read-index l.reads.reads);
  keys : l.made.key_width ≡ l.keys;
  words : l.made.word_width ≡ l.width;
}
