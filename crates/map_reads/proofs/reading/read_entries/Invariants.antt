use Rattle.std.proofs.Common.{◌≡◌, ◌-◌, Some, length, drop}
use Rattle.data_value.specs.declared.DataSort.TheVariants.{Bits as BitsSort}
use Rattle.data_value.specs.Maps.{IsMapping}
use Rattle.map_reads.specs.Drafts.{IsDraft, HasValue, sort_at, value_of, entry_at}
use Rattle.map_reads.proofs.reading.read_entries.Given as goal

-- what the last entries have at the key
abbrev pub invariant-loop-done : goal.invariant-loop-done
invariant-loop-done l =
    let es = l.map.entries in
    IsDraft l.fn.draft → IsMapping l.map → l.widths.0 ≡ l.map.key_width → l.widths.1 ≡ l.map.word_width → sort_at l.fn.draft l.key ≡ Some (BitsSort l.widths.0) →
    HasValue l.fn.draft l.draft l.found (BitsSort l.widths.1) (λ words. entry_at l.widths.0 l.widths.1 (drop (length es - l.done) es) (value_of l.fn.draft words l.key))
