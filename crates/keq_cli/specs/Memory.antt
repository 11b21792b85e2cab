-- A shelf and a sink in memory.
use Rattle.std.specs.Prelude.{ℕ, List, map, length, ◌==◌, Bool, Option, Some, Contains, ◌⊎◌}
use Rattle.std.specs.Ordering.{nat_cmp}
use Rattle.std.specs.Cmp.Lexicographic.{slice_cmp}
use Rattle.std.specs.FinMap.{from_entries}
use Rattle.keq_cli.specs.Outside.{FileMap, IsMissing, count_after}
use Rattle.keq_cli.specs.declared.memory_shelf.NamedText.{NamedText}
use Rattle.keq_cli.specs.declared.memory_shelf.MemoryShelf.{MemoryShelf}
use Rattle.keq_cli.specs.declared.memory_sink.MemorySink.{MemorySink}

-- each name with its text
abbrev pub named : List NamedText → List (List ℕ × List ℕ)
named files = map (λ file. (file.name, file.bytes)) files

-- the text of each name; of two with one name the first counts
abbrev pub file_map : List NamedText → FileMap
file_map files = from_entries {R = slice_cmp nat_cmp} (named files)

-- what the shelf holds
abbrev pub files_of : MemoryShelf → FileMap
files_of shelf = file_map shelf.files

-- the numbers of the fetches that fail
abbrev pub failing_calls : MemoryShelf → List ℕ
failing_calls shelf = shelf.fails

-- no fetch of a name that is held fails, but for want of memory
abbrev pub never_fails : MemoryShelf → Bool
never_fails shelf = length (failing_calls shelf) == 0

-- how many fetches there were, up to the last value of a counter
abbrev pub call_count : MemoryShelf → ℕ
call_count shelf = shelf.calls

-- the number of the next fetch
abbrev pub next_call : MemoryShelf → ℕ
next_call shelf = count_after 1 (call_count shelf)

-- the next fetch of the name fails: its number is listed, or the name isn't held
abbrev pub FailsNext : MemoryShelf → List ℕ → Type 0
FailsNext shelf name = Contains (failing_calls shelf) (next_call shelf) ⊎ IsMissing (files_of shelf) name

-- the bytes that the sink took, which it tells
abbrev pub taken_by : MemorySink → Option (List ℕ)
taken_by sink = Some sink.taken.items

-- how many more bytes the sink takes
abbrev pub room_left : MemorySink → ℕ
room_left sink = sink.room
