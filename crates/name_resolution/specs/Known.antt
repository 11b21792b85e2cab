-- What an item may name.
use Rattle.std.specs.Prelude.{ℕ, ◌^◌, Bool, not, ◌&&◌, ◌==◌, nat_lt, if◌then◌else◌, List, map, filter, slice_get, Option, Some, None, option_map, option_and_then}
use Rattle.std.specs.List.{list_all}
use Rattle.data_value.specs.declared.DataSort.TheVariants.{Bool as BoolSort, Bits as BitsSort, Map as MapSort}
use Rattle.data_value.specs.declared.Scalar.{Scalar}
use Rattle.data_value.specs.declared.Scalar.TheVariants.{Bits as Word}
use Rattle.data_value.specs.Maps.{Mapping, rises_from}
use Rattle.data_value.specs.Sorts.{is_width}
use Rattle.data_value.specs.Values.{is_scalar}
use Rattle.rule_text.specs.declared.item.RawSort.{RawSort}
use Rattle.rule_text.specs.declared.item.RawSort.TheVariants.{Bits, Map, Named}
use Rattle.rule_text.specs.declared.item.RawSort.TheVariants as raw
use Rattle.sort_term.specs.declared.ids.SortId.{SortId}
use Rattle.sort_term.specs.declared.ids.ConId.{ConId}
use Rattle.sort_term.specs.declared.ids.TableId.{TableId}
use Rattle.sort_term.specs.declared.term.Sort.{Sort}
use Rattle.sort_term.specs.declared.term.Sort.TheVariants.{Own, Plain}
use Rattle.sort_term.specs.declared.semantics.Con.{Con}
use Rattle.sort_term.specs.declared.semantics.Table.{Table}
use Rattle.sort_term.specs.System.{System}
use Rattle.name_resolution.specs.declared.known.Known.{Known}
use Rattle.name_resolution.specs.Names.{place_of}

-- the sorts, constructors and tables that are declared before an item, each in the order of the text
pub record Vocabulary : Type 0 where
  pub sorts : List (List ℕ)
  pub cons : List Con
  pub tables : List Table

abbrev pub vocabulary_of : Known → Vocabulary
vocabulary_of known = record { sorts = known.sort_names.now; cons = known.cons.now; tables = known.tables.now }

-- all that a semantics declares
abbrev pub vocabulary_in : System → Vocabulary
vocabulary_in s = record { sorts = s.sorts; cons = s.cons; tables = s.tables }

-- the number of a sort, where it is declared
abbrev pub declared_sort : Vocabulary → List ℕ → Option SortId
declared_sort known name = option_map (λ place. record { 0 = place }) (place_of name known.sorts)

-- the sort that is written: one of data with widths from 1 to 64, or a declared sort
abbrev pub sort_of : Vocabulary → RawSort → Option Sort
sort_of known raw.Bool = Some (Plain BoolSort)
sort_of known (Bits width) = if is_width width then Some (Plain (BitsSort width)) else None
sort_of known (Map key word) = if is_width key && is_width word then Some (Plain (MapSort key word)) else None
sort_of known (Named name) = option_map Own (declared_sort known name)

-- a constructor with its number, by its name
abbrev pub con_at : Vocabulary → ℕ → Option (ConId × Con)
con_at known place = option_map (λ con. (record { 0 = place }, con)) (slice_get known.cons place)

abbrev pub con_of : Vocabulary → List ℕ → Option (ConId × Con)
con_of known name = option_and_then (con_at known) (place_of name (map (λ c. c.name) known.cons))

-- a table with its number, by its name
abbrev pub table_at : Vocabulary → ℕ → Option (TableId × Table)
table_at known place = option_map (λ table. (record { 0 = place }, table)) (slice_get known.tables place)

abbrev pub table_of : Vocabulary → List ℕ → Option (TableId × Table)
table_of known name = option_and_then (table_at known) (place_of name (map (λ t. t.name) known.tables))

-- the bit vector of a width from 1 to 64 and a number that the width holds
abbrev pub literal_of : ℕ → ℕ → Option Scalar
literal_of width n = if is_scalar (Word width n) then Some (Word width n) else None

-- whether a key and a word fit their widths
abbrev pub is_pair_within : ℕ → ℕ → ℕ × ℕ → Bool
is_pair_within key word entry = nat_lt entry.0 (2 ^ key) && nat_lt entry.1 (2 ^ word)

-- whether entries are those of a map between words of these widths: the widths are from 1 to 64, the keys rise, and each
-- number fits its width
abbrev pub are_entries : ℕ → ℕ → List (ℕ × ℕ) → Bool
are_entries key word entries = (is_width key && is_width word) && (rises_from 0 entries && list_all (is_pair_within key word) entries)

-- the map with these entries, those with the word zero left out
abbrev pub mapping_of : ℕ → ℕ → List (ℕ × ℕ) → Option Mapping
mapping_of key word entries = if are_entries key word entries then Some (record { key_width = key; word_width = word; entries = filter (λ e. not (e.1 == 0)) entries }) else None
