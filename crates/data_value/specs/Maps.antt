-- Maps from words to words, all but finitely many of them zero.
use Rattle.std.specs.Prelude.{◌≡◌, ◌≢◌, ℕ, ◌<◌, ◌≤◌, ◌^◌, Bool, true, ◌&&◌, ◌==◌, nat_lt, nat_le, if◌then◌else◌, List, [], ◌∷◌, ◌++◌, All, filter, suc}
use Rattle.std.specs.List.{list_all}
use Rattle.data_value.specs.Sorts.{IsWidth, is_width}

-- A map: the width of its keys, the width of its words, and its entries that aren't zero, each a key and its word.
pub record Mapping : Type 0 where
  pub key_width : ℕ
  pub word_width : ℕ
  pub entries : List (ℕ × ℕ)

-- The keys rise strictly, and none is below `from`.
abbrev pub RisesFrom : ℕ → List (ℕ × ℕ) → Type 0
RisesFrom from [] = Unit {0}
RisesFrom from (e ∷ es) = (from ≤ e.0) × RisesFrom (suc e.0) es

-- A key of k bits, and a word of v bits that isn't zero.
abbrev pub FitsEntry : ℕ → ℕ → ℕ × ℕ → Type 0
FitsEntry k v e = (e.0 < 2 ^ k) × (1 ≤ e.1) × (e.1 < 2 ^ v)

-- What makes a record a map: so each map has exactly one record.
pub record IsMapping (m : Mapping) : Type 0 where
  pub key_width : IsWidth m.key_width
  pub word_width : IsWidth m.word_width
  pub rises : RisesFrom 0 m.entries
  pub fits : All (FitsEntry m.key_width m.word_width) m.entries

-- Whether the keys rise strictly, and none is below `from`.
abbrev pub rises_from : ℕ → List (ℕ × ℕ) → Bool
rises_from from [] = true
rises_from from (e ∷ es) = nat_le from e.0 && rises_from (suc e.0) es

-- Whether an entry is a key of k bits and a word of v bits that isn't zero.
abbrev pub fits_entry : ℕ → ℕ → ℕ × ℕ → Bool
fits_entry k v e = nat_lt e.0 (2 ^ k) && nat_le 1 e.1 && nat_lt e.1 (2 ^ v)

-- Whether a record is a map.
abbrev pub is_mapping : Mapping → Bool
is_mapping m = is_width m.key_width && is_width m.word_width && rises_from 0 m.entries && list_all (fits_entry m.key_width m.word_width) m.entries

-- The map that is zero at every key.
abbrev pub zero_map : ℕ → ℕ → Mapping
zero_map k v = record { key_width = k; word_width = v; entries = [] }

-- The word at a key, zero where no entry has it.
abbrev pub read : List (ℕ × ℕ) → ℕ → ℕ
read [] k = 0
read (e ∷ es) k = if e.0 == k then e.1 else read es k

-- Two maps have the same widths, and the same word at every key.
pub record SameReads (m n : Mapping) : Type 0 where
  pub key_widths : m.key_width ≡ n.key_width
  pub word_widths : m.word_width ≡ n.word_width
  pub reads : (k : ℕ) → k < 2 ^ m.key_width → read m.entries k ≡ read n.entries k

-- There is a key of k bits at which the reads of two lists of entries differ.
abbrev pub DifferSomewhere : ℕ → List (ℕ × ℕ) → List (ℕ × ℕ) → Type 0
DifferSomewhere k es fs = (key : ℕ) × (key < 2 ^ k) × (read es key ≢ read fs key)

-- The entries below a key.
abbrev pub entries_below : ℕ → List (ℕ × ℕ) → List (ℕ × ℕ)
entries_below k es = filter (λ e. nat_lt e.0 k) es

-- The entries above a key.
abbrev pub entries_above : ℕ → List (ℕ × ℕ) → List (ℕ × ℕ)
entries_above k es = filter (λ e. nat_lt k e.0) es

-- The entry of a key and a word, none where the word is zero.
abbrev pub entry_of : ℕ → ℕ → List (ℕ × ℕ)
entry_of k v = if v == 0 then [] else (k, v) ∷ []

-- The entries with that word at that key.
abbrev pub write : List (ℕ × ℕ) → ℕ → ℕ → List (ℕ × ℕ)
write es k v = entries_below k es ++ entry_of k v ++ entries_above k es

-- The map with that word at that key.
abbrev pub put_into : Mapping → ℕ → ℕ → Mapping
put_into m k v = record m { entries = write m.entries k v }
