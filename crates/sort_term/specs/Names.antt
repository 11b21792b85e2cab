-- Names that a text declares.
use Rattle.std.specs.Prelude.{◌≢◌, ℕ, Bool, IsFalse, List, AllPairs, bytes_eq}
use Rattle.std.specs.List.{list_any}
use Rattle.sort_term.specs.declared.reserved.TheConstants.{RESERVED_WORDS}

-- whether a word, as its bytes, is one of the reserved words
unfoldable pub is_reserved_word : List ℕ → Bool
is_reserved_word name = list_any (λ word. bytes_eq word.now name) RESERVED_WORDS

-- a name that a sort, constructor, table or variable may have
abbrev pub IsFree : List ℕ → Type 0
IsFree name = IsFalse (is_reserved_word name)

-- no two of these have one name
abbrev pub AreDistinct : {X : Type 0} → (X → List ℕ) → List X → Type 0
AreDistinct name items = AllPairs (λ a b. name a ≢ name b) items
