-- The text of a value of data.
use Rattle.std.specs.Prelude.{ℕ, List, [], ◌∷◌, ◌++◌, Bool, if◌then◌else◌, map, codes}
use Rattle.std.specs.Fmt.{decimal}
use Rattle.data_value.specs.declared.Scalar.{Scalar}
use Rattle.data_value.specs.declared.Scalar.TheVariants.{Flag, Bits}
use Rattle.data_value.specs.declared.Value.{Value}
use Rattle.data_value.specs.declared.Value.TheVariants.{One, Map}
use Rattle.data_value.specs.Maps.{Mapping}
use Rattle.sexp_text.specs.Print.{joined}

-- texts between `(`, 40, and `)`, 41, with one space, 32, from each to the next
abbrev pub listed : List (List ℕ) → List ℕ
listed texts = 40 ∷ joined 32 texts ++ 41 ∷ []

-- `true` or `false`
abbrev pub flag_text : Bool → List ℕ
flag_text flag = if flag then codes "true" else codes "false"

-- a truth value, or a word as its number in decimal
abbrev pub scalar_text : Scalar → List ℕ
scalar_text (Flag flag) = flag_text flag
scalar_text (Bits width n) = decimal n

-- `(KEY WORD)`
abbrev pub entry_text : ℕ × ℕ → List ℕ
entry_text entry = listed (decimal entry.0 ∷ decimal entry.1 ∷ [])

-- `(map WIDTH WIDTH (KEY WORD) ..)`: the entries that aren't zero, their keys rising
abbrev pub map_text : Mapping → List ℕ
map_text m = listed (codes "map" ∷ decimal m.key_width ∷ decimal m.word_width ∷ map entry_text m.entries)

abbrev pub value_text : Value → List ℕ
value_text (One x) = scalar_text x
value_text (Map m) = map_text m
