-- Operators by name.
use Rattle.std.specs.Prelude.{ℕ, Bool, true, not, ◌&&◌, ◌||◌, nat_lt, map, if◌then◌else◌, List, [], ◌∷◌, Option, Some, None, option_and_then, codes, bytes_eq}
use Rattle.data_value.specs.Sorts.{is_width}
use Rattle.data_value.specs.declared.Op.{Op}
use Rattle.data_value.specs.declared.Op.TheVariants.{Extract, Zext, Sext}
use Rattle.name_resolution.specs.declared.operators.TheConstants.{OPERATOR_NAMES}

-- the operator with this name; `extract`, `zext` and `sext` with zeros in the place of their numbers
abbrev pub first_named : List ℕ → List (List ℕ × Op) → Option Op
first_named name [] = None
first_named name (row ∷ more) = if bytes_eq row.0 name then Some row.1 else first_named name more

-- numbers put into an operator: the high and the low bit, each below 64, or a width from 1 to 64; every other operator takes none
abbrev pub with_numbers : List ℕ → Op → Option Op
with_numbers (hi ∷ lo ∷ []) (Extract _ _) = if nat_lt hi 64 && nat_lt lo 64 then Some (Extract hi lo) else None
with_numbers (width ∷ []) (Zext _) = if is_width width then Some (Zext width) else None
with_numbers (width ∷ []) (Sext _) = if is_width width then Some (Sext width) else None
with_numbers numbers (Extract _ _) = None
with_numbers numbers (Zext _) = None
with_numbers numbers (Sext _) = None
with_numbers [] op = Some op
with_numbers numbers op = None

-- the operator that a name and the numbers behind it write
unfoldable pub operator_of : List ℕ → List ℕ → Option Op
operator_of name numbers = option_and_then (with_numbers numbers) (first_named name (map (λ row. (row.0.now, row.1)) OPERATOR_NAMES))

-- whether the numbers behind a name keep their limits: a width is from 1 to 64
abbrev pub are_numbers_within : List ℕ → List ℕ → Bool
are_numbers_within name (width ∷ []) = not (bytes_eq name (codes "zext") || bytes_eq name (codes "sext")) || is_width width
are_numbers_within name numbers = true
