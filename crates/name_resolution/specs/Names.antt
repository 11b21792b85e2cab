-- Names by number.
use Rattle.std.specs.Prelude.{◌≡◌, ℕ, List, Option, None, bytes_eq, position}

-- the place of a name among these, counted from 0: the first place where it stands
abbrev pub place_of : List ℕ → List (List ℕ) → Option ℕ
place_of name names = position (bytes_eq name) names

-- the name is none of these
abbrev pub IsNew : List ℕ → List (List ℕ) → Type 0
IsNew name names = place_of name names ≡ None
