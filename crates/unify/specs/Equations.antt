-- Equations that are known to be true or false.
use Rattle.std.specs.Prelude.{Bool, true, false, if◌then◌else◌, List, [], ◌∷◌, ◌++◌, Option, Some, None}
use Rattle.data_value.specs.declared.Scalar.{Scalar}
use Rattle.data_value.specs.declared.Scalar.TheVariants.{Flag}
use Rattle.data_value.specs.Nodes.{Seen}
use Rattle.data_value.specs.Values.{same_scalar}

-- whether what is known is this truth value
abbrev pub is_flag : Bool → Option Scalar → Bool
is_flag b None = false
is_flag b (Some x) = same_scalar x (Flag b)

-- whether a node is known to have this truth value
abbrev pub known_as : {N : Type 0} → Bool → Seen N → Bool
known_as b s = is_flag b s.known

-- equations with one more, which is left out where it is known to be true
abbrev pub with_equation : {N : Type 0} → List (Seen N) → Seen N → List (Seen N)
with_equation es s = if known_as true s then es else es ++ s ∷ []
