-- The truth of nodes, and what is known of it.
use Rattle.std.specs.Prelude.{◌≡◌, Bool, true, false, not, IsTrue, List, All, Some, None}
use Rattle.std.specs.List.{Any, list_all}
use Rattle.data_value.specs.declared.DataSort.TheVariants.{Bool as BoolSort}
use Rattle.data_value.specs.declared.Scalar.TheVariants.{Flag}
use Rattle.data_value.specs.declared.Value.{Value}
use Rattle.data_value.specs.declared.Value.TheVariants.{One}
use Rattle.data_value.specs.Values.{flag_of, scalar_of, same_scalar}
use Rattle.data_value.specs.Nodes.{Seen}

-- Whether a node is true where the variables have these values. A word and a map are false.
abbrev pub truth : {N : Type 0} → Seen N → List Value → Bool
truth s v = flag_of (scalar_of (s.meaning v))

-- Whether all of these nodes are true.
abbrev pub all_true : {N : Type 0} → List (Seen N) → List Value → Bool
all_true conditions v = list_all (λ s. truth s v) conditions

-- Whether two nodes mean equal scalars.
abbrev pub mean_same : {N : Type 0} → Seen N → Seen N → List Value → Bool
mean_same s t v = same_scalar (scalar_of (s.meaning v)) (scalar_of (t.meaning v))

-- A node that means a truth value.
pub record IsCondition {N : Type 0} (s : Seen N) : Type 0 where
  pub valid : IsTrue s.valid
  pub sort : s.sort ≡ BoolSort

-- A node that is true exactly where this says.
pub record IsTruth {N : Type 0} (s : Seen N) (says : List Value → Bool) : Type 0 where
  pub condition : IsCondition s
  pub means : (v : List Value) → truth s v ≡ says v

-- All of these nodes mean true where the variables have the values v.
abbrev pub AreTrue : {N : Type 0} → List Value → List (Seen N) → Type 0
AreTrue v conditions = All (λ s. s.meaning v ≡ One (Flag true)) conditions

-- A node that is known to mean this truth value under every valuation.
abbrev pub IsKnownAs : {N : Type 0} → Bool → Seen N → Type 0
IsKnownAs b s = s.known ≡ Some (Flag b)

-- The condition n joins a and b, and is known wherever what is known of these settles it. The truth value that settles is
-- false where they are joined by "and", and true where by "or".
pub record IsFoldedFrom {N : Type 0} (settling : Bool) (a b n : Seen N) : Type 0 where
  -- a condition that is known as what settles settles the joined one
  pub first_settles : IsKnownAs settling a → IsKnownAs settling n
  pub second_settles : IsKnownAs settling b → IsKnownAs settling n
  -- a condition that is known as the other truth value leaves the remaining one, the second where both are
  pub first_leaves : IsKnownAs (not settling) a → n ≡ b
  pub second_leaves : IsKnownAs (not settling) b → a.known ≡ None → n ≡ a

-- The condition n joins all of a list, and is known wherever what is known of these settles it.
pub record IsAllFoldedFrom {N : Type 0} (conditions : List (Seen N)) (n : Seen N) : Type 0 where
  pub all_known_true : All (IsKnownAs true) conditions → IsKnownAs true n
  pub one_known_false : Any (IsKnownAs false) conditions → IsKnownAs false n
