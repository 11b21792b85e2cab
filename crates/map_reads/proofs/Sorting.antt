-- The sorts of operators.
use Rattle.std.proofs.Common.{◌≡◌, true, Some, List, [], ◌∷◌, refl, ap₂}
use Rattle.data_value.specs.declared.DataSort.{DataSort}
use Rattle.data_value.specs.declared.DataSort.TheVariants.{Bool as BoolSort}
use Rattle.data_value.specs.declared.Op.TheVariants.{Eq, Ite}
use Rattle.data_value.specs.Sorts.{is_scalar_sort, op_sort}
use Rattle.data_value.proofs.TestLemmas.{decides_sort}

-- what stands at two places, and at three
pub two_at : {X : Type 0} {a b x y : X} → a ≡ x → b ≡ y → ◌≡◌ {A = List X} (a ∷ b ∷ []) (x ∷ y ∷ [])
two_at p q = ap₂ (λ x y. x ∷ y ∷ []) p q

pub three_at : {X : Type 0} {a b c x y z : X} → a ≡ x → b ≡ y → c ≡ z → ◌≡◌ {A = List X} (a ∷ b ∷ c ∷ []) (x ∷ y ∷ z ∷ [])
three_at p q r = ap₂ (λ x xs. x ∷ xs) p (two_at q r)

pub choice_of : (t : DataSort) → is_scalar_sort t ≡ true → op_sort Ite (BoolSort ∷ t ∷ t ∷ []) ≡ Some t
choice_of t scalar = rw (scalar, (decides_sort t t).1 refl) refl

pub equality_of : (t : DataSort) → is_scalar_sort t ≡ true → op_sort Eq (t ∷ t ∷ []) ≡ Some BoolSort
equality_of t scalar = rw (scalar, (decides_sort t t).1 refl) refl
