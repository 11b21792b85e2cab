-- The sort of a lawful value.
use Rattle.std.proofs.Common.{◌≡◌, Bool, true, false, Some, None, refl, ap}
use Rattle.std.specs.Prelude.{if◌then◌else◌}
use Rattle.data_value.specs.declared.Value.{Value}
use Rattle.data_value.specs.Values.{IsValue, is_value, value_sort}
use Rattle.data_value.proofs.TestLemmas.{decides_value}
use Rattle.sort_term.specs.declared.term.Sort.TheVariants.{Plain}
use Rattle.sort_term.specs.Sorted.{leaf_sort}

pub leaf-value : (x : Value) → IsValue x → leaf_sort x ≡ Some (Plain (value_sort x))
leaf-value x h = ap (λ b. if b then Some (Plain (value_sort x)) else None) ((decides_value x).1 h)

false_unless : (b : Bool) → (b ≡ true → ⊥) → b ≡ false
false_unless true h = absurd (h refl)
false_unless false h = refl

pub leaf-none : (x : Value) → (IsValue x → ⊥) → leaf_sort x ≡ None
leaf-none x h = ap (λ b. if b then Some (Plain (value_sort x)) else None) (false_unless (is_value x) (λ t. h ((decides_value x).0 t)))
