-- Values as nodes.
use Rattle.std.proofs.Common.{arith, ◌≡◌, IsTrue, List, [], ◌∷◌, map, All, Option, Some, None, IsSome, refl, sym, ap, ◌∙◌, subst}
use Rattle.std.proofs.lemmas.List.Elements.{All-nil, All-cons, All-head, All-tail}
use Rattle.data_value.specs.declared.DataSort.{DataSort}
use Rattle.data_value.specs.declared.Value.{Value}
use Rattle.data_value.specs.declared.Value.TheVariants.{One, Map}
use Rattle.data_value.specs.declared.Op.{Op}
use Rattle.data_value.specs.Sorts.{op_sort, is_scalar_sort}
use Rattle.data_value.specs.Values.{IsValue, value_sort}
use Rattle.data_value.specs.Ops.{op_value}
use Rattle.data_value.specs.Nodes.{AllValid, IsConstant, IsApplied, known_scalar, sorts_of, meanings_of}
use Rattle.data_value.specs.Ground.{ground_seen}
use Rattle.data_value.proofs.OpLemmas.{operator_keeps_sort}
use Rattle.data_value.proofs.TestLemmas.{decides_value}

-- the nodes of `Ground` are its values
pub ground_values : (xs : List Value) → AllValid ground_seen xs → All IsValue xs
ground_values [] a = All-nil IsValue
ground_values (x ∷ xs) a = All-cons IsValue x xs ((decides_value x).0 (All-head (λ y. IsTrue (ground_seen y).valid) x xs a)) (ground_values xs (All-tail (λ y. IsTrue (ground_seen y).valid) x xs a))

same_sorts : (xs : List Value) → sorts_of ground_seen xs ≡ map value_sort xs
same_sorts [] = refl
same_sorts (x ∷ xs) = ap (λ l. value_sort x ∷ l) (same_sorts xs)

same_meanings : (v xs : List Value) → meanings_of ground_seen v xs ≡ xs
same_meanings v [] = refl
same_meanings v (x ∷ xs) = ap (λ l. x ∷ l) (same_meanings v xs)

pub ground_sorted : (op : Op) (xs : List Value) → IsSome (op_sort op (sorts_of ground_seen xs)) → IsSome (op_sort op (map value_sort xs))
ground_sorted op xs h = subst (λ l. IsSome (op_sort op l)) (same_sorts xs) h

pub ground_constant : (x y : Value) → IsValue x → y ≡ x → IsConstant ground_seen x y
ground_constant x y ok e = record {
  valid = (decides_value y).1 (subst IsValue (sym e) ok);
  sort = ap value_sort e;
  means = λ v. e;
  knows = ap known_scalar e;
}

scalar_known : (x : Value) → IsTrue (is_scalar_sort (value_sort x)) → IsSome (known_scalar x)
scalar_known (One s) h = refl
scalar_known (Map m) h = h

there : (o : Option DataSort) → IsSome o → (s : DataSort) × (o ≡ Some s)
there None h = absurd (cc)
there (Some s) h = (s, refl)

pub ground_applied : (op : Op) (xs : List Value) (y : Value) → AllValid ground_seen xs → IsSome (op_sort op (sorts_of ground_seen xs)) → y ≡ op_value op xs → IsApplied ground_seen ground_seen op xs y
ground_applied op xs y ok h e =
    let s = there (op_sort op (sorts_of ground_seen xs)) h in
    let kept = operator_keeps_sort op xs s.0 (ground_values xs ok) (ap (op_sort op) (sym (same_sorts xs)) ∙ s.1) in
    record {
      valid = (decides_value y).1 (subst IsValue (sym e) kept.value);
      sort = s.1 ∙ ap Some (sym (ap value_sort e ∙ kept.sort));
      means = λ v. e ∙ ap (op_value op) (sym (same_meanings v xs));
      knows = λ scalar known. scalar_known y scalar;
      small = omega arith;
    }
