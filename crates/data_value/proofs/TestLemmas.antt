-- The tests of the definitions tell what they are tests for.
use Rattle.std.proofs.Common.{◌≡◌, true, false, ◌==◌, Decides, refl, sym, ap, ◌∙◌}
use Rattle.std.proofs.lemmas.Bool.{eqb-true, eq-eqb, and_parts, and_from}
use Rattle.data_value.specs.declared.DataSort.{DataSort}
use Rattle.data_value.specs.declared.DataSort.TheVariants.{Bool as BoolSort, Bits as BitsSort, Map as MapSort}
use Rattle.data_value.specs.declared.Scalar.{Scalar}
use Rattle.data_value.specs.declared.Scalar.TheVariants.{Flag, Bits}
use Rattle.data_value.specs.Sorts.{IsSort, is_sort, is_width, same_sort}
use Rattle.data_value.specs.Values.{same_scalar}
use Rattle.std.proofs.lemmas.Bool.Decides.{Decides-and}
pub use Rattle.data_value.specs.ValueTests.{decides_value, decides_width}

-- the widths of a sort that passes the test are widths
pub decides_in_range : (s : DataSort) → Decides (is_sort s) (IsSort s)
decides_in_range BoolSort = (λ _. tt, λ _. refl)
decides_in_range (BitsSort w) = decides_width w
decides_in_range (MapSort k v) = Decides-and (is_width k) (is_width v) (decides_width k) (decides_width v)

-- sorts that pass the test are equal
pub sorts_agree : (a b : DataSort) → same_sort a b ≡ true → a ≡ b
sorts_agree BoolSort BoolSort e = refl
sorts_agree (BitsSort v) (BitsSort w) e = ap BitsSort (eqb-true v w e)
sorts_agree (MapSort j v) (MapSort k w) e =
    let p = and_parts (j == k) (v == w) e in
    let keys = eqb-true j k p.0 in
    let words = eqb-true v w p.1 in
    cc
sorts_agree _ _ e = cc

same_sort-refl : (a : DataSort) → same_sort a a ≡ true
same_sort-refl BoolSort = refl
same_sort-refl (BitsSort w) = eq-eqb w w refl
same_sort-refl (MapSort k w) = and_from (k == k) (w == w) (eq-eqb k k refl) (eq-eqb w w refl)

pub decides_sort : (a b : DataSort) → Decides (same_sort a b) (a ≡ b)
decides_sort a b = (sorts_agree a b, λ e. ap (same_sort a) (sym e) ∙ same_sort-refl a)

scalars_agree : (a b : Scalar) → same_scalar a b ≡ true → a ≡ b
scalars_agree (Flag true) (Flag true) e = refl
scalars_agree (Flag false) (Flag false) e = refl
scalars_agree (Bits v x) (Bits w y) e =
    let p = and_parts (v == w) (x == y) e in
    let widths = eqb-true v w p.0 in
    let words = eqb-true x y p.1 in
    cc
scalars_agree _ _ e = cc

same_scalar-refl : (a : Scalar) → same_scalar a a ≡ true
same_scalar-refl (Flag true) = refl
same_scalar-refl (Flag false) = refl
same_scalar-refl (Bits w x) = and_from (w == w) (x == x) (eq-eqb w w refl) (eq-eqb x x refl)

pub decides_scalar : (a b : Scalar) → Decides (same_scalar a b) (a ≡ b)
decides_scalar a b = (scalars_agree a b, λ e. ap (same_scalar a) (sym e) ∙ same_scalar-refl a)
