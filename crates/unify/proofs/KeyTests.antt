-- Nodes of a sort, and tests of keys.
use Rattle.std.proofs.Common.{◌≡◌, ℕ, IsTrue, List, Some, sym, ap, ◌∙◌, subst}
use Rattle.data_value.specs.declared.DataSort.{DataSort}
use Rattle.data_value.specs.declared.DataSort.TheVariants.{Bool as BoolSort, Bits as BitsSort}
use Rattle.data_value.specs.declared.Scalar.TheVariants.{Bits}
use Rattle.data_value.specs.declared.Value.TheVariants.{One}
use Rattle.data_value.specs.Sorts.{is_scalar_sort}
use Rattle.data_value.specs.Values.{IsValueOf, word_of, scalar_of}
use Rattle.data_value.specs.Nodes.{Seen, Extends, IsConstant, IsLawful}
use Rattle.sort_term.specs.declared.term.Sort.TheVariants.{Plain}
use Rattle.sort_term.specs.NodeTerms.{node_sort}
use Rattle.sort_term.proofs.NodeTerming.{node_is}
use Rattle.data_value.specs.Truth.{IsCondition, IsTruth, mean_same}
use Rattle.unify.specs.Constants.{IsKeyTest}
use Rattle.unify.proofs.Equated.{equation_exact}
use Rattle.unify.proofs.Truths.{word_is}

-- a node of a sort
pub is_sorted : {N : Type 0} (s : Seen N) (d : DataSort) → node_sort s ≡ Some (Plain d) → IsTrue s.valid × (s.sort ≡ d)
is_sorted s d h = let r = node_is s (Plain d) h in let e : Plain d ≡ Plain s.sort = r.1 in (r.0, cc)

-- a node whose sort is bool is a condition
pub condition_from : {N : Type 0} (s : Seen N) → node_sort s ≡ Some (Plain BoolSort) → IsCondition s
condition_from s h = let r = is_sorted s BoolSort h in record { valid = r.0; sort = r.1 }

-- a key is valid after the domain has grown
pub key_stays : {N : Type 0} (f₀ f : N → Seen N) → Extends f₀ f → (key : N) (width : ℕ) → node_sort (f₀ key) ≡ Some (Plain (BitsSort width)) → IsTrue (f key).valid
key_stays f₀ f grown key width sorted =
    let ok = (is_sorted (f₀ key) (BitsSort width) sorted).0 in
    ap (λ s. s.valid) (grown.keeps key ok) ∙ ok

-- a key and a literal of its width
module _ {N : Type 0} (f₀ f : N → Seen N) (grown : Extends f₀ f) (variables : List DataSort) (key literal : N) (width number : ℕ) (sorted : node_sort (f₀ key) ≡ Some (Plain (BitsSort width))) (made : IsConstant f (One (Bits width number)) literal) where
  kept : f key ≡ f₀ key
  kept = grown.keeps key (is_sorted (f₀ key) (BitsSort width) sorted).0

  key_is : IsTrue (f key).valid × ((f key).sort ≡ BitsSort width)
  key_is = is_sorted (f key) (BitsSort width) (ap node_sort kept ∙ sorted)

  pub key_scalar : IsTrue (is_scalar_sort (f key).sort)
  key_scalar = ap is_scalar_sort key_is.1

  pub same_sorts : (f literal).sort ≡ (f key).sort
  same_sorts = made.sort ∙ sym key_is.1

  pub test_is : (s : Seen N) → IsTruth s (mean_same (f key) (f literal)) → IsLawful f variables → IsKeyTest variables (f₀ key) number s
  test_is s is laws = record {
    condition = is.condition;
    exact = λ v fit.
        let e = equation_exact f variables laws key literal key_is.0 made.valid same_sorts key_scalar s is v fit in
        let w = word_is ((f key).meaning v) width number (subst (λ d. IsValueOf d ((f key).meaning v)) key_is.1 (laws.sorted key key_is.0 v fit)) in
        let same : word_of (scalar_of ((f key).meaning v)) ≡ word_of (scalar_of ((f₀ key).meaning v)) = ap (λ s. word_of (scalar_of (s.meaning v))) kept in (
          λ h. sym same ∙ w.0 (e.0 h ∙ made.means v),
          λ h. e.1 (w.1 (same ∙ h) ∙ sym (made.means v)),
        );
  }
