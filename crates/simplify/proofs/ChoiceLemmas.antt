-- Choices by known conditions.
use Rattle.std.proofs.Common.{arith, ◌≡◌, Bool, true, false, if◌then◌else◌, IsTrue, IsSome, List, [], ◌∷◌, Some, None, refl, sym, ap, ◌∙◌, subst}
use Rattle.data_value.specs.declared.DataSort.{DataSort}
use Rattle.data_value.specs.declared.DataSort.TheVariants.{Bool as BoolSort, Bits as BitsSort, Map as MapSort}
use Rattle.data_value.specs.declared.Scalar.{Scalar}
use Rattle.data_value.specs.declared.Scalar.TheVariants.{Flag}
use Rattle.data_value.specs.declared.Value.{Value}
use Rattle.data_value.specs.declared.Value.TheVariants.{One, Map}
use Rattle.data_value.specs.declared.Op.{Op}
use Rattle.data_value.specs.declared.Op.TheVariants.{Ite}
use Rattle.data_value.specs.Sorts.{op_sort, choice_sort, is_scalar_sort, same_sort}
use Rattle.data_value.specs.Values.{IsValueOf, scalar_of, flag_of}
use Rattle.data_value.specs.Ops.{op_value}
use Rattle.data_value.specs.Nodes.{Seen, IsLawful, sorts_of}
use Rattle.data_value.proofs.TestLemmas.{decides_sort}
use Rattle.simplify.specs.Simpler.{IsSimplerThan}
use Rattle.simplify.proofs.RewriteLemmas.{three_sizes}

-- a value of a scalar sort is the scalar that it is
scalar_is : (s : DataSort) (x : Value) → IsValueOf s x → is_scalar_sort s ≡ true → x ≡ One (scalar_of x)
scalar_is s (One c) is scalar = refl
scalar_is BoolSort (Map m) is scalar = absurd (let e = is.sort in cc)
scalar_is (BitsSort w) (Map m) is scalar = absurd (let e = is.sort in cc)
scalar_is (MapSort k w) (Map m) is scalar = absurd (cc)

-- what a choice has where it has a sort
record IsChoice (s a b : DataSort) : Type 0 where
  pub sort : choice_sort (s ∷ a ∷ b ∷ []) ≡ Some a
  pub scalar : is_scalar_sort a ≡ true
  pub same : a ≡ b

chosen : (a b : DataSort) (p q : Bool) → is_scalar_sort a ≡ p → same_sort a b ≡ q → IsSome (choice_sort (BoolSort ∷ a ∷ b ∷ [])) → IsChoice BoolSort a b
chosen a b true true e h is =
    record {
      sort = rw (e, h) refl;
      scalar = e;
      same = (decides_sort a b).0 h;
    }
chosen a b true false e h is = let bad : IsSome {T = DataSort} None = rw (e, h) at is in absurd (cc)
chosen a b false q e h is = let bad : IsSome {T = DataSort} None = rw e at is in absurd (cc)

is_choice : (s a b : DataSort) → IsSome (choice_sort (s ∷ a ∷ b ∷ [])) → IsChoice s a b
is_choice BoolSort a b is = chosen a b (is_scalar_sort a) (same_sort a b) refl refl is
is_choice (BitsSort w) a b is = absurd (cc)
is_choice (MapSort k w) a b is = absurd (cc)

module _ {N : Type 0} (f : N → Seen N) (vars : List DataSort) (laws : IsLawful f vars) (op : Op) (c a b : N) (ite : op ≡ Ite) (ok_c : IsTrue (f c).valid) (ok_a : IsTrue (f a).valid) (ok_b : IsTrue (f b).valid) (sorted : IsSome (op_sort op (sorts_of f (c ∷ a ∷ b ∷ [])))) where
  is : IsChoice (f c).sort (f a).sort (f b).sort
  is = is_choice (f c).sort (f a).sort (f b).sort (subst (λ o. IsSome (op_sort o (sorts_of f (c ∷ a ∷ b ∷ [])))) ite sorted)

  pub choice_true : (t : Seen N) → (f c).known ≡ Some (Flag true) → t ≡ f a → IsSimplerThan vars f op (c ∷ a ∷ b ∷ []) t
  choice_true t known same =
      subst (IsSimplerThan vars f op (c ∷ a ∷ b ∷ [])) (sym same) (subst (λ o. IsSimplerThan vars f o (c ∷ a ∷ b ∷ []) (f a)) (sym ite) (record {
        valid = ok_a;
        sort = is.sort;
        means = λ v fits.
            scalar_is (f a).sort ((f a).meaning v) (laws.sorted a ok_a v fits) is.scalar
            ∙ ap (λ m. op_value Ite (m ∷ (f a).meaning v ∷ (f b).meaning v ∷ [])) (sym (laws.known c (Flag true) ok_c known v));
        small = let s = three_sizes f c a b in omega arith;
      }))

  pub choice_false : (t : Seen N) → (f c).known ≡ Some (Flag false) → t ≡ f b → IsSimplerThan vars f op (c ∷ a ∷ b ∷ []) t
  choice_false t known same =
      subst (IsSimplerThan vars f op (c ∷ a ∷ b ∷ [])) (sym same) (subst (λ o. IsSimplerThan vars f o (c ∷ a ∷ b ∷ []) (f b)) (sym ite) (record {
        valid = ok_b;
        sort = is.sort ∙ ap Some is.same;
        means = λ v fits.
            scalar_is (f b).sort ((f b).meaning v) (laws.sorted b ok_b v fits) (ap is_scalar_sort (sym is.same) ∙ is.scalar)
            ∙ ap (λ m. op_value Ite (m ∷ (f a).meaning v ∷ (f b).meaning v ∷ [])) (sym (laws.known c (Flag false) ok_c known v));
        small = let s = three_sizes f c a b in omega arith;
      }))

  pub choice_same : (t : Seen N) → f a ≡ f b → t ≡ f a → IsSimplerThan vars f op (c ∷ a ∷ b ∷ []) t
  choice_same t alike same =
      subst (IsSimplerThan vars f op (c ∷ a ∷ b ∷ [])) (sym same) (subst (λ o. IsSimplerThan vars f o (c ∷ a ∷ b ∷ []) (f a)) (sym ite) (record {
        valid = ok_a;
        sort = is.sort;
        means = λ v fits.
            scalar_is (f a).sort ((f a).meaning v) (laws.sorted a ok_a v fits) is.scalar
            ∙ either ((f c).meaning v) ((f a).meaning v)
            ∙ ap (λ s. op_value Ite ((f c).meaning v ∷ (f a).meaning v ∷ s.meaning v ∷ [])) alike;
        small = let s = three_sizes f c a b in omega arith;
      }))
    where
      by : (t : Bool) (x : Scalar) → One x ≡ One (if t then x else x)
      by true x = refl
      by false x = refl

      either : (m x : Value) → One (scalar_of x) ≡ op_value Ite (m ∷ x ∷ x ∷ [])
      either m x = by (flag_of (scalar_of m)) (scalar_of x)
