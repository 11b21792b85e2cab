-- Truth values of which something is known, and operators that take back another.
use Rattle.std.proofs.Common.{arith, ◌≡◌, ℕ, ◌+◌, ◌-◌, ◌^◌, ◌<◌, zero, suc, Bool, true, false, not, IsTrue, List, [], ◌∷◌, Some, refl, sym, ap, ◌∙◌, subst}
use Rattle.std.proofs.lemmas.List.Elements.{All-nil, All-cons, All-head}
use Rattle.std.proofs.Math.Nat.{mod-eq_of_lt, mod_self}
use Rattle.data_value.specs.declared.DataSort.{DataSort}
use Rattle.data_value.specs.declared.DataSort.TheVariants.{Bool as BoolSort, Bits as BitsSort, Map as MapSort}
use Rattle.data_value.specs.declared.Scalar.TheVariants.{Flag, Bits}
use Rattle.data_value.specs.declared.Value.{Value}
use Rattle.data_value.specs.declared.Value.TheVariants.{One}
use Rattle.data_value.specs.declared.Op.{Op}
use Rattle.data_value.specs.declared.Op.TheVariants.{Neg, Not, Eq}
use Rattle.data_value.specs.Sorts.{op_sort}
use Rattle.data_value.specs.Words.{wrap}
use Rattle.data_value.specs.Values.{IsValueOf}
use Rattle.data_value.specs.Ops.{op_value}
use Rattle.data_value.specs.Nodes.{Seen, Apply, IsValuation, IsLawful, AllValid, meanings_of}
use Rattle.data_value.specs.Views.{IsShown, shown_args, shown_sort, shown_value, shown_size}
use Rattle.data_value.proofs.NodeLemmas.{means_known}
use Rattle.simplify.specs.Simpler.{IsSimplerThan}
use Rattle.simplify.specs.Rewrites.{AreNoHarder, IsScalarFor, IsKeeping, IsSettling, TakesBack}
use Rattle.simplify.proofs.RewriteLemmas.{one_size, two_sizes}
use Rattle.simplify.proofs.SameLemmas.{flag_form, by_word}

negated : (w x : ℕ) → x < 2 ^ w → wrap w (2 ^ w - wrap w (2 ^ w - x)) ≡ x
negated w zero below =
    let once : wrap w (2 ^ w - 0) ≡ 0 = (let n : 2 ^ w - 0 ≡ 2 ^ w = omega arith in ap (wrap w) n ∙ mod_self (2 ^ w)) in
    ap (λ k. wrap w (2 ^ w - k)) once ∙ once
negated w (suc x) below =
    let less : 2 ^ w - suc x < 2 ^ w = omega arith in
    let once : wrap w (2 ^ w - suc x) ≡ 2 ^ w - suc x = mod-eq_of_lt less in
    let back : 2 ^ w - (2 ^ w - suc x) ≡ suc x = omega arith in
    ap (λ k. wrap w (2 ^ w - k)) once ∙ ap (wrap w) back ∙ mod-eq_of_lt below

pub neg_taken_back : TakesBack Neg Neg
neg_taken_back BoolSort t e = absurd (cc)
neg_taken_back (BitsSort w) t e =
    let is : t ≡ BitsSort w = cc in
    (ap (λ s. op_sort Neg (s ∷ [])) is, by_word w (λ m. op_value Neg (op_value Neg (m ∷ []) ∷ []) ≡ m) (λ x below. ap (λ k. One (Bits w k)) (negated w x below)))
neg_taken_back (MapSort k w) t e = absurd (cc)

module _ {N : Type 0} (f : N → Seen N) (vars : List DataSort) (laws : IsLawful f vars) (op : Op) (a b : N) (ok_a : IsTrue (f a).valid) (ok_b : IsTrue (f b).valid) (q : Bool) where
  module _ (sort : (f a).sort ≡ BoolSort) (known : (f b).known ≡ Some (Flag q)) where
    right_values : (v : List Value) → IsValuation vars v → (p : Bool) × ((f a).meaning v ≡ One (Flag p)) × (op_value op (meanings_of f v (a ∷ b ∷ [])) ≡ op_value op (One (Flag p) ∷ One (Flag q) ∷ []))
    right_values v fits =
        let p = flag_form ((f a).meaning v) (subst (λ s. IsValueOf s ((f a).meaning v)) sort (laws.sorted a ok_a v fits)) in
        (p.flag, p.is, ap (λ m. op_value op (m ∷ (f b).meaning v ∷ [])) p.is ∙ ap (λ m. op_value op (One (Flag p.flag) ∷ m ∷ [])) (laws.known b (Flag q) ok_b known v))

    pub keeps_right : IsKeeping op q → (t : Seen N) → t ≡ f a → IsSimplerThan vars f op (a ∷ b ∷ []) t
    keeps_right is t same =
        let second = (means_known f vars laws b ok_b (Flag q) known).0.sort in
        subst (IsSimplerThan vars f op (a ∷ b ∷ [])) (sym same) (record {
          valid = ok_a;
          sort = ap (λ s. op_sort op (s ∷ (f b).sort ∷ [])) sort ∙ ap (λ s. op_sort op (BoolSort ∷ s ∷ [])) (sym second) ∙ is.sort ∙ ap Some (sym sort);
          means = λ v fits. let p = right_values v fits in p.1 ∙ sym (is.right p.0) ∙ sym p.2;
          small = let s = two_sizes f a b in omega arith;
        })

    pub settles_right : IsSettling op q → IsScalarFor vars f op (a ∷ b ∷ []) (Flag q)
    settles_right is = record { means = λ v fits. let p = right_values v fits in p.2 ∙ is.right p.0 }

  module _ (known : (f a).known ≡ Some (Flag q)) (sort : (f b).sort ≡ BoolSort) where
    left_values : (v : List Value) → IsValuation vars v → (p : Bool) × ((f b).meaning v ≡ One (Flag p)) × (op_value op (meanings_of f v (a ∷ b ∷ [])) ≡ op_value op (One (Flag q) ∷ One (Flag p) ∷ []))
    left_values v fits =
        let p = flag_form ((f b).meaning v) (subst (λ s. IsValueOf s ((f b).meaning v)) sort (laws.sorted b ok_b v fits)) in
        (p.flag, p.is, ap (λ m. op_value op ((f a).meaning v ∷ m ∷ [])) p.is ∙ ap (λ m. op_value op (m ∷ One (Flag p.flag) ∷ [])) (laws.known a (Flag q) ok_a known v))

    pub keeps_left : IsKeeping op q → (t : Seen N) → t ≡ f b → IsSimplerThan vars f op (a ∷ b ∷ []) t
    keeps_left is t same =
        let first = (means_known f vars laws a ok_a (Flag q) known).0.sort in
        subst (IsSimplerThan vars f op (a ∷ b ∷ [])) (sym same) (record {
          valid = ok_b;
          sort = ap (λ s. op_sort op ((f a).sort ∷ s ∷ [])) sort ∙ ap (λ s. op_sort op (s ∷ BoolSort ∷ [])) (sym first) ∙ is.sort ∙ ap Some (sym sort);
          means = λ v fits. let p = left_values v fits in p.1 ∙ sym (is.left p.0) ∙ sym p.2;
          small = let s = two_sizes f a b in omega arith;
        })

    pub settles_left : IsSettling op q → IsScalarFor vars f op (a ∷ b ∷ []) (Flag q)
    settles_left is = record { means = λ v fits. let p = left_values v fits in p.2 ∙ is.left p.0 }

-- an equality with false is no easier than the negation of the other truth value
module _ {N : Type 0} (f : N → Seen N) (vars : List DataSort) (laws : IsLawful f vars) (a b : N) (ok_a : IsTrue (f a).valid) (ok_b : IsTrue (f b).valid) where
  denied : (p : Bool) → One (Flag (not p)) ≡ op_value Eq (One (Flag p) ∷ One (Flag false) ∷ [])
  denied true = refl
  denied false = refl

  denied_first : (p : Bool) → One (Flag (not p)) ≡ op_value Eq (One (Flag false) ∷ One (Flag p) ∷ [])
  denied_first true = refl
  denied_first false = refl

  pub false_right : (f a).sort ≡ BoolSort → (f b).known ≡ Some (Flag false) → AreNoHarder vars f Eq (a ∷ b ∷ []) Not (a ∷ [])
  false_right sort known =
      let second = (means_known f vars laws b ok_b (Flag false) known).0.sort in
      record {
        valid = All-cons (λ n. IsTrue (f n).valid) a [] ok_a (All-nil (λ n. IsTrue (f n).valid));
        sort =
            ap (λ s. op_sort Not (s ∷ [])) sort
            ∙ ap (λ s. op_sort Eq (BoolSort ∷ s ∷ [])) second
            ∙ ap (λ s. op_sort Eq (s ∷ (f b).sort ∷ [])) (sym sort);
        means = λ v fits.
            let p = right_values f vars laws Eq a b ok_a ok_b false sort known v fits in
            ap (λ m. op_value Not (m ∷ [])) p.1 ∙ denied p.0 ∙ sym p.2;
        small = let p = two_sizes f a b in let q = one_size f a in omega arith;
      }

  pub false_left : (f b).sort ≡ BoolSort → (f a).known ≡ Some (Flag false) → AreNoHarder vars f Eq (a ∷ b ∷ []) Not (b ∷ [])
  false_left sort known =
      let first = (means_known f vars laws a ok_a (Flag false) known).0.sort in
      record {
        valid = All-cons (λ n. IsTrue (f n).valid) b [] ok_b (All-nil (λ n. IsTrue (f n).valid));
        sort =
            ap (λ s. op_sort Not (s ∷ [])) sort
            ∙ ap (λ s. op_sort Eq (s ∷ BoolSort ∷ [])) first
            ∙ ap (λ s. op_sort Eq ((f a).sort ∷ s ∷ [])) (sym sort);
        means = λ v fits.
            let p = left_values f vars laws Eq a b ok_a ok_b false known sort v fits in
            ap (λ m. op_value Not (m ∷ [])) p.1 ∙ denied_first p.0 ∙ sym p.2;
        small = let p = two_sizes f a b in let q = one_size f b in omega arith;
      }

-- an operator takes back the one that a node shows
pub back_simpler : {N : Type 0} (f : N → Seen N) (vars : List DataSort) → IsLawful f vars → (op inner : Op) (a x : N) → IsShown f vars a → (f a).shown ≡ Apply inner (x ∷ []) → TakesBack op inner → (t : Seen N) → t ≡ f x → IsSimplerThan vars f op (a ∷ []) t
back_simpler f vars laws op inner a x is e takes t same =
    let valid : AllValid f (x ∷ []) = subst (λ s. AllValid f (shown_args s)) e is.args_valid in
    let ok = All-head (λ n. IsTrue (f n).valid) x [] valid in
    let sort : op_sort inner ((f x).sort ∷ []) ≡ Some (f a).sort = ap (shown_sort f vars) (sym e) ∙ is.sort in
    let back = takes (f x).sort (f a).sort sort in
    subst (IsSimplerThan vars f op (a ∷ [])) (sym same) (record {
      valid = ok;
      sort = back.0;
      means = λ v fits. sym (back.1 ((f x).meaning v) (laws.sorted x ok v fits)) ∙ ap (λ m. op_value op (m ∷ [])) (sym (is.means v ∙ ap (shown_value f v) e));
      small = let p : (f a).size ≡ 1 + ((f x).size + 0) = is.size ∙ ap (shown_size f) e ∙ ap (λ k. 1 + k) (one_size f x) in let q = one_size f a in omega arith;
    })
