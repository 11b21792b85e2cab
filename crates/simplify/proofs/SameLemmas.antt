-- Operators that take one value twice.
use Rattle.std.proofs.Common.{arith, ◌≡◌, ℕ, ◌<◌, ◌^◌, Bool, IsTrue, IsSome, List, [], ◌∷◌, refl, sym, ap, ◌∙◌, subst}
use Rattle.std.specs.Int.Bits.{and_self, or_self}
use Rattle.std.proofs.Math.Bool as bool
use Rattle.data_value.specs.declared.DataSort.{DataSort}
use Rattle.data_value.specs.declared.DataSort.TheVariants.{Bool as BoolSort, Bits as BitsSort, Map as MapSort}
use Rattle.data_value.specs.declared.Scalar.{Scalar}
use Rattle.data_value.specs.declared.Scalar.TheVariants.{Flag, Bits}
use Rattle.data_value.specs.declared.Value.{Value}
use Rattle.data_value.specs.declared.Value.TheVariants.{One, Map}
use Rattle.data_value.specs.declared.Op.{Op}
use Rattle.data_value.specs.declared.Op.TheVariants.{And, Or, BvAnd, BvOr}
use Rattle.data_value.specs.Sorts.{op_sort}
use Rattle.data_value.specs.Values.{IsValueOf}
use Rattle.data_value.specs.Ops.{op_value}
use Rattle.data_value.specs.Nodes.{Seen, IsLawful, sorts_of}
use Rattle.simplify.specs.Simpler.{IsSimplerThan}
use Rattle.simplify.specs.Rewrites.{IsIdempotent, IsScalarAtSame, IsScalarFor}
use Rattle.simplify.proofs.WordLemmas.{one_width}
use Rattle.simplify.proofs.RewriteLemmas.{word_form, two_sizes}

-- a value of the sort of truth values is a truth value
pub record IsFlag (m : Value) : Type 0 where
  pub flag : Bool
  pub is : m ≡ One (Flag flag)

pub flag_form : (m : Value) → IsValueOf BoolSort m → IsFlag m
flag_form (One (Flag b)) h = record { flag = b; is = refl }
flag_form (Map m) h = absurd (let e = h.sort in cc)
flag_form (One (Bits u x)) h = absurd (let e = h.sort in cc)

-- what holds of all truth values, or of all words of a width, holds of the values of the sort
pub by_flag : (P : Value → Type 0) → ((b : Bool) → P (One (Flag b))) → (m : Value) → IsValueOf BoolSort m → P m
by_flag P each m h = let f = flag_form m h in subst P (sym f.is) (each f.flag)

pub by_word : (w : ℕ) (P : Value → Type 0) → ((x : ℕ) → x < 2 ^ w → P (One (Bits w x))) → (m : Value) → IsValueOf (BitsSort w) m → P m
by_word w P each m h = let f = word_form w m h in subst P (sym f.is) (each f.number f.below)

pub and_idempotent : IsIdempotent And
and_idempotent BoolSort h = (refl, by_flag (λ m. op_value And (m ∷ m ∷ []) ≡ m) (λ b. ap (λ k. One (Flag k)) (bool.and_self b)))
and_idempotent (BitsSort w) h = absurd (cc)
and_idempotent (MapSort k w) h = absurd (cc)

pub or_idempotent : IsIdempotent Or
or_idempotent BoolSort h = (refl, by_flag (λ m. op_value Or (m ∷ m ∷ []) ≡ m) (λ b. ap (λ k. One (Flag k)) (bool.or_self b)))
or_idempotent (BitsSort w) h = absurd (cc)
or_idempotent (MapSort k w) h = absurd (cc)

pub bit_and_idempotent : IsIdempotent BvAnd
bit_and_idempotent BoolSort h = absurd (cc)
bit_and_idempotent (BitsSort w) h = (one_width w BitsSort, by_word w (λ m. op_value BvAnd (m ∷ m ∷ []) ≡ m) (λ x below. ap (λ k. One (Bits w k)) (and_self x)))
bit_and_idempotent (MapSort k w) h = absurd (cc)

pub bit_or_idempotent : IsIdempotent BvOr
bit_or_idempotent BoolSort h = absurd (cc)
bit_or_idempotent (BitsSort w) h = (one_width w BitsSort, by_word w (λ m. op_value BvOr (m ∷ m ∷ []) ≡ m) (λ x below. ap (λ k. One (Bits w k)) (or_self x)))
bit_or_idempotent (MapSort k w) h = absurd (cc)

module _ {N : Type 0} (f : N → Seen N) (vars : List DataSort) (laws : IsLawful f vars) (op : Op) (a b : N) (ok : IsTrue (f a).valid) (same : f a ≡ f b) where
  pub same_simpler : IsSome (op_sort op (sorts_of f (a ∷ b ∷ []))) → IsIdempotent op → (t : Seen N) → t ≡ f a → IsSimplerThan vars f op (a ∷ b ∷ []) t
  same_simpler sorted is t copied =
      let once = is (f a).sort (subst (λ s. IsSome (op_sort op ((f a).sort ∷ s.sort ∷ []))) (sym same) sorted) in
      subst (IsSimplerThan vars f op (a ∷ b ∷ [])) (sym copied) (record {
        valid = ok;
        sort = ap (λ s. op_sort op ((f a).sort ∷ s.sort ∷ [])) (sym same) ∙ once.0;
        means = λ v fits. sym (once.1 ((f a).meaning v) (laws.sorted a ok v fits)) ∙ ap (λ s. op_value op ((f a).meaning v ∷ s.meaning v ∷ [])) same;
        small = let s = two_sizes f a b in omega arith;
      })

  pub same_known : (sort : DataSort) (c : Scalar) → (f a).sort ≡ sort → IsScalarAtSame op sort c → IsScalarFor vars f op (a ∷ b ∷ []) c
  same_known sort c e is = record {
    means = λ v fits.
        ap (λ s. op_value op ((f a).meaning v ∷ s.meaning v ∷ [])) (sym same)
        ∙ is ((f a).meaning v) (subst (λ s. IsValueOf s ((f a).meaning v)) e (laws.sorted a ok v fits));
  }
