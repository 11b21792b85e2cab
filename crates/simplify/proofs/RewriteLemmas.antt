-- What operators at nodes come to.
use Rattle.std.proofs.Common.{arith, ◌≡◌, ℕ, ◌+◌, ◌<◌, ◌^◌, IsTrue, IsSome, List, [], ◌∷◌, map, All, Option, Some, None, refl, sym, ap, ◌∙◌, subst}
use Rattle.std.proofs.lemmas.List.Elements.{All-nil, All-cons, All-head, All-tail}
use Rattle.std.proofs.lemmas.List.Sums.{sum_by-cons}
use Rattle.std.specs.Prelude.{IfSome}
use Rattle.data_value.specs.declared.DataSort.{DataSort}
use Rattle.data_value.specs.declared.DataSort.TheVariants.{Bits as BitsSort}
use Rattle.data_value.specs.declared.Scalar.{Scalar}
use Rattle.data_value.specs.declared.Scalar.TheVariants.{Flag, Bits}
use Rattle.data_value.specs.declared.Value.{Value}
use Rattle.data_value.specs.declared.Value.TheVariants.{One, Map}
use Rattle.data_value.specs.declared.Op.{Op}
use Rattle.data_value.specs.Sorts.{op_sort}
use Rattle.data_value.specs.Values.{IsScalar, IsValue, IsValueOf, scalar_sort, value_sort}
use Rattle.data_value.specs.Ops.{op_value}
use Rattle.data_value.specs.Trials.{trial}
use Rattle.data_value.specs.Nodes.{Seen, Extends, IsValuation, IsLawful, IsConstant, IsApplied, AllValid, sorts_of, meanings_of, sizes_of}
use Rattle.data_value.specs.Views.{IsShown}
use Rattle.data_value.specs.Alike.{AreAlike}
use Rattle.data_value.proofs.AlikeLemmas.{sorts_alike, meanings_alike, sizes_alike}
use Rattle.data_value.proofs.NodeLemmas.{means_known}
use Rattle.data_value.proofs.OpLemmas.{operator_keeps_sort}
use Rattle.data_value.proofs.TrialLemmas.{trial_fits}
use Rattle.simplify.proofs.ConstantLemmas.{size_of_constant}
use Rattle.simplify.specs.Simpler.{IsSimplerThan}
use Rattle.simplify.specs.Rewrites.{IsScalarFor, IsNoHarderWith, AreNoHarder, IsNeutral, IsCommutative, IsAbsorbingFirst, IsRewritten, IsWordRewritten}
use Rattle.simplify.specs.declared.rewritten.Rewritten.{Rewritten}
use Rattle.simplify.specs.declared.rewritten.Rewritten.TheVariants as rewritten

-- a value of the sort of words of a width is a word of that width
pub record IsWord (w : ℕ) (m : Value) : Type 0 where
  pub number : ℕ
  pub is : m ≡ One (Bits w number)
  pub below : number < 2 ^ w

pub word_form : (w : ℕ) (m : Value) → IsValueOf (BitsSort w) m → IsWord w m
word_form w (One (Flag b)) h = absurd (let e = h.sort in cc)
word_form w (Map m) h = absurd (let e = h.sort in cc)
word_form w (One (Bits u x)) h =
    let e : u ≡ w = (let s = h.sort in cc) in
    record { number = x; is = ap (λ k. One (Bits k x)) e; below = subst (λ k. x < 2 ^ k) e h.value.1 }

-- there is a sort where there is said to be one
pub there : (o : Option DataSort) → IsSome o → (s : DataSort) × (o ≡ Some s)
there None h = absurd (cc)
there (Some s) h = (s, refl)

module _ {N : Type 0} (f : N → Seen N) where
  pub one_size : (a : N) → sizes_of f (a ∷ []) ≡ (f a).size + 0
  one_size a = sum_by-cons (λ n. (f n).size) a []

  pub two_sizes : (a b : N) → sizes_of f (a ∷ b ∷ []) ≡ (f a).size + ((f b).size + 0)
  two_sizes a b = sum_by-cons (λ n. (f n).size) a (b ∷ []) ∙ ap (λ k. (f a).size + k) (one_size b)

  pub three_sizes : (c a b : N) → sizes_of f (c ∷ a ∷ b ∷ []) ≡ (f c).size + ((f a).size + ((f b).size + 0))
  three_sizes c a b = sum_by-cons (λ n. (f n).size) c (a ∷ b ∷ []) ∙ ap (λ k. (f c).size + k) (two_sizes a b)

  module _ (vars : List DataSort) (laws : IsLawful f vars) where
    first_trial : IsValuation vars (trial 0 vars)
    first_trial = let t = trial_fits 0 vars laws.sorts in record { values = t.0; sorted = t.1 }

    values_all : (v : List Value) → IsValuation vars v → (ns : List N) → AllValid f ns → All IsValue (meanings_of f v ns)
    values_all v fits [] ok = All-nil IsValue
    values_all v fits (n ∷ ns) ok =
        All-cons IsValue ((f n).meaning v) (meanings_of f v ns) (laws.sorted n (All-head (λ m. IsTrue (f m).valid) n ns ok) v fits).value (values_all v fits ns (All-tail (λ m. IsTrue (f m).valid) n ns ok))

    sorts_all : (v : List Value) → IsValuation vars v → (ns : List N) → AllValid f ns → map value_sort (meanings_of f v ns) ≡ sorts_of f ns
    sorts_all v fits [] ok = refl
    sorts_all v fits (n ∷ ns) ok =
        let here : value_sort ((f n).meaning v) ≡ (f n).sort = (laws.sorted n (All-head (λ m. IsTrue (f m).valid) n ns ok) v fits).sort in
        let rest : map value_sort (meanings_of f v ns) ≡ sorts_of f ns = sorts_all v fits ns (All-tail (λ m. IsTrue (f m).valid) n ns ok) in
        λ i. here i ∷ rest i

    -- an operator that means one scalar has the sort of this scalar
    pub known_value : (op : Op) (args : List N) (c : Scalar) → AllValid f args → IsSome (op_sort op (sorts_of f args)) → IsScalarFor vars f op args c → IsScalar c × (op_sort op (sorts_of f args) ≡ Some (scalar_sort c))
    known_value op args c ok sorted is =
        let s = there (op_sort op (sorts_of f args)) sorted in
        let v = trial 0 vars in
        let kept = operator_keeps_sort op (meanings_of f v args) s.0 (values_all v first_trial args ok) (ap (op_sort op) (sorts_all v first_trial args ok) ∙ s.1) in
        let one : IsValueOf s.0 (One c) = subst (IsValueOf s.0) (is.means v first_trial) kept in
        (one.value, s.1 ∙ ap Some (sym one.sort))

    pub known_simpler : (g : N → Seen N) (others : List DataSort) (op : Op) (args : List N) (c : Scalar) (n : N) → AllValid f args → IsSome (op_sort op (sorts_of f args)) → IsScalarFor vars f op args c → IsConstant g (One c) n → IsShown g others n → IsSimplerThan vars f op args (g n)
    known_simpler g others op args c n ok sorted is made shown = record {
      valid = made.valid;
      sort = (known_value op args c ok sorted is).1 ∙ ap Some (sym made.sort);
      means = λ v fits. made.means v ∙ sym (is.means v fits);
      small = let one = size_of_constant g others n c shown made in omega arith;
    }

    -- a word that is neutral leaves what stands before it
    pub neutral_simpler : (op : Op) (a b : N) (w y : ℕ) (t : Seen N) → IsTrue (f a).valid → IsTrue (f b).valid → (f a).sort ≡ BitsSort w → (f b).known ≡ Some (Bits w y) → IsNeutral op w y → t ≡ f a → IsSimplerThan vars f op (a ∷ b ∷ []) t
    neutral_simpler op a b w y t ok_a ok_b sort known is same =
        let second = (means_known f vars laws b ok_b (Bits w y) known).0.sort in
        subst (IsSimplerThan vars f op (a ∷ b ∷ [])) (sym same) (record {
          valid = ok_a;
          sort = ap (λ s. op_sort op (s ∷ (f b).sort ∷ [])) sort ∙ ap (λ s. op_sort op (BitsSort w ∷ s ∷ [])) (sym second) ∙ is.sort ∙ ap Some (sym sort);
          means = λ v fits.
              let x = word_form w ((f a).meaning v) (subst (λ s. IsValueOf s ((f a).meaning v)) sort (laws.sorted a ok_a v fits)) in
              x.is ∙ sym (is.means x.number x.below)
              ∙ ap (λ m. op_value op (m ∷ One (Bits w y) ∷ [])) (sym x.is)
              ∙ ap (λ m. op_value op ((f a).meaning v ∷ m ∷ [])) (sym (laws.known b (Bits w y) ok_b known v));
          small = let s = two_sizes a b in omega arith;
        })

    -- with a known word on its left, an operator means the scalar that it gives with this word
    pub absorbed_first : (op : Op) (a b : N) (w y : ℕ) (c : Scalar) → IsTrue (f a).valid → IsTrue (f b).valid → (f b).sort ≡ BitsSort w → (f a).known ≡ Some (Bits w y) → IsAbsorbingFirst op w y c → IsScalarFor vars f op (a ∷ b ∷ []) c
    absorbed_first op a b w y c ok_a ok_b sort known is = record {
      means = λ v fits.
          let x = word_form w ((f b).meaning v) (subst (λ s. IsValueOf s ((f b).meaning v)) sort (laws.sorted b ok_b v fits)) in
          ap (λ m. op_value op ((f a).meaning v ∷ m ∷ [])) x.is
          ∙ ap (λ m. op_value op (m ∷ One (Bits w x.number) ∷ [])) (laws.known a (Bits w y) ok_a known v)
          ∙ is x.number x.below;
    }

    -- what an operator comes to at a word and a known word
    module _ (op : Op) (a b : N) (w y : ℕ) (ok_a : IsTrue (f a).valid) (ok_b : IsTrue (f b).valid) (sort : (f a).sort ≡ BitsSort w) (known : (f b).known ≡ Some (Bits w y)) (shown : IsShown f vars b) where
      second_sort : BitsSort w ≡ (f b).sort
      second_sort = (means_known f vars laws b ok_b (Bits w y) known).0.sort

      first_word : (v : List Value) → IsValuation vars v → IsWord w ((f a).meaning v)
      first_word v fits = word_form w ((f a).meaning v) (subst (λ s. IsValueOf s ((f a).meaning v)) sort (laws.sorted a ok_a v fits))

      at_words : (v : List Value) (fits : IsValuation vars v) → op_value op (One (Bits w (first_word v fits).number) ∷ One (Bits w y) ∷ []) ≡ op_value op (meanings_of f v (a ∷ b ∷ []))
      at_words v fits =
          ap (λ m. op_value op (m ∷ One (Bits w y) ∷ [])) (sym (first_word v fits).is)
          ∙ ap (λ m. op_value op ((f a).meaning v ∷ m ∷ [])) (sym (laws.known b (Bits w y) ok_b known v))

      pub word_rewritten : (r : Rewritten N) → IsWordRewritten f (f a) op w y r → IsRewritten vars f op (a ∷ b ∷ []) r
      word_rewritten (rewritten.Node n) h = neutral_simpler op a b w y (f n) ok_a ok_b sort known h.0 h.1
      word_rewritten (rewritten.Known c) h = record { means = λ v fits. sym (at_words v fits) ∙ h (first_word v fits).number (first_word v fits).below }
      word_rewritten (rewritten.Apply other others) h = absurd h
      word_rewritten (rewritten.With other n c) h =
          let z = h.0 in
          let is = h.2 in
          let word : IsScalar (Bits w y) = (means_known f vars laws b ok_b (Bits w y) known).0.value in
          record {
            valid = subst (λ s. IsTrue s.valid) (sym h.3) ok_a;
            scalar = subst IsScalar (sym h.1) (word.0, is.fits);
            sort =
                ap (λ s. op_sort other (s.sort ∷ scalar_sort c ∷ [])) h.3
                ∙ ap (λ k. op_sort other ((f a).sort ∷ scalar_sort k ∷ [])) h.1
                ∙ ap (λ s. op_sort other (s ∷ BitsSort w ∷ [])) sort
                ∙ is.sort
                ∙ ap (λ s. op_sort op (s ∷ BitsSort w ∷ [])) (sym sort)
                ∙ ap (λ s. op_sort op ((f a).sort ∷ s ∷ [])) second_sort;
            means = λ v fits.
                ap (λ s. op_value other (s.meaning v ∷ One c ∷ [])) h.3
                ∙ ap (λ k. op_value other ((f a).meaning v ∷ One k ∷ [])) h.1
                ∙ ap (λ m. op_value other (m ∷ One (Bits w z) ∷ [])) (first_word v fits).is
                ∙ is.means (first_word v fits).number (first_word v fits).below
                ∙ at_words v fits;
            small = let s = two_sizes a b in let e = ap (λ t. t.size) h.3 in let p = shown.size in omega arith;
          }

      pub word_found : (o : Option (Rewritten N)) → IfSome o (IsWordRewritten f (f a) op w y) → IfSome o (IsRewritten vars f op (a ∷ b ∷ []))
      word_found None h = tt
      word_found (Some r) h = word_rewritten r h

-- what another operator comes to, which is no harder, an operator comes to
module _ {N : Type 0} (vars : List DataSort) (f : N → Seen N) (op other : Op) (args others : List N) (is : AreNoHarder vars f op args other others) where
  pub through : (r : Rewritten N) → IsRewritten vars f other others r → IsRewritten vars f op args r
  through (rewritten.Node n) h = record {
    valid = h.valid;
    sort = sym is.sort ∙ h.sort;
    means = λ v fits. h.means v fits ∙ is.means v fits;
    small = let p = h.small in let q = is.small in omega arith;
  }
  through (rewritten.Known c) h = record { means = λ v fits. sym (is.means v fits) ∙ h.means v fits }
  through (rewritten.Apply third thirds) h = record {
    valid = h.valid;
    sort = h.sort ∙ is.sort;
    means = λ v fits. h.means v fits ∙ is.means v fits;
    small = let p = h.small in let q = is.small in omega arith;
  }
  through (rewritten.With third n c) h = record {
    valid = h.valid;
    scalar = h.scalar;
    sort = h.sort ∙ is.sort;
    means = λ v fits. h.means v fits ∙ is.means v fits;
    small = let p = h.small in let q = is.small in omega arith;
  }

  pub found_through : (o : Option (Rewritten N)) → IfSome o (IsRewritten vars f other others) → IfSome o (IsRewritten vars f op args)
  found_through None h = tt
  found_through (Some r) h = through r h

-- an operator at two words is no harder with them exchanged, where it commutes
pub turned : {N : Type 0} (f : N → Seen N) (vars : List DataSort) → IsLawful f vars → (op : Op) (a b : N) (w : ℕ) → IsTrue (f a).valid → IsTrue (f b).valid → (f a).sort ≡ BitsSort w → (f b).sort ≡ BitsSort w → IsCommutative op → AreNoHarder vars f op (a ∷ b ∷ []) op (b ∷ a ∷ [])
turned f vars laws op a b w ok_a ok_b first second commutes = record {
  valid = All-cons (λ n. IsTrue (f n).valid) b (a ∷ []) ok_b (All-cons (λ n. IsTrue (f n).valid) a [] ok_a (All-nil (λ n. IsTrue (f n).valid)));
  sort =
      let e = second ∙ sym first in
      ap (λ s. op_sort op (s ∷ (f a).sort ∷ [])) e ∙ ap (λ s. op_sort op ((f a).sort ∷ s ∷ [])) (sym e);
  means = λ v fits.
      let x = word_form w ((f a).meaning v) (subst (λ s. IsValueOf s ((f a).meaning v)) first (laws.sorted a ok_a v fits)) in
      let y = word_form w ((f b).meaning v) (subst (λ s. IsValueOf s ((f b).meaning v)) second (laws.sorted b ok_b v fits)) in
      ap (λ m. op_value op ((f b).meaning v ∷ m ∷ [])) x.is
      ∙ ap (λ m. op_value op (m ∷ One (Bits w x.number) ∷ [])) y.is
      ∙ commutes w y.number x.number
      ∙ ap (λ m. op_value op (One (Bits w x.number) ∷ m ∷ [])) (sym y.is)
      ∙ ap (λ m. op_value op (m ∷ (f b).meaning v ∷ [])) (sym x.is);
  small = let p = two_sizes f a b in let q = two_sizes f b a in omega arith;
}

-- the same of an operator at a node and a scalar, for which a constant was made
module _ {N : Type 0} (vars others : List DataSort) (f g : N → Seen N) (x : Extends f g) (op : Op) (args : List N) (other : Op) (node : N) (c : Scalar) (is : IsNoHarderWith vars f op args other node c) (constant : N) (made : IsConstant g (One c) constant) (nodes : List N) (alike : AreAlike g nodes (node ∷ constant ∷ [])) where
  with_sort : op_sort other (sorts_of g nodes) ≡ op_sort op (sorts_of f args)
  with_sort =
      ap (op_sort other) (sorts_alike g nodes (node ∷ constant ∷ []) alike)
      ∙ ap (λ s. op_sort other (s.sort ∷ (g constant).sort ∷ [])) (x.keeps node is.valid)
      ∙ ap (λ s. op_sort other ((f node).sort ∷ s ∷ [])) made.sort
      ∙ is.sort

  pub with_sorted : IsSome (op_sort op (sorts_of f args)) → IsSome (op_sort other (sorts_of g nodes))
  with_sorted h = subst IsSome (sym with_sort) h

  pub with_simpler : IsShown g others constant → (h : N → Seen N) (n : N) → IsApplied g h other nodes n → IsSimplerThan vars f op args (h n)
  with_simpler shown h n applied = record {
    valid = applied.valid;
    sort = sym with_sort ∙ applied.sort;
    means = λ v fits.
        applied.means v
        ∙ ap (op_value other) (meanings_alike g v nodes (node ∷ constant ∷ []) alike)
        ∙ ap (λ s. op_value other (s.meaning v ∷ (g constant).meaning v ∷ [])) (x.keeps node is.valid)
        ∙ ap (λ m. op_value other ((f node).meaning v ∷ m ∷ [])) (made.means v)
        ∙ is.means v fits;
    small =
        let one = size_of_constant g others constant c shown made in
        let kept = ap (λ s. s.size) (x.keeps node is.valid) in
        let both = sizes_alike g nodes (node ∷ constant ∷ []) alike in
        let sum = two_sizes g node constant in
        let less = is.small in
        let most = applied.small in
        omega arith;
  }
