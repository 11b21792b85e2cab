-- Bits of words that were widened or put together.
use Rattle.std.proofs.Common.{arith, ◌≡◌, ◌⊎◌, inl, inr, ℕ, ◌+◌, ◌-◌, ◌*◌, ◌/◌, ◌%◌, ◌^◌, ◌<◌, ◌≤◌, ◌&&◌, nat_le, nat_lt, Bool, true, false, if◌then◌else◌, All, IsTrue, IsSome, List, [], ◌∷◌, Some, None, refl, sym, ap, ◌∙◌, subst}
use Rattle.std.proofs.lemmas.Bool.{le-leb, lt-ltb, leb-true}
use Rattle.std.proofs.lemmas.List.Elements.{All-nil, All-cons, All-head, All-tail}
use Rattle.std.proofs.lemmas.Nat.{pow_pos, pow-add, div-mul-add}
use Rattle.std.proofs.Math.Nat.{mod-eq_of_lt, add-mul-mod_self_left, add-mul-div_left, mul_comm, mul_assoc, div-eq_of_lt, div-div-eq-div-mul}
use Rattle.data_value.specs.declared.DataSort.{DataSort}
use Rattle.data_value.specs.declared.DataSort.TheVariants.{Bool as BoolSort, Bits as BitsSort, Map as MapSort}
use Rattle.data_value.specs.declared.Scalar.TheVariants.{Bits}
use Rattle.data_value.specs.declared.Value.{Value}
use Rattle.data_value.specs.declared.Value.TheVariants.{One}
use Rattle.data_value.specs.declared.Op.{Op}
use Rattle.data_value.specs.declared.Op.TheVariants.{Concat, Extract, Zext, Sext}
use Rattle.data_value.specs.Sorts.{op_sort}
use Rattle.data_value.specs.Words.{wrap, bits_between, is_negative, top_ones}
use Rattle.data_value.specs.Values.{IsValueOf, scalar_of, word_of}
use Rattle.data_value.specs.Ops.{op_value}
use Rattle.data_value.specs.Nodes.{Seen, Apply, IsValuation, IsLawful, AllValid, sorts_of}
use Rattle.data_value.specs.Views.{IsShown, shown_args, shown_value, shown_size}
use Rattle.data_value.proofs.WordLemmas.{two_to_le}
use Rattle.simplify.specs.Simpler.{IsSimplerThan}
use Rattle.simplify.specs.Rewrites.{AreNoHarder, IsScalarFor}
use Rattle.simplify.specs.Parts.{IsWithin}
use Rattle.simplify.proofs.RewriteLemmas.{IsWord, word_form, one_size, two_sizes}
use Rattle.simplify.proofs.WordLemmas.{no_ones}

-- bits have the width that they count
part_chosen : (b : Bool) (s : DataSort) → IsSome (if b then Some s else None) → (if b then Some s else None) ≡ Some s
part_chosen true s h = refl
part_chosen false s h = absurd (cc)

pub part_sort : (hi lo : ℕ) (s : DataSort) → IsSome (op_sort (Extract hi lo) (s ∷ [])) → op_sort (Extract hi lo) (s ∷ []) ≡ Some (BitsSort (hi - lo + 1))
part_sort hi lo BoolSort h = absurd (cc)
part_sort hi lo (MapSort k w) h = absurd (cc)
part_sort hi lo (BitsSort w) h = part_chosen (nat_le lo hi && nat_lt hi w) (BitsSort (hi - lo + 1)) h

order_by : (hi lo w : ℕ) (b : Bool) → nat_le lo hi ≡ b → IsSome {T = DataSort} (if b && nat_lt hi w then Some (BitsSort (hi - lo + 1)) else None) → lo ≤ hi
order_by hi lo w true e h = leb-true lo hi e
order_by hi lo w false e h = absurd (cc)

part_order : (hi lo : ℕ) (s : DataSort) → IsSome (op_sort (Extract hi lo) (s ∷ [])) → lo ≤ hi
part_order hi lo BoolSort h = absurd (cc)
part_order hi lo (MapSort k w) h = absurd (cc)
part_order hi lo (BitsSort w) h = order_by hi lo w (nat_le lo hi) refl h

-- bits of words that have them have the width that they count
pub within_sort : (hi lo : ℕ) (s : DataSort) → IsWithin s hi lo → op_sort (Extract hi lo) (s ∷ []) ≡ Some (BitsSort (hi - lo + 1))
within_sort hi lo BoolSort h = absurd h
within_sort hi lo (MapSort k w) h = absurd h
within_sort hi lo (BitsSort w) h = rw (le-leb lo hi h.0, lt-ltb hi w h.1) refl

-- what has bits is a word
record IsWide (s : DataSort) (hi lo : ℕ) : Type 0 where
  pub width : ℕ
  pub is : s ≡ BitsSort width
  pub order : lo ≤ hi
  pub high : hi < width

wide : (hi lo : ℕ) (s : DataSort) → IsWithin s hi lo → IsWide s hi lo
wide hi lo BoolSort h = absurd h
wide hi lo (MapSort k w) h = absurd h
wide hi lo (BitsSort w) h = record { width = w; is = refl; order = h.0; high = h.1 }

-- bits of a lower word are bits of it with another one above
low_bits : (hi lo w x y : ℕ) → lo ≤ hi → hi < w → bits_between hi lo y ≡ bits_between hi lo (x * 2 ^ w + y)
low_bits hi lo w x y order high =
    let k = hi - lo + 1 in
    let r = w - hi - 1 in
    let e : w ≡ lo + (k + r) = omega arith in
    let split : x * 2 ^ w ≡ 2 ^ lo * (2 ^ k * (2 ^ r * x)) =
    mul_comm x (2 ^ w) ∙ ap (λ n. 2 ^ n * x) e ∙ ap (λ n. n * x) (pow-add 2 lo (k + r)) ∙ mul_assoc (2 ^ lo) (2 ^ (k + r)) x
    ∙ ap (λ n. 2 ^ lo * n) (ap (λ n. n * x) (pow-add 2 k r) ∙ mul_assoc (2 ^ k) (2 ^ r) x) in
    let turn : x * 2 ^ w + y ≡ y + 2 ^ lo * (2 ^ k * (2 ^ r * x)) = omega arith in
    sym (ap (λ n. (n / 2 ^ lo) % 2 ^ k) turn
    ∙ ap (λ n. n % 2 ^ k) (add-mul-div_left y (2 ^ k * (2 ^ r * x)) (pow_pos lo))
    ∙ add-mul-mod_self_left (y / 2 ^ lo) (2 ^ k) (2 ^ r * x))

-- bits of a higher word are bits further up of it with another one below
high_bits : (hi lo w x y : ℕ) → w ≤ lo → lo ≤ hi → y < 2 ^ w → bits_between (hi - w) (lo - w) x ≡ bits_between hi lo (x * 2 ^ w + y)
high_bits hi lo w x y above order below =
    let k : hi - w - (lo - w) + 1 ≡ hi - lo + 1 = omega arith in
    let e : lo ≡ w + (lo - w) = omega arith in
    ap (λ n. (x / 2 ^ (lo - w)) % 2 ^ n) k
    ∙ ap (λ n. (n / 2 ^ (lo - w)) % 2 ^ (hi - lo + 1)) (sym (div-mul-add x (2 ^ w) y below))
    ∙ ap (λ n. n % 2 ^ (hi - lo + 1)) (div-div-eq-div-mul (x * 2 ^ w + y) (2 ^ w) (2 ^ (lo - w)) ∙ ap (λ n. (x * 2 ^ w + y) / n) (sym (pow-add 2 w (lo - w))))
    ∙ ap (λ n. ((x * 2 ^ w + y) / 2 ^ n) % 2 ^ (hi - lo + 1)) (sym e)

-- bits above a word are zero
no_bits : (hi lo w x : ℕ) → w ≤ lo → x < 2 ^ w → bits_between hi lo x ≡ 0
no_bits hi lo w x above below =
    let more = two_to_le w lo above in
    ap (wrap (hi - lo + 1)) (div-eq_of_lt (let h : x < 2 ^ lo = omega arith in h)) ∙ mod-eq_of_lt (pow_pos (hi - lo + 1))

all_bits : (hi x : ℕ) → x < 2 ^ (hi + 1) → One (Bits (hi - 0 + 1) (bits_between hi 0 x)) ≡ One (Bits (hi + 1) x)
all_bits hi x below =
    let e : hi - 0 ≡ hi = omega arith in
    let n : x / 1 ≡ x = omega arith in
    ap (λ k. One (Bits (k + 1) (wrap (k + 1) (x / 1)))) e ∙ ap (λ k. One (Bits (hi + 1) k)) (ap (wrap (hi + 1)) n ∙ mod-eq_of_lt below)

-- bits of a node are those of a copy
pub same_bits : {N : Type 0} (f : N → Seen N) (vars : List DataSort) (hi lo : ℕ) (a t : N) → IsTrue (f a).valid → f t ≡ f a → AreNoHarder vars f (Extract hi lo) (a ∷ []) (Extract hi lo) (t ∷ [])
same_bits f vars hi lo a t ok copied = record {
  valid = All-cons (λ n. IsTrue (f n).valid) t [] (subst (λ s. IsTrue s.valid) (sym copied) ok) (All-nil (λ n. IsTrue (f n).valid));
  sort = ap (λ s. op_sort (Extract hi lo) (s.sort ∷ [])) copied;
  means = λ v fits. ap (λ s. op_value (Extract hi lo) (s.meaning v ∷ [])) copied;
  small = let p = one_size f t in let q = one_size f a in let e = ap (λ s. s.size) copied in omega arith;
}

module _ {N : Type 0} (f : N → Seen N) (vars : List DataSort) (laws : IsLawful f vars) where
  one_valid : (x : N) → IsTrue (f x).valid → AllValid f (x ∷ [])
  one_valid x ok = All-cons (λ n. IsTrue (f n).valid) x [] ok (All-nil (λ n. IsTrue (f n).valid))

  -- bits of an argument, where they mean what other bits of the node mean
  bits_of : (hi lo h l : ℕ) (a x t : N) → IsTrue (f x).valid → f t ≡ f x → IsSome (op_sort (Extract hi lo) (sorts_of f (a ∷ []))) → IsWithin (f x).sort h l → h - l + 1 ≡ hi - lo + 1 → (f x).size ≤ (f a).size →
      ((v : List Value) → IsValuation vars v → op_value (Extract h l) ((f x).meaning v ∷ []) ≡ op_value (Extract hi lo) ((f a).meaning v ∷ [])) → AreNoHarder vars f (Extract hi lo) (a ∷ []) (Extract h l) (t ∷ [])
  bits_of hi lo h l a x t ok copied sorted within count small means = record {
    valid = one_valid t (subst (λ s. IsTrue s.valid) (sym copied) ok);
    sort = ap (λ s. op_sort (Extract h l) (s.sort ∷ [])) copied ∙ within_sort h l (f x).sort within ∙ ap (λ n. Some (BitsSort n)) count ∙ sym (part_sort hi lo (f a).sort sorted);
    means = λ v fits. ap (λ s. op_value (Extract h l) (s.meaning v ∷ [])) copied ∙ means v fits;
    small = let p = one_size f t in let q = one_size f a in let e = ap (λ s. s.size) copied in omega arith;
  }

  module _ (hi lo : ℕ) (a : N) (is : IsShown f vars a) (sorted : IsSome (op_sort (Extract hi lo) (sorts_of f (a ∷ [])))) where
    module _ (n : ℕ) (x : N) (e : (f a).shown ≡ Apply (Zext n) (x ∷ [])) where
      ok_widened : IsTrue (f x).valid
      ok_widened = All-head (λ m. IsTrue (f m).valid) x [] (subst (λ s. AllValid f (shown_args s)) e is.args_valid)

      lower_widened : (f x).height < (f a).height
      lower_widened = All-head (λ m. (f m).height < (f a).height) x [] (subst (λ s. All (λ m. (f m).height < (f a).height) (shown_args s)) e is.args_lower)

      means_widened : (v : List Value) → (f a).meaning v ≡ op_value (Zext n) ((f x).meaning v ∷ [])
      means_widened v = is.means v ∙ ap (shown_value f v) e

      size_widened : (f a).size ≡ 1 + ((f x).size + 0)
      size_widened = is.size ∙ ap (shown_size f) e ∙ ap (λ k. 1 + k) (one_size f x)

      pub widened_low : (t : N) → f t ≡ f x → IsWithin (f x).sort hi lo → AreNoHarder vars f (Extract hi lo) (a ∷ []) (Extract hi lo) (t ∷ []) × ((f t).height < (f a).height)
      widened_low t copied within = (
        bits_of hi lo hi lo a x t ok_widened copied sorted within refl (let p = size_widened in omega arith)
            (λ v fits. ap (λ m. op_value (Extract hi lo) (m ∷ [])) (sym (means_widened v))),
        subst (λ s. s.height < (f a).height) (sym copied) lower_widened,
      )

      pub widened_high : (w : ℕ) → (f x).sort ≡ BitsSort w → w ≤ lo → (k : ℕ) → k ≡ hi - lo + 1 → IsScalarFor vars f (Extract hi lo) (a ∷ []) (Bits k 0)
      widened_high w sort above k count = record {
        means = λ v fits.
            let m = word_form w ((f x).meaning v) (subst (λ s. IsValueOf s ((f x).meaning v)) sort (laws.sorted x ok_widened v fits)) in
            ap (λ y. op_value (Extract hi lo) (y ∷ [])) (means_widened v ∙ ap (λ y. op_value (Zext n) (y ∷ [])) m.is)
            ∙ ap (λ y. One (Bits (hi - lo + 1) y)) (no_bits hi lo w m.number above m.below)
            ∙ ap (λ j. One (Bits j 0)) (sym count);
      }

    module _ (x y : N) (e : (f a).shown ≡ Apply Concat (x ∷ y ∷ [])) where
      both_ok : AllValid f (x ∷ y ∷ [])
      both_ok = subst (λ s. AllValid f (shown_args s)) e is.args_valid

      ok_high : IsTrue (f x).valid
      ok_high = All-head (λ m. IsTrue (f m).valid) x (y ∷ []) both_ok

      ok_low : IsTrue (f y).valid
      ok_low = All-head (λ m. IsTrue (f m).valid) y [] (All-tail (λ m. IsTrue (f m).valid) x (y ∷ []) both_ok)

      both_lower : All (λ m. (f m).height < (f a).height) (x ∷ y ∷ [])
      both_lower = subst (λ s. All (λ m. (f m).height < (f a).height) (shown_args s)) e is.args_lower

      means_joined : (v : List Value) → (f a).meaning v ≡ op_value Concat ((f x).meaning v ∷ (f y).meaning v ∷ [])
      means_joined v = is.means v ∙ ap (shown_value f v) e

      size_joined : (f a).size ≡ 1 + ((f x).size + ((f y).size + 0))
      size_joined = is.size ∙ ap (shown_size f) e ∙ ap (λ k. 1 + k) (two_sizes f x y)

      word_at_low : (w : ℕ) → (f y).sort ≡ BitsSort w → (v : List Value) → IsValuation vars v → IsWord w ((f y).meaning v)
      word_at_low w sort v fits = word_form w ((f y).meaning v) (subst (λ s. IsValueOf s ((f y).meaning v)) sort (laws.sorted y ok_low v fits))

      pub joined_low : (t : N) → f t ≡ f y → IsWithin (f y).sort hi lo → AreNoHarder vars f (Extract hi lo) (a ∷ []) (Extract hi lo) (t ∷ []) × ((f t).height < (f a).height)
      joined_low t copied within =
          let w = wide hi lo (f y).sort within in (
            bits_of hi lo hi lo a y t ok_low copied sorted within refl (let p = size_joined in omega arith) (λ v fits.
                let m = word_at_low w.width w.is v fits in
                ap (λ n. op_value (Extract hi lo) (n ∷ [])) m.is
                ∙ ap (λ n. One (Bits (hi - lo + 1) n)) (low_bits hi lo w.width (word_of (scalar_of ((f x).meaning v))) m.number w.order w.high)
                ∙ sym (ap (λ n. op_value (Extract hi lo) (n ∷ [])) (means_joined v ∙ ap (λ n. op_value Concat ((f x).meaning v ∷ n ∷ [])) m.is))),
            subst (λ s. s.height < (f a).height) (sym copied) (All-head (λ m. (f m).height < (f a).height) y [] (All-tail (λ m. (f m).height < (f a).height) x (y ∷ []) both_lower)),
          )

      pub joined_high : (t : N) (w : ℕ) → f t ≡ f x → (f y).sort ≡ BitsSort w → w ≤ lo → IsWithin (f x).sort (hi - w) (lo - w) → AreNoHarder vars f (Extract hi lo) (a ∷ []) (Extract (hi - w) (lo - w)) (t ∷ []) × ((f t).height < (f a).height)
      joined_high t w copied sort above within =
          let u = wide (hi - w) (lo - w) (f x).sort within in
          let less = u.order in
          let order = part_order hi lo (f a).sort sorted in
          let count : hi - w - (lo - w) + 1 ≡ hi - lo + 1 = omega arith in (
            bits_of hi lo (hi - w) (lo - w) a x t ok_high copied sorted within count (let p = size_joined in omega arith) (λ v fits.
                let m = word_at_low w sort v fits in
                ap (λ n. One (Bits n (bits_between (hi - w) (lo - w) (word_of (scalar_of ((f x).meaning v)))))) count
                ∙ ap (λ n. One (Bits (hi - lo + 1) n)) (high_bits hi lo w (word_of (scalar_of ((f x).meaning v))) m.number above order m.below)
                ∙ sym (ap (λ n. op_value (Extract hi lo) (n ∷ [])) (means_joined v ∙ ap (λ n. op_value Concat ((f x).meaning v ∷ n ∷ [])) m.is))),
            subst (λ s. s.height < (f a).height) (sym copied) (All-head (λ m. (f m).height < (f a).height) x (y ∷ []) both_lower),
          )

  -- all bits of a node are the node
  pub whole_simpler : (hi lo : ℕ) (a : N) → IsTrue (f a).valid → (f a).sort ≡ BitsSort (hi + 1) → lo ≡ 0 → IsSome (op_sort (Extract hi lo) (sorts_of f (a ∷ []))) → (t : Seen N) → t ≡ f a → IsSimplerThan vars f (Extract hi lo) (a ∷ []) t
  whole_simpler hi lo a ok sort low sorted t copied = subst (IsSimplerThan vars f (Extract hi lo) (a ∷ [])) (sym copied) (record {
    valid = ok;
    sort = part_sort hi lo (f a).sort sorted ∙ ap (λ n. Some (BitsSort n)) (let e : hi - lo + 1 ≡ hi + 1 = omega arith in e) ∙ ap Some (sym sort);
    means = λ v fits.
        let m = word_form (hi + 1) ((f a).meaning v) (subst (λ s. IsValueOf s ((f a).meaning v)) sort (laws.sorted a ok v fits)) in
        m.is ∙ sym (ap (λ n. op_value (Extract hi lo) (n ∷ [])) m.is ∙ ap (λ l. One (Bits (hi - l + 1) (bits_between hi l m.number))) low ∙ all_bits hi m.number m.below);
    small = let p = one_size f a in omega arith;
  })

  -- a word that is widened to the width that it has stays
  module _ (w : ℕ) (a : N) (ok : IsTrue (f a).valid) (sort : (f a).sort ≡ BitsSort w) where
    same_width : (op : Op) → IsSome (op_sort op (sorts_of f (a ∷ []))) → op_sort op (BitsSort w ∷ []) ≡ (if nat_le w w && nat_le w 64 then Some (BitsSort w) else None) → ((x : ℕ) → op_value op (One (Bits w x) ∷ []) ≡ One (Bits w x)) → (t : Seen N) → t ≡ f a → IsSimplerThan vars f op (a ∷ []) t
    same_width op sorted form keeps t copied = subst (IsSimplerThan vars f op (a ∷ [])) (sym copied) (record {
      valid = ok;
      sort =
          let here = ap (λ s. op_sort op (s ∷ [])) sort ∙ form in
          here ∙ part_chosen (nat_le w w && nat_le w 64) (BitsSort w) (subst IsSome here sorted) ∙ ap Some (sym sort);
      means = λ v fits.
          let m = word_form w ((f a).meaning v) (subst (λ s. IsValueOf s ((f a).meaning v)) sort (laws.sorted a ok v fits)) in
          m.is ∙ sym (ap (λ n. op_value op (n ∷ [])) m.is ∙ keeps m.number);
      small = let p = one_size f a in omega arith;
    })

    unsigned : (x : ℕ) → op_value (Zext w) (One (Bits w x) ∷ []) ≡ One (Bits w x)
    unsigned x = refl

    signed_by : (x : ℕ) (b : Bool) → (if b then x + top_ones w (w - w) else x) ≡ x
    signed_by x true = let z : w - w ≡ 0 = omega arith in let n = ap (top_ones w) z ∙ no_ones w in omega arith
    signed_by x false = refl

    pub unwidened_simpler : (op : Op) → IsSome (op_sort op (sorts_of f (a ∷ []))) → (op ≡ Zext w) ⊎ (op ≡ Sext w) → (t : Seen N) → t ≡ f a → IsSimplerThan vars f op (a ∷ []) t
    unwidened_simpler op sorted widens t copied = elim widens [
      | inl e ↦ same_width op sorted (ap (λ o. op_sort o (BitsSort w ∷ [])) e) (λ x. ap (λ o. op_value o (One (Bits w x) ∷ [])) e) t copied
      | inr e ↦ same_width op sorted (ap (λ o. op_sort o (BitsSort w ∷ [])) e) (λ x. ap (λ o. op_value o (One (Bits w x) ∷ [])) e ∙ ap (λ n. One (Bits w n)) (signed_by x (is_negative w x))) t copied
    ]
