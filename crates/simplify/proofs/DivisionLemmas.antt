-- The multiple of a quotient and the remainder make the dividend.
use Rattle.std.proofs.Common.{arith, ◌≡◌, ℕ, zero, suc, ◌+◌, ◌-◌, ◌*◌, ◌/◌, ◌<◌, ◌^◌, ◌%◌, inl, inr, Bool, true, false, if◌then◌else◌, ◌==◌, IsTrue, IsSome, List, [], ◌∷◌, Some, None, refl, sym, ap, ◌∙◌, subst}
use Rattle.std.proofs.lemmas.List.Elements.{All-head, All-tail}
use Rattle.std.proofs.lemmas.Bool.{eqb-true, ne_eqb}
use Rattle.std.proofs.lemmas.Nat.{pow_pos, div-add-mod'}
use Rattle.std.proofs.Math.Nat.{mod-eq_of_lt}
use Rattle.data_value.specs.declared.DataSort.{DataSort}
use Rattle.data_value.specs.declared.DataSort.TheVariants.{Bool as BoolSort, Bits as BitsSort, Map as MapSort}
use Rattle.data_value.specs.declared.Scalar.TheVariants.{Bits}
use Rattle.data_value.specs.declared.Value.{Value}
use Rattle.data_value.specs.declared.Value.TheVariants.{One}
use Rattle.data_value.specs.declared.Op.TheVariants.{Add, Mul, Udiv, Urem}
use Rattle.data_value.specs.Sorts.{op_sort, same_words_sort}
use Rattle.data_value.specs.Words.{wrap, quotient, remainder}
use Rattle.data_value.specs.Values.{IsValueOf}
use Rattle.data_value.specs.Ops.{op_value}
use Rattle.data_value.specs.Nodes.{Seen, IsValuation, IsLawful, AllValid, sorts_of}
use Rattle.data_value.specs.Views.{IsShown, shown_args, shown_sort, shown_value, shown_size}
use Rattle.simplify.specs.Simpler.{IsSimplerThan}
use Rattle.simplify.specs.Division.{IsDividend}
use Rattle.simplify.proofs.WordLemmas.{add_commutes, mul_commutes}
use Rattle.simplify.proofs.RewriteLemmas.{IsWord, word_form, two_sizes, there}

-- what two words of one width have where they give a word
pub record AreWords (s t r : DataSort) : Type 0 where
  pub width : ℕ
  pub first : s ≡ BitsSort width
  pub second : t ≡ BitsSort width
  pub result : r ≡ BitsSort width

words_either : (v w : ℕ) (p : Bool) (r : DataSort) → (v == w) ≡ p → same_words_sort BitsSort (BitsSort v ∷ BitsSort w ∷ []) ≡ Some r → AreWords (BitsSort v) (BitsSort w) r
words_either v w true r e is =
    let h : Some (BitsSort v) ≡ Some r = rw e at is in
    record { width = v; first = refl; second = ap BitsSort (sym (eqb-true v w e)); result = (let s : r ≡ BitsSort v = cc in s) }
words_either v w false r e is = let bad : None ≡ Some r = rw e at is in absurd (cc)

pub are_words : (s t r : DataSort) → same_words_sort BitsSort (s ∷ t ∷ []) ≡ Some r → AreWords s t r
are_words BoolSort t r is = absurd (cc)
are_words (MapSort k w) t r is = absurd (cc)
are_words (BitsSort v) BoolSort r is = absurd (cc)
are_words (BitsSort v) (MapSort k w) r is = absurd (cc)
are_words (BitsSort v) (BitsSort w) r is = words_either v w (v == w) r refl is

-- for words, also where the divisor is zero
whole : (w x y : ℕ) → x < 2 ^ w → wrap w (wrap w (quotient w x y * y) + remainder x y) ≡ x
whole w x zero below =
    let none : (2 ^ w - 1) * 0 ≡ 0 = omega arith in
    let cut : wrap w ((2 ^ w - 1) * 0) ≡ 0 = ap (wrap w) none ∙ mod-eq_of_lt (pow_pos w) in
    let sum : 0 + x ≡ x = omega arith in
    ap (λ k. wrap w (k + x)) cut ∙ ap (wrap w) sum ∙ mod-eq_of_lt below
whole w x (suc y) below =
    let parts : x / suc y * suc y + x % suc y ≡ x = div-add-mod' x (suc y) in
    let less : x / suc y * suc y < 2 ^ w = omega arith in
    let some : (suc y == 0) ≡ false = ne_eqb (suc y) 0 (λ e. omega arith) in
    ap (λ b. wrap w (wrap w ((if b then 2 ^ w - 1 else x / suc y) * suc y) + (if b then x else x % suc y))) some
    ∙ ap (λ k. wrap w (k + x % suc y)) (mod-eq_of_lt less) ∙ ap (wrap w) parts ∙ mod-eq_of_lt below

module _ {N : Type 0} (f : N → Seen N) (vars : List DataSort) (laws : IsLawful f vars) (shows : (n : N) → IsTrue (f n).valid → IsShown f vars n) where
  module _ (product rest : N) (ok_rest : IsTrue (f rest).valid) (s : Seen N) (is : IsDividend f product rest s) where
    rest_shown : IsShown f vars rest
    rest_shown = shows rest ok_rest

    all_ok : AllValid f (is.dividend ∷ is.divisor ∷ [])
    all_ok = subst (λ x. AllValid f (shown_args x)) is.remainder rest_shown.args_valid

    ok_x : IsTrue (f is.dividend).valid
    ok_x = All-head (λ n. IsTrue (f n).valid) is.dividend (is.divisor ∷ []) all_ok

    ok_y : IsTrue (f is.divisor).valid
    ok_y = All-head (λ n. IsTrue (f n).valid) is.divisor [] (All-tail (λ n. IsTrue (f n).valid) is.dividend (is.divisor ∷ []) all_ok)

    sorts : AreWords (f is.dividend).sort (f is.divisor).sort (f rest).sort
    sorts = are_words (f is.dividend).sort (f is.divisor).sort (f rest).sort (ap (shown_sort f vars) (sym is.remainder) ∙ rest_shown.sort)

    rest_size : (f rest).size ≡ 1 + ((f is.dividend).size + ((f is.divisor).size + 0))
    rest_size = rest_shown.size ∙ ap (shown_size f) is.remainder ∙ ap (λ k. 1 + k) (two_sizes f is.dividend is.divisor)

    -- the sum of the two at values
    abbrev total : Value → Value → Value
    total x y = op_value Add (op_value Mul (op_value Udiv (x ∷ y ∷ []) ∷ y ∷ []) ∷ op_value Urem (x ∷ y ∷ []) ∷ [])

    abbrev turned : Value → Value → Value
    turned x y = op_value Add (op_value Urem (x ∷ y ∷ []) ∷ op_value Mul (op_value Udiv (x ∷ y ∷ []) ∷ y ∷ []) ∷ [])

    abbrev Word : (v : List Value) → IsValuation vars v → N → Type 0
    Word v fits n = IsWord sorts.width ((f n).meaning v)

    word_x : (v : List Value) (fits : IsValuation vars v) → Word v fits is.dividend
    word_x v fits = word_form sorts.width ((f is.dividend).meaning v) (subst (λ t. IsValueOf t ((f is.dividend).meaning v)) sorts.first (laws.sorted is.dividend ok_x v fits))

    word_y : (v : List Value) (fits : IsValuation vars v) → Word v fits is.divisor
    word_y v fits = word_form sorts.width ((f is.divisor).meaning v) (subst (λ t. IsValueOf t ((f is.divisor).meaning v)) sorts.second (laws.sorted is.divisor ok_y v fits))

    rest_means : (v : List Value) → (f rest).meaning v ≡ op_value Urem ((f is.dividend).meaning v ∷ (f is.divisor).meaning v ∷ [])
    rest_means v = rest_shown.means v ∙ ap (shown_value f v) is.remainder

    totals : (v : List Value) (fits : IsValuation vars v) → total ((f is.dividend).meaning v) ((f is.divisor).meaning v) ≡ (f is.dividend).meaning v
    totals v fits =
        let x = word_x v fits in
        let y = word_y v fits in
        let w = sorts.width in
        ap (λ m. total m ((f is.divisor).meaning v)) x.is
        ∙ ap (λ m. total (One (Bits w x.number)) m) y.is
        ∙ ap (λ k. One (Bits w k)) (whole w x.number y.number x.below)
        ∙ sym x.is

    turns : (v : List Value) (fits : IsValuation vars v) → turned ((f is.dividend).meaning v) ((f is.divisor).meaning v) ≡ (f is.dividend).meaning v
    turns v fits =
        let x = word_x v fits in
        let y = word_y v fits in
        let w = sorts.width in
        ap (λ m. turned m ((f is.divisor).meaning v)) x.is
        ∙ ap (λ m. turned (One (Bits w x.number)) m) y.is
        ∙ add_commutes w (remainder x.number y.number) (wrap w (quotient w x.number y.number * y.number))
        ∙ ap (λ k. One (Bits w k)) (whole w x.number y.number x.below)
        ∙ sym x.is

    abbrev factors : Value → Value → Value
    factors x y = op_value Mul (op_value Udiv (x ∷ y ∷ []) ∷ y ∷ [])

    abbrev swapped : Value → Value → Value
    swapped x y = op_value Mul (y ∷ op_value Udiv (x ∷ y ∷ []) ∷ [])

    swapped_same : (v : List Value) (fits : IsValuation vars v) → swapped ((f is.dividend).meaning v) ((f is.divisor).meaning v) ≡ factors ((f is.dividend).meaning v) ((f is.divisor).meaning v)
    swapped_same v fits =
        let x = word_x v fits in
        let y = word_y v fits in
        let w = sorts.width in
        ap (λ m. swapped m ((f is.divisor).meaning v)) x.is
        ∙ ap (λ m. swapped (One (Bits w x.number)) m) y.is
        ∙ mul_commutes w y.number (quotient w x.number y.number)
        ∙ sym (ap (λ m. factors m ((f is.divisor).meaning v)) x.is ∙ ap (λ m. factors (One (Bits w x.number)) m) y.is)

    product_means : (v : List Value) → IsValuation vars v → (f product).meaning v ≡ factors ((f is.dividend).meaning v) ((f is.divisor).meaning v)
    product_means v fits = elim (is.multiple v) [ inl e ↦ e | inr e ↦ e ∙ swapped_same v fits ]

    result_sort : (r : DataSort) → AreWords (f product).sort (f rest).sort r → r ≡ (f is.dividend).sort
    result_sort r a = a.result ∙ sym a.second ∙ sorts.result ∙ sym sorts.first

    result_sort_turned : (r : DataSort) → AreWords (f rest).sort (f product).sort r → r ≡ (f is.dividend).sort
    result_sort_turned r a = a.result ∙ sym a.first ∙ sorts.result ∙ sym sorts.first

    pub dividend_right : IsSome (op_sort Add (sorts_of f (product ∷ rest ∷ []))) → IsSimplerThan vars f Add (product ∷ rest ∷ []) s
    dividend_right sorted =
        let r = there (op_sort Add (sorts_of f (product ∷ rest ∷ []))) sorted in
        subst (IsSimplerThan vars f Add (product ∷ rest ∷ [])) (sym is.same) (record {
          valid = ok_x;
          sort = r.1 ∙ ap Some (result_sort r.0 (are_words (f product).sort (f rest).sort r.0 r.1));
          means = λ v fits.
              sym (ap (λ m. op_value Add (m ∷ (f rest).meaning v ∷ [])) (product_means v fits)
              ∙ ap (λ m. op_value Add (op_value Mul (op_value Udiv ((f is.dividend).meaning v ∷ (f is.divisor).meaning v ∷ []) ∷ (f is.divisor).meaning v ∷ []) ∷ m ∷ [])) (rest_means v)
              ∙ totals v fits);
          small = let p = rest_size in let q = two_sizes f product rest in omega arith;
        })

    pub dividend_left : IsSome (op_sort Add (sorts_of f (rest ∷ product ∷ []))) → IsSimplerThan vars f Add (rest ∷ product ∷ []) s
    dividend_left sorted =
        let r = there (op_sort Add (sorts_of f (rest ∷ product ∷ []))) sorted in
        subst (IsSimplerThan vars f Add (rest ∷ product ∷ [])) (sym is.same) (record {
          valid = ok_x;
          sort = r.1 ∙ ap Some (result_sort_turned r.0 (are_words (f rest).sort (f product).sort r.0 r.1));
          means = λ v fits.
              sym (ap (λ m. op_value Add ((f rest).meaning v ∷ m ∷ [])) (product_means v fits)
              ∙ ap (λ m. op_value Add (m ∷ op_value Mul (op_value Udiv ((f is.dividend).meaning v ∷ (f is.divisor).meaning v ∷ []) ∷ (f is.divisor).meaning v ∷ []) ∷ [])) (rest_means v)
              ∙ turns v fits);
          small = let p = rest_size in let q = two_sizes f rest product in omega arith;
        })
