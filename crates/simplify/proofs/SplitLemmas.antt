-- The upper bits of a word and its lower ones make the word.
use Rattle.std.proofs.Common.{arith, ◌≡◌, ℕ, ◌+◌, ◌-◌, ◌*◌, ◌/◌, ◌%◌, ◌<◌, ◌^◌, bit_and, inl, inr, if◌then◌else◌, IsTrue, IsSome, List, [], ◌∷◌, Some, sym, ap, ◌∙◌, subst}
use Rattle.std.proofs.lemmas.List.Elements.{All-head, All-tail}
use Rattle.std.proofs.lemmas.Bool.{le-ltb, cases_lt}
use Rattle.std.proofs.lemmas.Nat.{and_mask, div-add-mod'}
use Rattle.std.proofs.Math.Nat.{mod-eq_of_lt}
use Rattle.data_value.specs.declared.DataSort.{DataSort}
use Rattle.data_value.specs.declared.Scalar.TheVariants.{Bits}
use Rattle.data_value.specs.declared.Value.{Value}
use Rattle.data_value.specs.declared.Value.TheVariants.{One}
use Rattle.data_value.specs.declared.Op.{Op}
use Rattle.data_value.specs.declared.Op.TheVariants.{Add, BvAnd, Shl, Lshr}
use Rattle.data_value.specs.Sorts.{op_sort}
use Rattle.data_value.specs.Words.{wrap, shift_left, shift_right}
use Rattle.data_value.specs.Values.{IsValueOf}
use Rattle.data_value.specs.Ops.{op_value}
use Rattle.data_value.specs.Nodes.{Seen, Apply, IsLawful, AllValid, sorts_of}
use Rattle.data_value.specs.Views.{IsShown, shown_args, shown_sort, shown_value, shown_size}
use Rattle.data_value.proofs.WordLemmas.{two_to_le}
use Rattle.simplify.specs.declared.rewritten.Rewritten.TheVariants as rewritten
use Rattle.simplify.specs.Simpler.{IsSimplerThan}
use Rattle.simplify.specs.Split.{IsKnownWord, IsSplit}
use Rattle.simplify.proofs.WordLemmas.{add_commutes, moved_left, moved_right}
use Rattle.simplify.proofs.RewriteLemmas.{word_form, two_sizes, there, turned, through}
use Rattle.simplify.proofs.DivisionLemmas.{AreWords, are_words}

-- for words, also where all bits are moved out
rejoined : (w k x : ℕ) → x < 2 ^ w → wrap w (shift_left w (shift_right w x k) k + bit_and x (2 ^ k - 1)) ≡ x
rejoined w k x below = elim (cases_lt k w) [
  | inl h ↦
      let parts : x / 2 ^ k * 2 ^ k + x % 2 ^ k ≡ x = div-add-mod' x (2 ^ k) in
      let less : x / 2 ^ k * 2 ^ k < 2 ^ w = omega arith in
      ap (λ n. wrap w (shift_left w n k + bit_and x (2 ^ k - 1))) (moved_right w k x h)
      ∙ ap (λ n. wrap w (n + bit_and x (2 ^ k - 1))) (moved_left w k (x / 2 ^ k) h ∙ mod-eq_of_lt less)
      ∙ ap (λ n. wrap w (x / 2 ^ k * 2 ^ k + n)) (and_mask x k)
      ∙ ap (wrap w) parts
      ∙ mod-eq_of_lt below
  | inr h ↦
      let more = two_to_le w k h in
      let all : x % 2 ^ k ≡ x = mod-eq_of_lt (let less : x < 2 ^ k = omega arith in less) in
      let sum : 0 + x ≡ x = omega arith in
      ap (λ b. wrap w ((if b then wrap w (shift_right w x k * 2 ^ k) else 0) + bit_and x (2 ^ k - 1))) (le-ltb k w h)
      ∙ ap (λ n. wrap w (0 + n)) (and_mask x k ∙ all)
      ∙ ap (wrap w) sum
      ∙ mod-eq_of_lt below
]

module _ {N : Type 0} (f : N → Seen N) (vars : List DataSort) (laws : IsLawful f vars) (shows : (n : N) → IsTrue (f n).valid → IsShown f vars n) where
  -- a node that shows an operator at another one and a known word
  module _ (op : Op) (n x y : N) (ok : IsTrue (f n).valid) (shown : (f n).shown ≡ Apply op (x ∷ y ∷ [])) where
    both_ok : AllValid f (x ∷ y ∷ [])
    both_ok = subst (λ s. AllValid f (shown_args s)) shown (shows n ok).args_valid

    first_ok : IsTrue (f x).valid
    first_ok = All-head (λ m. IsTrue (f m).valid) x (y ∷ []) both_ok

    second_ok : IsTrue (f y).valid
    second_ok = All-head (λ m. IsTrue (f m).valid) y [] (All-tail (λ m. IsTrue (f m).valid) x (y ∷ []) both_ok)

    means_beside : (k : ℕ) (known : IsKnownWord (f y) k) (v : List Value) → (f n).meaning v ≡ op_value op ((f x).meaning v ∷ One (Bits known.0 k) ∷ [])
    means_beside k known v =
        (shows n ok).means v
        ∙ ap (shown_value f v) shown
        ∙ ap (λ m. op_value op ((f x).meaning v ∷ m ∷ [])) (laws.known y (Bits known.0 k) second_ok known.1 v)

  module _ (upper lower t : N) (ok_upper : IsTrue (f upper).valid) (ok_lower : IsTrue (f lower).valid) (is : IsSplit f upper lower (f t)) where
    ok_word : IsTrue (f is.word).valid
    ok_word = first_ok BvAnd lower is.word is.mask ok_lower is.shown

    ok_inner : IsTrue (f is.cleared.inner).valid
    ok_inner = first_ok Shl upper is.cleared.inner is.cleared.count ok_upper is.cleared.shown

    sorts : AreWords (f is.word).sort (f is.mask).sort (f lower).sort
    sorts = are_words (f is.word).sort (f is.mask).sort (f lower).sort (ap (shown_sort f vars) (sym is.shown) ∙ (shows lower ok_lower).sort)

    size : (f lower).size ≡ 1 + ((f is.word).size + ((f is.mask).size + 0))
    size = (shows lower ok_lower).size ∙ ap (shown_size f) is.shown ∙ ap (λ k. 1 + k) (two_sizes f is.word is.mask)

    -- the two and their sum at a value, where the known words have these widths
    abbrev low : Value → Value
    low m = op_value BvAnd (m ∷ One (Bits is.known.0 (2 ^ is.count - 1)) ∷ [])

    abbrev high : Value → Value
    high m = op_value Shl (op_value Lshr (m ∷ One (Bits is.cleared.moved.known.0 is.count) ∷ []) ∷ One (Bits is.cleared.known.0 is.count) ∷ [])

    lower_means : (v : List Value) → (f lower).meaning v ≡ low ((f is.word).meaning v)
    lower_means v = means_beside BvAnd lower is.word is.mask ok_lower is.shown (2 ^ is.count - 1) is.known v

    inner_means : (v : List Value) → (f is.cleared.inner).meaning v ≡ op_value Lshr ((f is.word).meaning v ∷ One (Bits is.cleared.moved.known.0 is.count) ∷ [])
    inner_means v =
        let m = is.cleared.moved in
        means_beside Lshr is.cleared.inner m.word m.count ok_inner m.shown is.count m.known v
        ∙ ap (λ s. op_value Lshr (s.meaning v ∷ One (Bits m.known.0 is.count) ∷ [])) m.same

    upper_means : (v : List Value) → (f upper).meaning v ≡ high ((f is.word).meaning v)
    upper_means v =
        means_beside Shl upper is.cleared.inner is.cleared.count ok_upper is.cleared.shown is.count is.cleared.known v
        ∙ ap (λ m. op_value Shl (m ∷ One (Bits is.cleared.known.0 is.count) ∷ [])) (inner_means v)

    pub split_simpler : IsSome (op_sort Add (sorts_of f (upper ∷ lower ∷ []))) → IsSimplerThan vars f Add (upper ∷ lower ∷ []) (f t)
    split_simpler sorted =
        let r = there (op_sort Add (sorts_of f (upper ∷ lower ∷ []))) sorted in
        let a = are_words (f upper).sort (f lower).sort r.0 r.1 in
        subst (IsSimplerThan vars f Add (upper ∷ lower ∷ [])) (sym is.same) (record {
          valid = ok_word;
          sort = r.1 ∙ ap Some (a.result ∙ sym a.second ∙ sorts.result ∙ sym sorts.first);
          means = λ v fits.
              let w = sorts.width in
              let x = word_form w ((f is.word).meaning v) (subst (λ s. IsValueOf s ((f is.word).meaning v)) sorts.first (laws.sorted is.word ok_word v fits)) in
              sym (ap (λ m. op_value Add (m ∷ (f lower).meaning v ∷ [])) (upper_means v)
              ∙ ap (λ m. op_value Add (high ((f is.word).meaning v) ∷ m ∷ [])) (lower_means v)
              ∙ ap (λ m. op_value Add (high m ∷ low m ∷ [])) x.is
              ∙ ap (λ k. One (Bits w k)) (rejoined w is.count x.number x.below)
              ∙ sym x.is);
          small = let p = size in let q = two_sizes f upper lower in omega arith;
        })

    pub split_turned : IsSome (op_sort Add (sorts_of f (lower ∷ upper ∷ []))) → IsSimplerThan vars f Add (lower ∷ upper ∷ []) (f t)
    split_turned sorted =
        let r = there (op_sort Add (sorts_of f (lower ∷ upper ∷ []))) sorted in
        let a = are_words (f lower).sort (f upper).sort r.0 r.1 in
        let exchanged = turned f vars laws Add lower upper a.width ok_lower ok_upper a.first a.second add_commutes in
        through vars f Add Add (lower ∷ upper ∷ []) (upper ∷ lower ∷ []) exchanged (rewritten.Node t) (split_simpler (subst IsSome (sym exchanged.sort) sorted))
