-- Maps that are lifted from words.
use Rattle.std.proofs.Common.{◌≡◌, ℕ, zero, suc, ◌<◌, ◌≤◌, ◌+◌, ◌^◌, ◌==◌, Bool, true, false, if◌then◌else◌, List, [], ◌∷◌, ◌++◌, length, take, map, fold, All, Some, slice_get, get_or, arith, refl, ap, ap₂, sym, ◌∙◌, subst}
use Rattle.std.proofs.lemmas.List.{take_more}
use Rattle.std.proofs.lemmas.List.Elements.{All-nil, All-cons, All-head, All-tail}
use Rattle.std.proofs.lemmas.Option.{get_or_from_slice_get, slice_get_within}
use Rattle.data_value.specs.declared.DataSort.{DataSort}
use Rattle.data_value.specs.declared.DataSort.TheVariants.{Bool as BoolSort, Bits as BitsSort, Map as MapSort}
use Rattle.data_value.specs.declared.Scalar.{Scalar}
use Rattle.data_value.specs.declared.Scalar.TheVariants.{Flag, Bits}
use Rattle.data_value.specs.declared.Value.{Value}
use Rattle.data_value.specs.declared.flat_formula.FlatNode.{FlatNode}
use Rattle.data_value.specs.Values.{word_of, scalar_sort, IsScalar}
use Rattle.data_value.specs.Maps.{Mapping, write, zero_map, put_into}
use Rattle.data_value.specs.Flat.{AreWords, flat_sorts}
use Rattle.map_reads.specs.declared.read.Read.{Read}
use Rattle.map_reads.specs.declared.read.Reads.{Reads}
use Rattle.map_reads.specs.Tied.{AreReads, keys_of, words_of}
use Rattle.map_reads.specs.Lifted.{with_read, lifted_value, lifted_from, HasNoEntries}

-- a word at a place of its sort is below 2 to the power of the width
word_below : (vs : List Scalar) (ss : List DataSort) (p w : ℕ) → All IsScalar vs → map scalar_sort vs ≡ ss → slice_get ss p ≡ Some (BitsSort w) → word_of (get_or vs p (Flag false)) < 2 ^ w
word_below vs ss p w all same at = here vs p all (ap (λ (ts : List DataSort). slice_get ts p) same ∙ at)
  where
    here : (us : List Scalar) (q : ℕ) → All IsScalar us → slice_get (map scalar_sort us) q ≡ Some (BitsSort w) → word_of (get_or us q (Flag false)) < 2 ^ w
    here [] q fit is = absurd (cc)
    here (Flag b ∷ us) zero fit is = absurd (cc)
    here (Bits n x ∷ us) zero fit is = let width : n ≡ w = cc in subst (λ m. x < 2 ^ m) width ((All-head IsScalar (Bits n x) us fit).1)
    here (u ∷ us) (suc q) fit is = here us q (All-tail IsScalar u us fit) is

module _ (sorts : List DataSort) (scalars widths : List ℕ) (nodes : List FlatNode) (reads : List Read) (words : List ℕ) (fit : AreReads sorts scalars widths nodes reads) (are : AreWords widths words) (x keys width k : ℕ) (r : Read) (at : slice_get reads k ≡ Some r) (of : r.variable ≡ x) (sort : slice_get sorts x ≡ Some (MapSort keys width)) where
  whole : get_or sorts r.variable BoolSort ≡ MapSort keys width
  whole = get_or_from_slice_get sorts r.variable (MapSort keys width) BoolSort (ap (slice_get sorts) of ∙ sort)

  pub key_fits : (vs : List Scalar) → All IsScalar vs → map scalar_sort vs ≡ flat_sorts widths nodes → word_of (get_or vs r.key (Flag false)) < 2 ^ keys
  key_fits vs all same = word_below vs (flat_sorts widths nodes) r.key keys all same ((fit.each k r at).key ∙ ap (λ s. Some (BitsSort (keys_of s))) whole)

  width_at : slice_get widths r.word ≡ Some width
  width_at = (fit.each k r at).width ∙ ap (λ s. Some (words_of s)) whole

  pub read_within : r.word < length words
  read_within = let l = slice_get_within widths r.word width width_at in let c = are.count in omega arith

  pub word_fits : get_or words r.word 0 < 2 ^ width
  word_fits = subst (λ n. get_or words r.word 0 < 2 ^ n) (get_or_from_slice_get widths r.word width 0 width_at) (are.fit r.word (slice_get_within widths r.word width width_at))

module _ (reads : Reads) (words : List ℕ) where
  lifted_push : (k : ℕ) (ss : List DataSort) (s : DataSort) → lifted_from reads words k (ss ++ s ∷ []) ≡ lifted_from reads words k ss ++ lifted_value reads words (k + length ss) s ∷ []
  lifted_push k [] s = let e : k ≡ k + 0 = omega arith in ap (λ j. lifted_value reads words j s ∷ []) e
  lifted_push k (r ∷ ss) s =
      let e : suc k + length ss ≡ k + suc (length ss) = omega arith in
      ap (λ (xs : List Value). lifted_value reads words k r ∷ xs) (lifted_push (suc k) ss s ∙ ap (λ j. lifted_from reads words (suc k) ss ++ lifted_value reads words j s ∷ []) e)

  length_taken : {X : Type 0} (xs : List X) (n : ℕ) → n ≤ length xs → length (take n xs) ≡ n
  length_taken xs zero le = refl
  length_taken [] (suc n) le = omega arith
  length_taken (x ∷ xs) (suc n) le = let h = length_taken xs n (omega arith) in omega arith

  -- one more variable has its value
  pub lifted_next : (ss : List DataSort) (i : ℕ) (d : DataSort) (made more : List Value) (x : Value) → i < length ss → made ≡ lifted_from reads words 0 (take i ss) → x ≡ lifted_value reads words i (get_or ss i d) → more ≡ made ++ x ∷ [] → more ≡ lifted_from reads words 0 (take (i + 1) ss)
  lifted_next ss i d made more x lt before value e =
      let n : i ≡ 0 + length (take i ss) = let h = length_taken ss i (omega arith) in omega arith in
      e ∙ ap₂ (λ (xs : List Value) (y : Value). xs ++ y ∷ []) before value ∙ ap (λ j. lifted_from reads words 0 (take i ss) ++ lifted_value reads words j (get_or ss i d) ∷ []) n
      ∙ sym (ap (lifted_from reads words 0) (take_more ss i d lt) ∙ lifted_push 0 (take i ss) (get_or ss i d))

  put_none : (b : Bool) (m : Mapping) (k w : ℕ) → m.entries ≡ [] → w ≡ 0 → (if b then put_into m k w else m).entries ≡ []
  put_none true m k w none zero_word = ap₂ (λ es n. write es k n) none zero_word
  put_none false m k w none zero_word = none

  -- where all words are zero, nothing is put
  none_put : (i : ℕ) (rs : List Read) (m : Mapping) → m.entries ≡ [] → All (λ (r : Read). get_or words r.word 0 ≡ 0) rs → (fold (with_read reads words i) m rs).entries ≡ []
  none_put i [] m none zeros = none
  none_put i (r ∷ rs) m none zeros =
      none_put i rs (with_read reads words i m r) (put_none (r.variable == i) m _ (get_or words r.word 0) none (All-head (λ (q : Read). get_or words q.word 0 ≡ 0) r rs zeros)) (All-tail (λ (q : Read). get_or words q.word 0 ≡ 0) r rs zeros)

  empty_from : All (λ (r : Read). get_or words r.word 0 ≡ 0) reads.reads → (k : ℕ) (ss : List DataSort) → All HasNoEntries (lifted_from reads words k ss)
  empty_from zeros k [] = All-nil HasNoEntries
  empty_from zeros k (BoolSort ∷ ss) = All-cons HasNoEntries _ _ tt (empty_from zeros (suc k) ss)
  empty_from zeros k (BitsSort w ∷ ss) = All-cons HasNoEntries _ _ tt (empty_from zeros (suc k) ss)
  empty_from zeros k (MapSort j w ∷ ss) = All-cons HasNoEntries _ _ (none_put k reads.reads (zero_map j w) refl zeros) (empty_from zeros (suc k) ss)

  pub lifted_no_entries : (made : List Value) (i : ℕ) → made ≡ lifted_from reads words 0 (take i reads.sorts) → All (λ (r : Read). get_or words r.word 0 ≡ 0) reads.reads → All HasNoEntries made
  lifted_no_entries made i e zeros = subst (All HasNoEntries) (sym e) (empty_from zeros 0 (take i reads.sorts))
