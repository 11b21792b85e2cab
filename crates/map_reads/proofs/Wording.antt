-- The words that say the same as a valuation.
use Rattle.std.proofs.Common.{◌≡◌, ℕ, zero, suc, ◌<◌, ◌+◌, ◌^◌, inl, inr, true, false, if◌then◌else◌, List, [], ◌∷◌, ◌++◌, length, length-append, map, option_map, Some, slice_get, get_or, arith, refl, ap, sym, ◌∙◌, subst}
use Rattle.std.proofs.Math.ListN.{get_or-append}
use Rattle.std.proofs.lemmas.Bool.{cases_lt}
use Rattle.std.proofs.lemmas.List.{get_or_push, get_or-map, length-map}
use Rattle.std.proofs.lemmas.Option.{get_or_from_slice_get, slice_get-get_or, slice_get-map}
use Rattle.data_value.specs.declared.DataSort.{DataSort}
use Rattle.data_value.specs.declared.DataSort.TheVariants.{Map as MapSort}
use Rattle.data_value.specs.declared.Scalar.TheVariants.{Flag, Bits}
use Rattle.data_value.specs.declared.Value.{Value}
use Rattle.data_value.specs.declared.Value.TheVariants.{One, Map}
use Rattle.data_value.specs.declared.flat_formula.FlatNode.{FlatNode}
use Rattle.data_value.specs.Values.{word_of, map_of, value_sort, IsValue}
use Rattle.data_value.specs.Maps.{read}
use Rattle.data_value.specs.Nodes.{IsValuation}
use Rattle.data_value.specs.Views.{value_at}
use Rattle.data_value.proofs.MapLemmas.{read_is_word}
use Rattle.map_reads.specs.declared.read.Read.{Read}
use Rattle.map_reads.specs.declared.read.Reads.{Reads}
use Rattle.map_reads.specs.Tied.{value_in, input_width, IsWordOf, word_read, SameBelow, key_width, word_width}
use Rattle.map_reads.specs.Reduced.{WordsFor}
use Rattle.map_reads.proofs.Leaves.{sort_of_value}

-- the word of a value's input, zero for a map
abbrev scalar_word : Value → ℕ
scalar_word (One (Flag b)) = if b then 1 else 0
scalar_word (One (Bits n x)) = x
scalar_word (Map m) = 0

scalar_word_is : (x : Value) → IsWordOf x (scalar_word x)
scalar_word_is (One (Flag true)) = refl
scalar_word_is (One (Flag false)) = refl
scalar_word_is (One (Bits n x)) = refl
scalar_word_is (Map m) = tt

scalar_word_fits : (x : Value) → IsValue x → scalar_word x < 2 ^ input_width (value_sort x)
scalar_word_fits (One (Flag true)) is = omega arith
scalar_word_fits (One (Flag false)) is = omega arith
scalar_word_fits (One (Bits n x)) is = is.1
scalar_word_fits (Map m) is = omega arith

-- what a map has at a key is a word of its sort
map_word : (x : Value) (k w j : ℕ) → IsValue x → value_sort x ≡ MapSort k w → read (map_of x).entries j < 2 ^ w
map_word (One (Flag b)) k w j is sorted = absurd (cc)
map_word (One (Bits n x)) k w j is sorted = absurd (cc)
map_word (Map m) k w j is sorted = let width : m.word_width ≡ w = cc in subst (λ n. read m.entries j < 2 ^ n) width (read_is_word m j is)

module _ (widths : List ℕ) (nodes : List FlatNode) (v : List Value) where
  -- the words so far, and that of each read in turn
  words_from : List ℕ → List Read → List ℕ
  words_from words [] = words
  words_from words (r ∷ rs) = words_from (words ++ word_read widths nodes words v r ∷ []) rs

  words_kept : (rs : List Read) (words : List ℕ) (i : ℕ) → i < length words → get_or (words_from words rs) i 0 ≡ get_or words i 0
  unfolding words_from
  words_kept [] words i l = refl
  words_kept (r ∷ rs) words i l =
      let x = word_read widths nodes words v r in
      words_kept rs (words ++ x ∷ []) i (omega (arith, length-append words (x ∷ []))) ∙ get_or-append words (x ∷ []) 0 i l

  length_words : (rs : List Read) (words : List ℕ) → length (words_from words rs) ≡ length words + length rs
  unfolding words_from
  length_words [] words = omega arith
  length_words (r ∷ rs) words =
      let x = word_read widths nodes words v r in
      omega (arith, length_words rs (words ++ x ∷ []), length-append words (x ∷ []))

  -- each read's word is what its map has at the key
  reads_tied : (rs : List Read) (words : List ℕ) (m : ℕ) → length words ≡ m →
      ((k : ℕ) (r : Read) → slice_get rs k ≡ Some r → (r.word ≡ m + k) × ((us ts : List ℕ) → SameBelow (m + k) us ts → value_in widths nodes us r.key ≡ value_in widths nodes ts r.key)) →
      (k : ℕ) (r : Read) → slice_get rs k ≡ Some r → get_or (words_from words rs) r.word 0 ≡ word_read widths nodes (words_from words rs) v r
  unfolding words_from
  reads_tied [] words m size each k r at = absurd (cc)
  reads_tied (s ∷ rs) words m size each zero r at =
      let e : s ≡ r = cc in
      let x = word_read widths nodes words v s in
      let more = words ++ x ∷ [] in
      let all = words_from more rs in
      let is = each 0 s refl in
      let place : length words ≡ s.word = let h = is.0 in omega arith in
      let grown : s.word < length more = omega (arith, length-append words (x ∷ [])) in
      let same : SameBelow (m + 0) words all = λ i l. sym (words_kept rs more i (omega (arith, length-append words (x ∷ []))) ∙ get_or-append words (x ∷ []) 0 i (omega arith)) in
      subst (λ q. get_or all q.word 0 ≡ word_read widths nodes all v q) e
      (words_kept rs more s.word grown ∙ get_or_push words x 0 s.word place ∙ ap (λ y. read (map_of (value_at v s.variable)).entries (word_of y)) (is.1 words all same))
  reads_tied (s ∷ rs) words m size each (suc k) r at =
      let x = word_read widths nodes words v s in
      reads_tied rs (words ++ x ∷ []) (suc m) (omega (arith, length-append words (x ∷ [])))
      (λ j q at_j.
      let is = each (suc j) q at_j in
      let h = is.0 in
      let e : q.word ≡ suc m + j = omega arith in
      (e, λ us ts below. is.1 us ts (λ i l. below i (omega arith))))
      k r at

  -- each word is of the width of its input
  words_fit : (rs : List Read) (words : List ℕ) (m : ℕ) → length words ≡ m → ((i : ℕ) → i < m → get_or words i 0 < 2 ^ get_or widths i 0) → ((k : ℕ) (r : Read) → slice_get rs k ≡ Some r → (us : List ℕ) → word_read widths nodes us v r < 2 ^ get_or widths (m + k) 0) →
      (i : ℕ) → i < m + length rs → get_or (words_from words rs) i 0 < 2 ^ get_or widths i 0
  unfolding words_from
  words_fit [] words m size fit each i l = fit i (omega arith)
  words_fit (s ∷ rs) words m size fit each i l =
      let x = word_read widths nodes words v s in
      words_fit rs (words ++ x ∷ []) (suc m) (omega (arith, length-append words (x ∷ [])))
      (λ j below. elim (cases_lt j m) [
        | inl n ↦ subst (λ y. y < 2 ^ get_or widths j 0) (sym (get_or-append words (x ∷ []) 0 j (omega arith))) (fit j n)
        | inr n ↦
            let here : m + 0 ≡ j = omega arith in
            subst (λ y. y < 2 ^ get_or widths j 0) (sym (get_or_push words x 0 j (omega arith))) (subst (λ y. x < 2 ^ get_or widths y 0) here (each 0 s refl words))
      ])
      (λ k r at us. let e : m + suc k ≡ suc m + k = omega arith in subst (λ y. word_read widths nodes us v r < 2 ^ get_or widths y 0) e (each (suc k) r at us))
      i (omega arith)

module _ (reads : Reads) (v : List Value) (fits : IsValuation reads.sorts v) where
  length_sorts : length v ≡ length reads.sorts
  length_sorts = sym (length-map v value_sort) ∙ ap (λ (ss : List DataSort). length ss) fits.sorted

  first_words : List ℕ
  first_words = map scalar_word v

  sort_here : (i : ℕ) → i < length v → slice_get reads.sorts i ≡ Some (value_sort (value_at v i))
  sort_here i l = ap (λ (ss : List DataSort). slice_get ss i) (sym fits.sorted) ∙ slice_get-map value_sort v i ∙ ap (option_map value_sort) (slice_get-get_or v i (One (Flag false)) l)

  scalar_at : (i : ℕ) → i < length v → get_or first_words i 0 ≡ scalar_word (value_at v i)
  unfolding first_words
  scalar_at i l = get_or-map scalar_word v i (One (Flag false)) 0 l

  first_fit : (i : ℕ) → i < length reads.sorts → get_or first_words i 0 < 2 ^ get_or reads.flat.widths i 0
  unfolding first_words
  first_fit i l =
      let within : i < length v = let n = length_sorts in omega arith in
      let s = value_sort (value_at v i) in
      let width : get_or reads.flat.widths i 0 ≡ input_width s = get_or_from_slice_get reads.flat.widths i (input_width s) 0 (reads.fits.inputs i s (sort_here i within)).1 in
      subst (λ x. x < 2 ^ get_or reads.flat.widths i 0) (sym (scalar_at i within)) (subst (λ n. scalar_word (value_at v i) < 2 ^ n) (sym width) (scalar_word_fits (value_at v i) (fits.values i (One (Flag false)) within)))

  read_fits : (k : ℕ) (r : Read) → slice_get reads.reads k ≡ Some r → (us : List ℕ) → word_read reads.flat.widths reads.flat.nodes us v r < 2 ^ get_or reads.flat.widths (length reads.sorts + k) 0
  read_fits k r at us =
      let is = reads.fits.each k r at in
      let h = sort_of_value v reads.sorts r.variable _ fits is.map in
      let width : get_or reads.flat.widths (length reads.sorts + k) 0 ≡ word_width reads.sorts r = ap (λ n. get_or reads.flat.widths n 0) (sym is.word) ∙ get_or_from_slice_get reads.flat.widths r.word _ 0 is.width in
      subst (λ n. word_read reads.flat.widths reads.flat.nodes us v r < 2 ^ n) (sym width) (map_word (value_at v r.variable) (key_width reads.sorts r) (word_width reads.sorts r) (word_of (value_in reads.flat.widths reads.flat.nodes us r.key)) (fits.values r.variable (One (Flag false)) h.0) h.1)

  pub words_for : WordsFor reads v
  unfolding first_words
  words_for =
      let widths = reads.flat.widths in
      let nodes = reads.flat.nodes in
      let words = words_from widths nodes v first_words reads.reads in
      let size : length first_words ≡ length reads.sorts = length-map v scalar_word ∙ length_sorts in
      let count : length words ≡ length widths = let c = reads.fits.count in omega (arith, length_words widths nodes v reads.reads first_words) in
      record {
        words = words;
        fit = record { count = count; fit = λ i l. words_fit widths nodes v reads.reads first_words (length reads.sorts) size first_fit read_fits i (let c = reads.fits.count in omega arith) };
        ties = record {
          variables = λ i l.
              let input = get_or_from_slice_get reads.scalars i i 0 (reads.fits.inputs i _ (sort_here i l)).0 in
              subst (λ n. IsWordOf (value_at v i) (get_or words n 0)) (sym input)
              (subst (IsWordOf (value_at v i)) (sym (words_kept widths nodes v reads.reads first_words i (let n = length_sorts in omega arith) ∙ scalar_at i l)) (scalar_word_is (value_at v i)));
          words_read = reads_tied widths nodes v reads.reads first_words (length reads.sorts) size (λ k r at. let is = reads.fits.each k r at in (is.word, is.early));
        };
      }
