-- What words are lifted to is a valuation, and says the same as they do where reads agree.
use Rattle.std.proofs.Common.{◌≡◌, ℕ, zero, suc, ◌<◌, ◌+◌, ◌^◌, ◌==◌, Bool, true, false, if◌then◌else◌, List, [], ◌∷◌, length, map, fold, All, Some, slice_get, get_or, arith, refl, ap, ap₂, sym, ◌∙◌, subst}
use Rattle.std.proofs.lemmas.Bool.{eqb-true, eq-eqb}
use Rattle.std.proofs.lemmas.List.{get_or-map, length-map}
use Rattle.std.proofs.lemmas.List.Elements.{All-nil, All-cons}
use Rattle.std.proofs.lemmas.Option.{get_or_from_slice_get, slice_get_within, slice_get-get_or}
use Rattle.data_value.specs.declared.DataSort.{DataSort}
use Rattle.data_value.specs.declared.DataSort.TheVariants.{Bool as BoolSort, Bits as BitsSort, Map as MapSort}
use Rattle.data_value.specs.declared.Scalar.{Scalar}
use Rattle.data_value.specs.declared.Scalar.TheVariants.{Flag, Bits}
use Rattle.data_value.specs.declared.Value.{Value}
use Rattle.data_value.specs.declared.Value.TheVariants.{One}
use Rattle.data_value.specs.Values.{word_of, map_of, scalar_sort, value_sort, IsScalar, IsValue, IsValueOf}
use Rattle.data_value.specs.Maps.{Mapping, IsMapping, FitsEntry, read, zero_map, put_into}
use Rattle.data_value.specs.Nodes.{IsValuation}
use Rattle.data_value.specs.Views.{value_at}
use Rattle.data_value.specs.Flat.{AreWords, flat_values, flat_sorts}
use Rattle.data_value.proofs.FlatLemmas.{kept_all}
use Rattle.data_value.proofs.MapLemmas.{put_is_mapping, read-write}
use Rattle.map_reads.specs.declared.read.Read.{Read}
use Rattle.map_reads.specs.declared.read.Reads.{Reads}
use Rattle.map_reads.specs.Tied.{value_in, IsWordOf, key_width, word_width}
use Rattle.map_reads.specs.Lifted.{with_read, lifted_value, lifted_from, lifted, TiedBy}
use Rattle.map_reads.specs.Demands.{AllAgree}
use Rattle.map_reads.proofs.AtKeys.{sort_of_variable}
use Rattle.map_reads.proofs.Leaves.{word_scalar}
use Rattle.map_reads.proofs.Lifts.{key_fits, word_fits}

-- a word at a place of its sort
bits_at : (vs : List Scalar) (p n : ℕ) → slice_get (map scalar_sort vs) p ≡ Some (BitsSort n) → get_or vs p (Flag false) ≡ Bits n (word_of (get_or vs p (Flag false)))
bits_at vs p n is =
    let within : p < length vs = let l = slice_get_within (map scalar_sort vs) p (BitsSort n) is in let e = length-map vs scalar_sort in omega arith in
    word_scalar (One (get_or vs p (Flag false))) n (sym (get_or-map scalar_sort vs p (Flag false) BoolSort within) ∙ get_or_from_slice_get (map scalar_sort vs) p (BitsSort n) BoolSort is)

-- what a map has at a key, where a word may have been put at one
one_read : (b : Bool) (m : Mapping) (key word j w : ℕ) → (b ≡ true → key ≡ j → word ≡ w) → read m.entries j ≡ w → read (if b then put_into m key word else m).entries j ≡ w
one_read true m key word j w same e = read-write m.entries key word j ∙ by (key == j) refl
  where
    by : (c : Bool) → (key == j) ≡ c → (if c then word else read m.entries j) ≡ w
    by true h = same refl (eqb-true key j h)
    by false h = e
one_read false m key word j w same e = e

-- a map of these widths
record HasWidths (keys width : ℕ) (m : Mapping) : Type 0 where
  mapping : IsMapping m
  key_width : m.key_width ≡ keys
  word_width : m.word_width ≡ width

one_fits : (b : Bool) (m : Mapping) (key word keys width : ℕ) → (b ≡ true → (key < 2 ^ keys) × (word < 2 ^ width)) → HasWidths keys width m → HasWidths keys width (if b then put_into m key word else m)
one_fits true m key word keys width fit is =
    let l = fit refl in
    record {
      mapping = put_is_mapping m key word is.mapping (subst (λ n. key < 2 ^ n) (sym is.key_width) l.0) (subst (λ n. word < 2 ^ n) (sym is.word_width) l.1);
      key_width = is.key_width;
      word_width = is.word_width;
    }
one_fits false m key word keys width fit is = is

module _ (reads : Reads) (words : List ℕ) (are : AreWords reads.flat.widths words) where
  abbrev key_word : Read → ℕ
  key_word r = word_of (value_in reads.flat.widths reads.flat.nodes words r.key)

  kept_values : All IsScalar (flat_values reads.flat.widths words reads.flat.nodes) × (map scalar_sort (flat_values reads.flat.widths words reads.flat.nodes) ≡ flat_sorts reads.flat.widths reads.flat.nodes)
  kept_values = kept_all reads.flat.widths words reads.flat.nodes reads.flat.fits.widths_fit reads.flat.fits.nodes_fit are

  module _ (x : ℕ) where
    -- what stands at a key stays where all words that are put there are the same
    kept : (rs : List Read) (m : Mapping) (j w : ℕ) → ((k : ℕ) (s : Read) → slice_get rs k ≡ Some s → s.variable ≡ x → key_word s ≡ j → get_or words s.word 0 ≡ w) → read m.entries j ≡ w → read (fold (with_read reads words x) m rs).entries j ≡ w
    kept [] m j w same e = e
    kept (s ∷ rs) m j w same e =
        kept rs (with_read reads words x m s) j w (λ k r at. same (suc k) r at)
        (one_read (s.variable == x) m (key_word s) (get_or words s.word 0) j w (λ of key. same 0 s refl (eqb-true s.variable x of) key) e)

    put_here : (s : Read) (m : Mapping) → s.variable ≡ x → read (with_read reads words x m s).entries (key_word s) ≡ get_or words s.word 0
    put_here s m of =
        ap (λ b. read (if b then put_into m (key_word s) (get_or words s.word 0) else m).entries (key_word s)) (eq-eqb s.variable x of) ∙ read-write m.entries (key_word s) (get_or words s.word 0) (key_word s)
        ∙ ap (λ b. if b then get_or words s.word 0 else read m.entries (key_word s)) (eq-eqb (key_word s) (key_word s) refl)

    -- at the key of a read stands its word
    found : (rs : List Read) (m : Mapping) (i : ℕ) (r : Read) → slice_get rs i ≡ Some r → r.variable ≡ x → ((k : ℕ) (s : Read) → slice_get rs k ≡ Some s → s.variable ≡ x → key_word s ≡ key_word r → get_or words s.word 0 ≡ get_or words r.word 0) →
        read (fold (with_read reads words x) m rs).entries (key_word r) ≡ get_or words r.word 0
    found [] m i r at of same = absurd (cc)
    found (s ∷ rs) m zero r at of same =
        let e : r ≡ s = cc in
        kept rs (with_read reads words x m s) (key_word r) (get_or words r.word 0) (λ k q a. same (suc k) q a) (ap (λ q. read (with_read reads words x m s).entries (key_word q)) e ∙ put_here s m (ap (λ q. q.variable) (sym e) ∙ of) ∙ ap (λ q. get_or words q.word 0) (sym e))
    found (s ∷ rs) m (suc i) r at of same = found rs (with_read reads words x m s) i r at of (λ k q a. same (suc k) q a)

    -- what is put into a map makes a map of its widths
    puts_fit : (rs : List Read) (m : Mapping) (keys width : ℕ) → ((k : ℕ) (s : Read) → slice_get rs k ≡ Some s → s.variable ≡ x → (key_word s < 2 ^ keys) × (get_or words s.word 0 < 2 ^ width)) → HasWidths keys width m → HasWidths keys width (fold (with_read reads words x) m rs)
    puts_fit [] m keys width fit is = is
    puts_fit (s ∷ rs) m keys width fit is =
        puts_fit rs (with_read reads words x m s) keys width (λ k r at. fit (suc k) r at)
        (one_fits (s.variable == x) m (key_word s) (get_or words s.word 0) keys width (λ of. fit 0 s refl (eqb-true s.variable x of)) is)

  -- each variable is lifted to a value of its sort
  value_fits : (i : ℕ) (s : DataSort) → slice_get reads.sorts i ≡ Some s → IsValueOf s (lifted_value reads words i s)
  value_fits i BoolSort at = record { value = tt; sort = refl }
  value_fits i (BitsSort w) at =
      let input = reads.fits.inputs i (BitsSort w) at in
      let here : get_or reads.scalars i 0 ≡ i = get_or_from_slice_get reads.scalars i i 0 input.0 in
      let width : get_or reads.flat.widths i 0 ≡ w = get_or_from_slice_get reads.flat.widths i w 0 input.1 in
      let l = are.fit i (slice_get_within reads.flat.widths i w input.1) in
      record {
        value = (sort_of_variable reads.sorts i (BitsSort w) reads.fits.sorts_fit at, subst (λ j. get_or words j 0 < 2 ^ w) (sym here) (subst (λ n. get_or words i 0 < 2 ^ n) width l));
        sort = refl;
      }
  value_fits i (MapSort k w) at =
      let widths = sort_of_variable reads.sorts i (MapSort k w) reads.fits.sorts_fit at in
      let zeros : IsMapping (zero_map k w) = record { key_width = widths.0; word_width = widths.1; rises = tt; fits = All-nil (FitsEntry k w) } in
      let all = puts_fit i reads.reads (zero_map k w) k w
      (λ j r at_j of. (
        key_fits reads.sorts reads.scalars reads.flat.widths reads.flat.nodes reads.reads words reads.fits are i k w j r at_j of at (flat_values reads.flat.widths words reads.flat.nodes) kept_values.0 kept_values.1,
        word_fits reads.sorts reads.scalars reads.flat.widths reads.flat.nodes reads.reads words reads.fits are i k w j r at_j of at,
      ))
      (record { mapping = zeros; key_width = refl; word_width = refl }) in
      record { value = all.mapping; sort = ap₂ MapSort all.key_width all.word_width }

  values_fit : (k : ℕ) (ss : List DataSort) → ((j : ℕ) (s : DataSort) → slice_get ss j ≡ Some s → slice_get reads.sorts (k + j) ≡ Some s) → All IsValue (lifted_from reads words k ss) × (map value_sort (lifted_from reads words k ss) ≡ ss)
  values_fit k [] at = (All-nil IsValue, refl)
  values_fit k (s ∷ ss) at =
      let n : k + 0 ≡ k = omega arith in
      let here = value_fits k s (ap (slice_get reads.sorts) (sym n) ∙ at 0 s refl) in
      let rest = values_fit (suc k) ss (λ j t is. let m : suc k + j ≡ k + suc j = omega arith in ap (slice_get reads.sorts) m ∙ at (suc j) t is) in
      (All-cons IsValue (lifted_value reads words k s) (lifted_from reads words (suc k) ss) here.value rest.0, ap₂ (λ t ts. t ∷ ts) here.sort rest.1)

  pub lifted_fits : IsValuation reads.sorts (lifted reads words)
  lifted_fits =
      let all = values_fit 0 reads.sorts (λ j s at. let n : 0 + j ≡ j = omega arith in ap (slice_get reads.sorts) n ∙ at) in
      record { values = all.0; sorted = all.1 }

  lifted_at : (k : ℕ) (ss : List DataSort) (j n : ℕ) (s : DataSort) → k + j ≡ n → slice_get ss j ≡ Some s → value_at (lifted_from reads words k ss) j ≡ lifted_value reads words n s
  lifted_at k [] j n s e at = absurd (cc)
  lifted_at k (t ∷ ss) zero n s e at =
      let same : t ≡ s = cc in
      let here : k ≡ n = omega arith in
      ap₂ (lifted_value reads words) here same
  lifted_at k (t ∷ ss) (suc j) n s e at = lifted_at (suc k) ss j n s (omega arith) at

  length_lifted : (k : ℕ) (ss : List DataSort) → length (lifted_from reads words k ss) ≡ length ss
  length_lifted k [] = refl
  length_lifted k (s ∷ ss) = ap suc (length_lifted (suc k) ss)

  word_of_lifted : (i : ℕ) (s : DataSort) → IsWordOf (lifted_value reads words i s) (get_or words (get_or reads.scalars i 0) 0)
  word_of_lifted i BoolSort = refl
  word_of_lifted i (BitsSort w) = refl
  word_of_lifted i (MapSort k w) = tt

  key_is : (i : ℕ) (r : Read) → slice_get reads.reads i ≡ Some r → value_in reads.flat.widths reads.flat.nodes words r.key ≡ Bits (key_width reads.sorts r) (key_word r)
  key_is i r at = bits_at (flat_values reads.flat.widths words reads.flat.nodes) r.key (key_width reads.sorts r) (ap (λ (ss : List DataSort). slice_get ss r.key) kept_values.1 ∙ (reads.fits.each i r at).key)

  pub lifted_ties : AllAgree reads.flat.widths reads.flat.nodes reads.reads words → TiedBy reads words (lifted reads words)
  lifted_ties agree = record {
    variables = λ i l.
        let s : DataSort = get_or reads.sorts i BoolSort in
        let at = slice_get-get_or reads.sorts i BoolSort (let n = length_lifted 0 reads.sorts in omega arith) in
        subst (λ x. IsWordOf x (get_or words (get_or reads.scalars i 0) 0)) (sym (lifted_at 0 reads.sorts i i s (omega arith) at)) (word_of_lifted i s);
    words_read = λ i r at.
        let x = r.variable in
        let same = λ (k : ℕ) (s : Read) (at_k : slice_get reads.reads k ≡ Some s) (of : s.variable ≡ x) (key : key_word s ≡ key_word r).
        agree k i s r at_k at of (key_is k s at_k ∙ ap₂ Bits (ap (λ y. key_width reads.sorts (record r { variable = y })) of) key ∙ sym (key_is i r at)) in
        sym (ap (λ (y : Value). read (map_of y).entries (key_word r)) (lifted_at 0 reads.sorts x x _ (omega arith) (reads.fits.each i r at).map)
        ∙ found x reads.reads (zero_map (key_width reads.sorts r) (word_width reads.sorts r)) i r at refl same);
  }
