-- Demands that reads agree.
use Rattle.std.proofs.Common.{◌≡◌, ℕ, ◌<◌, ◌+◌, ◌||◌, ◌&&◌, inl, inr, Bool, true, false, Some, List, [], ◌∷◌, length, slice_get, get_or, arith, refl, ap, sym, ◌∙◌, subst}
use Rattle.std.specs.Prelude.{not, ◌↔◌}
use Rattle.std.specs.Cmp.{first_so, second_so}
use Rattle.std.proofs.lemmas.Bool.{cases_lt, and_from}
use Rattle.std.proofs.lemmas.Option.{same_Some, slice_get_within, slice_get-get_or}
use Rattle.data_value.specs.declared.DataSort.TheVariants.{Bool as BoolSort, Bits as BitsSort}
use Rattle.data_value.specs.declared.Scalar.{Scalar}
use Rattle.data_value.specs.declared.Scalar.TheVariants.{Flag, Bits}
use Rattle.data_value.specs.declared.Op.TheVariants.{And}
use Rattle.data_value.specs.declared.flat_formula.FlatNode.TheVariants.{Apply}
use Rattle.data_value.specs.Values.{same_scalar, flag_of, word_of}
use Rattle.data_value.proofs.TestLemmas.{decides_scalar}
use Rattle.map_reads.specs.declared.read.Read.{Read}
use Rattle.map_reads.specs.declared.draft.Draft.{Draft}
use Rattle.map_reads.specs.Tied.{keys_of, words_of, key_width, word_width}
use Rattle.map_reads.specs.Drafts.{sort_at, value_of, IsDraft, Grows, IsPushed, HasValue}
use Rattle.map_reads.specs.Demands.{Agree, AgreeIn, AllAgree, IsDemanded}
use Rattle.map_reads.proofs.Drafting.{grows-same, grows-both, sort_later, value_later, applied}
use Rattle.map_reads.proofs.Sorting.{two_at}

-- the read of a number
pub read_at : (reads all : List Read) (i : ℕ) → all ≡ reads → i < length reads → slice_get reads i ≡ Some (get_or all i (record { variable = 0; key = 0; word = 0 }))
read_at reads all i same l =
    let size = ap (λ (rs : List Read). length rs) same in
    ap (λ (rs : List Read). slice_get rs i) (sym same) ∙ slice_get-get_or all i (record { variable = 0; key = 0; word = 0 }) (omega arith)

-- the test whether two reads agree says it
test_says : (k l : Scalar) (w x y : ℕ) → (not (same_scalar k l) || same_scalar (Bits w x) (Bits w y)) ≡ true → k ≡ l → x ≡ y
test_says k l w x y h e =
    let words : same_scalar (Bits w x) (Bits w y) ≡ true = ap (λ b. not b || same_scalar (Bits w x) (Bits w y)) (sym ((decides_scalar k l).1 e)) ∙ h in
    ap word_of ((decides_scalar (Bits w x) (Bits w y)).0 words)

says_test : (k l : Scalar) (w x y : ℕ) → (k ≡ l → x ≡ y) → (not (same_scalar k l) || same_scalar (Bits w x) (Bits w y)) ≡ true
says_test k l w x y h = by (same_scalar k l) refl
  where
    by : (b : Bool) → same_scalar k l ≡ b → (not b || same_scalar (Bits w x) (Bits w y)) ≡ true
    by true e = (decides_scalar (Bits w x) (Bits w y)).1 (ap (Bits w) (h ((decides_scalar k l).0 e)))
    by false e = refl

-- no more is demanded
pub demanded_none : (d : Draft) (root : ℕ) (demand : List ℕ → Type 0) → IsDraft d → sort_at d root ≡ Some BoolSort → ((words : List ℕ) → demand words) → IsDemanded d d root root demand
demanded_none d root demand draft sort holds = record { grows = grows-same d; draft = draft; reads = refl; sort = sort; means = λ words. ((λ h. (h, holds words)), (λ h. h.0)) }

-- the same said in other words
pub demanded_as : (old new : Draft) (root p : ℕ) (one other : List ℕ → Type 0) → IsDemanded old new root p one → ((words : List ℕ) → one words ↔ other words) → IsDemanded old new root p other
demanded_as old new root p one other is same = record {
  grows = is.grows;
  draft = is.draft;
  reads = is.reads;
  sort = is.sort;
  means = λ words. ((λ h. let both = (is.means words).0 h in (both.0, (same words).0 both.1)), (λ h. (is.means words).1 (h.0, (same words).1 h.1)));
}

-- more is demanded
demanded_more : (a b c : Draft) (root p q : ℕ) (first second both : List ℕ → Type 0) → IsDemanded a b root p first → IsDemanded b c p q second → ((words : List ℕ) → both words ↔ (first words × second words)) → IsDemanded a c root q both
demanded_more a b c root p q first second both one two is = record {
  grows = grows-both a b c one.grows two.grows;
  draft = two.draft;
  reads = two.reads ∙ one.reads;
  sort = two.sort;
  means = λ words. (
    (λ h. let later = (two.means words).0 h in let before = (one.means words).0 later.0 in (before.0, (is words).1 (before.1, later.1))),
    (λ h. let parts = (is words).0 h.1 in (two.means words).1 ((one.means words).1 (h.0, parts.0), parts.1)),
  );
}

-- two reads of one variable
pub demanded_pair : (old mid new : Draft) (root agree p i j : ℕ) (a b : Read) → IsDraft old → sort_at old root ≡ Some BoolSort → slice_get old.reads i ≡ Some a → slice_get old.reads j ≡ Some b → a.variable ≡ b.variable →
    ((k w : ℕ) → IsDraft old → sort_at old a.key ≡ Some (BitsSort k) → sort_at old b.key ≡ Some (BitsSort k) → slice_get old.widths a.word ≡ Some w → slice_get old.widths b.word ≡ Some w →
    HasValue old mid agree BoolSort (λ words. Flag (not (same_scalar (value_of old words a.key) (value_of old words b.key)) || same_scalar (Bits w (get_or words a.word 0)) (Bits w (get_or words b.word 0))))) →
    IsPushed mid new p (Apply And (root ∷ agree ∷ [])) → IsDemanded old new root p (λ words. AgreeIn old words i j)
demanded_pair old mid new root agree p i j a b draft root_sort at_i at_j same agreed is =
    let k = key_width old.sorts a in
    let w = word_width old.sorts a in
    let first = draft.reads_fit.each i a at_i in
    let second = draft.reads_fit.each j b at_j in
    let keys : key_width old.sorts b ≡ k = ap (λ x. keys_of (get_or old.sorts x BoolSort)) (sym same) in
    let widths : word_width old.sorts b ≡ w = ap (λ x. words_of (get_or old.sorts x BoolSort)) (sym same) in
    let test = agreed k w draft first.key (second.key ∙ ap (λ n. Some (BitsSort n)) keys) first.width (second.width ∙ ap Some widths) in
    let joined = applied mid new p And (root ∷ agree ∷ []) (BoolSort ∷ BoolSort ∷ []) BoolSort test.draft is (two_at (sort_later old mid draft test.grows root BoolSort root_sort) test.sort) refl in
    let before : (words : List ℕ) → value_of mid words root ≡ value_of old words root = λ words. value_later old mid draft test.grows root BoolSort words root_sort in
    record {
      grows = grows-both old mid new test.grows joined.grows;
      draft = joined.draft;
      reads = joined.reads ∙ test.reads;
      sort = joined.sort;
      means = λ words. (
        (λ h.
            let both : (flag_of (value_of mid words root) && flag_of (value_of mid words agree)) ≡ true = sym (ap flag_of (joined.means words)) ∙ h in
            let told = sym (ap flag_of (test.means words)) ∙ second_so (flag_of (value_of mid words root)) (flag_of (value_of mid words agree)) both in (
              sym (ap flag_of (before words)) ∙ first_so (flag_of (value_of mid words root)) (flag_of (value_of mid words agree)) both,
              λ c d at_c at_d.
                  subst (λ x. Agree old.widths old.nodes words x d) (same_Some a c (sym at_i ∙ at_c))
                  (subst (λ x. Agree old.widths old.nodes words a x) (same_Some b d (sym at_j ∙ at_d)) (λ v e. test_says (value_of old words a.key) (value_of old words b.key) w (get_or words a.word 0) (get_or words b.word 0) told e)),
            )),
        (λ h.
            let agree_true = ap flag_of (test.means words) ∙ says_test (value_of old words a.key) (value_of old words b.key) w (get_or words a.word 0) (get_or words b.word 0) (h.1 a b at_i at_j same) in
            ap flag_of (joined.means words) ∙ and_from (flag_of (value_of mid words root)) (flag_of (value_of mid words agree)) (ap flag_of (before words) ∙ h.0) agree_true),
      );
    }

-- two reads that agree anyway
pub demanded_pair_anyway : (d : Draft) (root i j : ℕ) (a b : Read) → IsDraft d → sort_at d root ≡ Some BoolSort → slice_get d.reads i ≡ Some a → slice_get d.reads j ≡ Some b → ((words : List ℕ) → Agree d.widths d.nodes words a b) → IsDemanded d d root root (λ words. AgreeIn d words i j)
demanded_pair_anyway d root i j a b draft root_sort at_i at_j agree =
    demanded_none d root (λ words. AgreeIn d words i j) draft root_sort
    (λ words c e at_c at_e.
    subst (λ x. Agree d.widths d.nodes words x e) (same_Some a c (sym at_i ∙ at_c)) (subst (λ x. Agree d.widths d.nodes words a x) (same_Some b e (sym at_j ∙ at_e)) (agree words)))

-- reads agree in a draft that has grown where they did before
module _ (old new : Draft) (draft : IsDraft old) (g : Grows old new) (same : new.reads ≡ old.reads) where
  key_value : (words : List ℕ) (i : ℕ) (a : Read) → slice_get old.reads i ≡ Some a → value_of new words a.key ≡ value_of old words a.key
  key_value words i a at = value_later old new draft g a.key _ words (draft.reads_fit.each i a at).key

  pub agree_before : (words : List ℕ) (i j : ℕ) → AgreeIn new words i j → AgreeIn old words i j
  agree_before words i j h a b at_i at_j v e =
      h a b (ap (λ rs. slice_get rs i) same ∙ at_i) (ap (λ rs. slice_get rs j) same ∙ at_j) v (key_value words i a at_i ∙ e ∙ sym (key_value words j b at_j))

  pub agree_later : (words : List ℕ) (i j : ℕ) → AgreeIn old words i j → AgreeIn new words i j
  agree_later words i j h a b new_i new_j v e =
      let at_i = ap (λ rs. slice_get rs i) (sym same) ∙ new_i in
      let at_j = ap (λ rs. slice_get rs j) (sym same) ∙ new_j in
      h a b at_i at_j v (sym (key_value words i a at_i) ∙ e ∙ key_value words j b at_j)

-- one more earlier read
pub earlier_more : (o a b : Draft) (root p q i last : ℕ) → IsDraft o → IsDemanded o a root p (λ words. (j : ℕ) → j < i → AgreeIn o words j last) → IsDemanded a b p q (λ words. AgreeIn a words i last) → IsDemanded o b root q (λ words. (j : ℕ) → j < i + 1 → AgreeIn o words j last)
earlier_more o a b root p q i last draft before now =
    demanded_more o a b root p q _ _ _ before now
    (λ words. (
      (λ h. ((λ j l. h j (omega arith)), agree_later o a draft before.grows before.reads words i last (h i (omega arith)))),
      (λ h j l. elim (cases_lt j i) [
        | inl m ↦ h.0 j m
        | inr m ↦ let e : i ≡ j = omega arith in subst (λ n. AgreeIn o words n last) e (agree_before o a draft before.grows before.reads words i last h.1)
      ]),
    ))

-- one more read
pub reads_more : (o a b : Draft) (root p q i : ℕ) → IsDraft o → IsDemanded o a root p (λ words. (j k : ℕ) → j < k → k < i → AgreeIn o words j k) → IsDemanded a b p q (λ words. (j : ℕ) → j < i → AgreeIn a words j i) → IsDemanded o b root q (λ words. (j k : ℕ) → j < k → k < i + 1 → AgreeIn o words j k)
reads_more o a b root p q i draft before now =
    demanded_more o a b root p q _ _ _ before now
    (λ words. (
      (λ h. ((λ j k l m. h j k l (omega arith)), (λ j l. agree_later o a draft before.grows before.reads words j i (h j i l (omega arith))))),
      (λ h j k l m. elim (cases_lt k i) [
        | inl n ↦ h.0 j k l n
        | inr n ↦ let e : i ≡ k = omega arith in subst (λ x. AgreeIn o words j x) e (agree_before o a draft before.grows before.reads words j i (h.1 j (omega arith)))
      ]),
    ))

-- all of them
pub reads_all : (o a : Draft) (root p i : ℕ) → i ≡ length o.reads → IsDemanded o a root p (λ words. (j k : ℕ) → j < k → k < i → AgreeIn o words j k) → IsDemanded o a root p (AllAgree o.widths o.nodes o.reads)
reads_all o a root p i all is =
    demanded_as o a root p _ _ is
    (λ words. (
      (λ h j k x y at_j at_k. elim (cases_lt j k) [
        | inl l ↦ h j k l (let m = slice_get_within o.reads k y at_k in omega arith) x y at_j at_k
        | inr l ↦ elim (cases_lt k j) [
          | inl m ↦ λ v e. sym (h k j m (let n = slice_get_within o.reads j x at_j in omega arith) y x at_k at_j (sym v) (sym e))
          | inr m ↦ λ v e.
              let n : j ≡ k = omega arith in
              ap (λ r. get_or words r.word 0) (same_Some x y (sym at_j ∙ ap (slice_get o.reads) n ∙ at_k))
        ]
      ]),
      (λ h j k l m. h j k),
    ))
