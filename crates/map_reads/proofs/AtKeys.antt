-- What maps have at keys, in drafts.
use Rattle.std.proofs.Common.{◌≡◌, ℕ, zero, suc, ◌<◌, ◌+◌, ◌-◌, ◌^◌, true, if◌then◌else◌, Some, None, inl, inr, List, [], ◌∷◌, ◌++◌, length, drop, All, slice_get, get_or, arith, refl, ap, ap₂, sym, ◌∙◌, subst, length-append}
use Rattle.std.specs.List.{list_all}
use Rattle.std.specs.Cmp.{first_so, second_so}
use Rattle.std.proofs.Math.Seq.{drop-cons}
use Rattle.std.proofs.lemmas.List.Elements.{All-push}
use Rattle.std.proofs.lemmas.Option.{get_or_from_slice_get, slice_get_within}
use Rattle.std.proofs.lemmas.Bool.{lt-ltb}
use Rattle.data_value.specs.declared.DataSort.{DataSort}
use Rattle.data_value.specs.declared.DataSort.TheVariants.{Bool as BoolSort, Bits as BitsSort, Map as MapSort}
use Rattle.data_value.specs.declared.Scalar.{Scalar}
use Rattle.data_value.specs.declared.Scalar.TheVariants.{Flag, Bits}
use Rattle.data_value.specs.declared.Value.{Value}
use Rattle.data_value.specs.declared.Value.TheVariants.{One}
use Rattle.data_value.specs.declared.flat_formula.FlatNode.TheVariants.{Input, Fixed}
use Rattle.data_value.specs.Sorts.{IsWidth, IsSort, is_sort}
use Rattle.data_value.specs.Values.{map_of, word_of, flag_of, same_scalar}
use Rattle.data_value.specs.Maps.{read}
use Rattle.data_value.specs.Nodes.{IsValuation}
use Rattle.data_value.specs.Views.{value_at}
use Rattle.data_value.specs.Flat.{HaveSorts}
use Rattle.data_value.proofs.TestLemmas.{decides_in_range, decides_value}
use Rattle.node_list.proofs.Lines.{get_last}
use Rattle.map_reads.specs.declared.read.Read.{Read}
use Rattle.map_reads.specs.declared.draft.Draft.{Draft}
use Rattle.map_reads.specs.Tied.{IsRead, AreReads, keys_of, words_of}
use Rattle.map_reads.specs.Drafts.{sort_at, value_of, IsDraft, Grows, IsPushed, HasValue, Stands, IsPlaced, IsNewRead, HasRead, entry_at}
use Rattle.map_reads.proofs.Growing.{have_wider}
use Rattle.map_reads.proofs.Drafting.{grows-both, begins_is, get_begun, get_pushed, sort_later, value_like, value_later, read_later, tied_before, stands_later, placed_after, pushed, value_as, value_after}

-- the sort of a variable is one
pub sort_of_variable : (sorts : List DataSort) (i : ℕ) (s : DataSort) → list_all is_sort sorts ≡ true → slice_get sorts i ≡ Some s → IsSort s
sort_of_variable [] i s fit at = absurd (cc)
sort_of_variable (r ∷ ss) zero s fit at = let same : r ≡ s = cc in (decides_in_range s).0 (subst (λ x. is_sort x ≡ true) same (first_so (is_sort r) (list_all is_sort ss) fit))
sort_of_variable (r ∷ ss) (suc i) s fit at = sort_of_variable ss i s (second_so (is_sort r) (list_all is_sort ss) fit) at

-- a draft with a new read
module _ (old new : Draft) (x key k w word : ℕ) (draft : IsDraft old) (is : IsNewRead old new x key w word) (sort : slice_get old.sorts x ≡ Some (MapSort k w)) (key_sort : sort_at old key ≡ Some (BitsSort k)) where
  grown : Grows old new
  grown = record { sorts = is.sorts; scalars = is.scalars; widths = (w ∷ [], is.widths); nodes = begins_is old.nodes new.nodes is.nodes; reads = (_ ∷ [], is.reads) }

  last_read : (j : ℕ) → j ≡ length old.reads → IsRead old.sorts new.widths new.nodes j (record { variable = x; key = key; word = word })
  last_read j end =
      let whole : get_or old.sorts x BoolSort ≡ MapSort k w = get_or_from_slice_get old.sorts x (MapSort k w) BoolSort sort in
      let keys = ap keys_of whole in
      let words = ap words_of whole in
      let count = draft.reads_fit.count in
      record {
        map = sort ∙ ap₂ (λ a b. Some (MapSort a b)) (sym keys) (sym words);
        key = sort_later old new draft grown key (BitsSort k) key_sort ∙ ap (λ a. Some (BitsSort a)) (sym keys);
        word = let e = is.input in omega arith;
        width = ap (λ ws. slice_get ws word) is.widths ∙ ap (slice_get (old.widths ++ w ∷ [])) is.input ∙ get_last old.widths w ∙ ap Some (sym words);
        early = λ us vs same.
            value_later old new draft grown key (BitsSort k) us key_sort ∙ sym (value_like old new draft grown key (BitsSort k) us vs key_sort (λ i l. same i (omega arith)));
      }

  pub new_read : HasRead old new x key word
  new_read =
      let widths = sort_of_variable old.sorts x (MapSort k w) draft.reads_fit.sorts_fit sort in
      record {
        grows = grown;
        draft = record {
          widths_fit = subst (All IsWidth) (sym is.widths) (All-push IsWidth old.widths w draft.widths_fit widths.1);
          nodes_fit = subst (λ ws. HaveSorts ws new.nodes) (sym is.widths) (subst (HaveSorts (old.widths ++ w ∷ [])) (sym is.nodes) (have_wider old.widths (w ∷ []) old.nodes draft.nodes_fit));
          reads_fit = subst (λ ss. AreReads ss new.scalars new.widths new.nodes new.reads) (sym is.sorts) (record {
            sorts_fit = draft.reads_fit.sorts_fit;
            count =
                let a = ap (λ ws. length ws) is.widths ∙ length-append old.widths (w ∷ []) in
                let b = ap (λ (rs : List Read). length rs) is.reads ∙ length-append old.reads (_ ∷ []) in
                let c = draft.reads_fit.count in
                omega arith;
            inputs = λ i s at.
                let each = draft.reads_fit.inputs i s at in
                (ap (λ xs. slice_get xs i) is.scalars ∙ each.0, get_begun old.widths new.widths i _ (w ∷ [], is.widths) each.1);
            each = λ j r at. elim (get_pushed old.reads _ j r (sym (ap (λ rs. slice_get rs j) is.reads) ∙ at)) [
              | inl h ↦ subst (λ ss. IsRead ss new.widths new.nodes j r) is.sorts (read_later old new draft grown j r h)
              | inr h ↦ subst (IsRead old.sorts new.widths new.nodes j) h.1 (last_read j h.0)
            ];
          });
        };
        found = record { place = length old.reads; at = ap (λ rs. slice_get rs (length old.reads)) is.reads ∙ get_last old.reads _ };
      }

-- the place of a read is that of its input
pub read_placed : (old mid new : Draft) (p x key k w word : ℕ) (meant : List Value → Scalar) → IsDraft old → HasRead old mid x key word → slice_get old.sorts x ≡ Some (MapSort k w) → Stands old key (BitsSort k) meant → IsPushed mid new p (Input word) →
    IsPlaced old new p (BitsSort w) (λ v. Bits w (read (map_of (value_at v x)).entries (word_of (meant v))))
read_placed old mid new p x key k w word meant draft has sort key_is is =
    let r : Read = record { variable = x; key = key; word = word } in
    let it = has.draft.reads_fit.each has.found.place r has.found.at in
    let whole : get_or mid.sorts x BoolSort ≡ MapSort k w = get_or_from_slice_get mid.sorts x (MapSort k w) BoolSort (ap (λ ss. slice_get ss x) has.grows.sorts ∙ sort) in
    let width : slice_get mid.widths word ≡ Some w = it.width ∙ ap (λ s. Some (words_of s)) whole in
    let here : get_or mid.widths word 0 ≡ w = get_or_from_slice_get mid.widths word w 0 width in
    let tested = lt-ltb word (length mid.widths) (slice_get_within mid.widths word w width) in
    let value = pushed mid new p (Input word) has.draft is (BitsSort w) (ap (λ b. if b then Some (BitsSort (get_or mid.widths word 0)) else None) tested ∙ ap (λ n. Some (BitsSort n)) here) in
    let stands = stands_later old mid draft has.grows key (BitsSort k) meant key_is in
    placed_after old mid new p (BitsSort w) _ has.grows (record {
      grows = value.grows;
      draft = value.draft;
      stands = record {
        sort = value.sort;
        means = λ words v fits tied.
            let before = tied_before mid new has.draft value.grows words v tied in
            let fits_mid = subst (λ ss. IsValuation ss v) value.grows.sorts fits in
            value.means words
            ∙ ap₂ Bits here (before.words_read has.found.place r has.found.at ∙ ap (λ s. read (map_of (value_at v x)).entries (word_of s)) (stands.means words v fits_mid before));
      };
    })

-- a word that is fixed
pub fixed_word : (old new : Draft) (p w x : ℕ) → IsDraft old → IsWidth w → x < 2 ^ w → IsPushed old new p (Fixed (Bits w x)) → HasValue old new p (BitsSort w) (λ words. Bits w x)
fixed_word old new p w x draft width fits is =
    pushed old new p (Fixed (Bits w x)) draft is (BitsSort w) (ap (λ b. if b then Some (BitsSort w) else None) ((decides_value (One (Bits w x))).1 (width, fits)))

-- a choice by whether two keys are equal
pub over_value : (a b c : Draft) (same p put key word below : ℕ) (t u : DataSort) → IsDraft a → sort_at a word ≡ Some t → sort_at a below ≡ Some t →
    HasValue a b same BoolSort (λ words. Flag (same_scalar (value_of a words put) (value_of a words key))) →
    HasValue b c p t (λ words. if flag_of (value_of b words same) then value_of b words word else value_of b words below) →
    HasValue a c p t (λ words. if same_scalar (value_of a words put) (value_of a words key) then value_of a words word else value_of a words below)
over_value a b c same p put key word below t u draft word_sort below_sort first second =
    value_as a c p t _ _ (value_after a b c p t _ first.grows first.reads second)
    (λ words.
    ap (λ s. if flag_of s then value_of b words word else value_of b words below) (first.means words)
    ∙ ap₂ (λ y z. if same_scalar (value_of a words put) (value_of a words key) then y else z) (value_later a b draft first.grows word t words word_sort) (value_later a b draft first.grows below t words below_sort))

-- one more entry
pub entry_value : (a b c d : Draft) (from to p key below k w x y : ℕ) → IsDraft a → sort_at a key ≡ Some (BitsSort k) → sort_at a below ≡ Some (BitsSort w) →
    HasValue a b from (BitsSort k) (λ words. Bits k x) → HasValue b c to (BitsSort w) (λ words. Bits w y) →
    HasValue c d p (BitsSort w) (λ words. if same_scalar (value_of c words from) (value_of c words key) then value_of c words to else value_of c words below) →
    HasValue a d p (BitsSort w) (λ words. if same_scalar (Bits k x) (value_of a words key) then Bits w y else value_of a words below)
entry_value a b c d from to p key below k w x y draft key_sort below_sort first second third =
    let ac : Grows a c = grows-both a b c first.grows second.grows in
    value_as a d p (BitsSort w) _ _ (value_after a c d p (BitsSort w) _ ac (second.reads ∙ first.reads) third)
    (λ words.
    ap₂ (λ s t. if same_scalar s t then value_of c words to else value_of c words below) (value_later b c first.draft second.grows from (BitsSort k) words first.sort ∙ first.means words) (value_later a c draft ac key (BitsSort k) words key_sort)
    ∙ ap₂ (λ s t. if same_scalar (Bits k x) (value_of a words key) then s else t) (second.means words) (value_later a c draft ac below (BitsSort w) words below_sort))

pub entries_more : (o a b : Draft) (found p key k w i : ℕ) (es : List (ℕ × ℕ)) (e : ℕ × ℕ) → IsDraft o → sort_at o key ≡ Some (BitsSort k) → i < length es → slice_get es (length es - 1 - i) ≡ Some e →
    HasValue o a found (BitsSort w) (λ words. entry_at k w (drop (length es - i) es) (value_of o words key)) →
    HasValue a b p (BitsSort w) (λ words. if same_scalar (Bits k e.0) (value_of a words key) then Bits w e.1 else value_of a words found) →
    HasValue o b p (BitsSort w) (λ words. entry_at k w (drop (length es - (i + 1)) es) (value_of o words key))
entries_more o a b found p key k w i es e draft key_sort l at before now =
    let j = length es - 1 - i in
    let m : length es - (i + 1) ≡ j = omega arith in
    let n : suc j ≡ length es - i = omega arith in
    let here : drop (length es - (i + 1)) es ≡ e ∷ drop (length es - i) es =
    ap (λ q. drop q es) m ∙ drop-cons es j e (omega arith) ∙ ap₂ (λ y ys. y ∷ ys) (get_or_from_slice_get es j e e at) (ap (λ q. drop q es) n) in
    value_as o b p (BitsSort w) _ _ (value_after o a b p (BitsSort w) _ before.grows before.reads now)
    (λ words.
    ap₂ (λ s t. if same_scalar (Bits k e.0) s then Bits w e.1 else t) (value_later o a draft before.grows key (BitsSort k) words key_sort) (before.means words)
    ∙ ap (λ xs. entry_at k w xs (value_of o words key)) (sym here))

drop_all : {X : Type 0} (xs : List X) → drop (length xs) xs ≡ []
drop_all [] = refl
drop_all (x ∷ xs) = drop_all xs

pub entries_none : (o a : Draft) (found key k w : ℕ) (es : List (ℕ × ℕ)) → HasValue o a found (BitsSort w) (λ words. Bits w 0) → HasValue o a found (BitsSort w) (λ words. entry_at k w (drop (length es - 0) es) (value_of o words key))
entries_none o a found key k w es has =
    let e : length es - 0 ≡ length es = omega arith in
    value_as o a found (BitsSort w) _ _ has (λ words. ap (λ xs. entry_at k w xs (value_of o words key)) (sym (ap (λ n. drop n es) e ∙ drop_all es)))

pub entries_all : (o a : Draft) (found key k w i : ℕ) (es : List (ℕ × ℕ)) → i ≡ length es → HasValue o a found (BitsSort w) (λ words. entry_at k w (drop (length es - i) es) (value_of o words key)) → HasValue o a found (BitsSort w) (λ words. entry_at k w es (value_of o words key))
entries_all o a found key k w i es end has =
    let z : length es - i ≡ 0 = omega arith in
    value_as o a found (BitsSort w) _ _ has (λ words. ap (λ n. entry_at k w (drop n es) (value_of o words key)) z)
