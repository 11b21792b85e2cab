-- Variables and constants find their places.
use Rattle.std.proofs.Common.{◌≡◌, ℕ, zero, suc, ◌<◌, ◌==◌, ◌&&◌, Bool, true, false, if◌then◌else◌, Some, None, List, [], ◌∷◌, length, map, slice_get, get_or, arith, refl, ap, ap₂, sym, ◌∙◌, subst}
use Rattle.std.proofs.lemmas.Bool.{eq-eqb}
use Rattle.std.proofs.lemmas.Option.{same_Some, get_or_from_slice_get, slice_get_within, slice_get-get_or}
use Rattle.data_value.specs.declared.DataSort.{DataSort}
use Rattle.data_value.specs.declared.DataSort.TheVariants.{Bool as BoolSort, Bits as BitsSort, Map as MapSort}
use Rattle.data_value.specs.declared.Scalar.{Scalar}
use Rattle.data_value.specs.declared.Scalar.TheVariants.{Flag, Bits}
use Rattle.data_value.specs.declared.Value.{Value}
use Rattle.data_value.specs.declared.Value.TheVariants.{One, Map}
use Rattle.data_value.specs.declared.flat_formula.FlatNode.TheVariants.{Fixed}
use Rattle.data_value.specs.Sorts.{is_scalar_sort}
use Rattle.data_value.specs.Values.{scalar_of, map_of, word_of, value_sort, scalar_sort, IsScalar, is_scalar}
use Rattle.data_value.specs.Maps.{Mapping, read}
use Rattle.data_value.specs.Nodes.{Seen, IsValuation, Variable, Constant}
use Rattle.data_value.specs.Views.{value_at, IsShown, shown_value, shown_sort}
use Rattle.data_value.proofs.TestLemmas.{decides_value}
use Rattle.map_reads.specs.declared.draft.Draft.{Draft}
use Rattle.map_reads.specs.declared.placing.Place.{Place}
use Rattle.map_reads.specs.declared.placing.Place.TheVariants as place
use Rattle.map_reads.specs.Tied.{IsWordOf}
use Rattle.map_reads.specs.Drafts.{value_of, TiedTo, IsDraft, Grows, IsPushed, HasValue, IsPlaced, entry_at}
use Rattle.map_reads.specs.Placing.{HasPlace, IsWordAt, IsLeaf, IsVariableAt, scalar_meant, read_meant}
use Rattle.map_reads.proofs.Drafting.{placed, pushed}

-- the sort of a variable's value
pub sort_of_value : (v : List Value) (sorts : List DataSort) (i : ℕ) (s : DataSort) → IsValuation sorts v → slice_get sorts i ≡ Some s → (i < length v) × (value_sort (value_at v i) ≡ s)
sort_of_value v sorts i s fits is = at v i s (ap (λ ss. slice_get ss i) fits.sorted ∙ is)
  where
    at : (v : List Value) (i : ℕ) (s : DataSort) → slice_get (map value_sort v) i ≡ Some s → (i < length v) × (value_sort (value_at v i) ≡ s)
    at [] i s is = absurd (cc)
    at (x ∷ v) zero s is = (omega arith, cc)
    at (x ∷ v) (suc i) s is = let h = at v i s is in (omega arith, h.1)

flag_word : (x : Value) (w : ℕ) → IsWordOf x w → value_sort x ≡ BoolSort → Flag (w == 1) ≡ scalar_of x
flag_word (One (Flag b)) w is sorted = ap Flag (sym is)
flag_word (One (Bits n x)) w is sorted = absurd (cc)
flag_word (Map m) w is sorted = absurd (cc)

bits_word : (x : Value) (n w : ℕ) → IsWordOf x w → value_sort x ≡ BitsSort n → Bits n w ≡ scalar_of x
bits_word (One (Flag b)) n w is sorted = absurd (cc)
bits_word (One (Bits m x)) n w is sorted = let width : m ≡ n = cc in ap₂ Bits (sym width) (sym is)
bits_word (Map m) n w is sorted = absurd (cc)

pub word_scalar : (x : Value) (n : ℕ) → value_sort x ≡ BitsSort n → scalar_of x ≡ Bits n (word_of (scalar_of x))
word_scalar (One (Flag b)) n sorted = absurd (cc)
word_scalar (One (Bits m x)) n sorted = let width : m ≡ n = cc in ap (λ a. Bits a x) width
word_scalar (Map m) n sorted = absurd (cc)

pub map_width : (x : Value) (k w : ℕ) → value_sort x ≡ MapSort k w → (map_of x).word_width ≡ w
map_width (One (Flag b)) k w sorted = absurd (cc)
map_width (One (Bits m x)) k w sorted = absurd (cc)
map_width (Map m) k w sorted = cc

-- a variable has an input
pub input_within : (d : Draft) (i : ℕ) → IsDraft d → i < length d.sorts → i < length d.scalars
input_within d i draft l = slice_get_within d.scalars i i (draft.reads_fit.inputs i (get_or d.sorts i BoolSort) (slice_get-get_or d.sorts i BoolSort l)).0

module _ (old new : Draft) (i : ℕ) (draft : IsDraft old) where
  pub input_of_variable : (s : DataSort) → slice_get old.sorts i ≡ Some s → get_or old.scalars i 0 ≡ i
  input_of_variable s at = get_or_from_slice_get old.scalars i i 0 (draft.reads_fit.inputs i s at).0

  -- the word of a variable's input, where words and valuation say the same
  word_is : (s : DataSort) → slice_get old.sorts i ≡ Some s → (words : List ℕ) (v : List Value) → IsValuation old.sorts v → TiedTo old words v → IsWordOf (value_at v i) (get_or words i 0) × (value_sort (value_at v i) ≡ s)
  word_is s at words v fits tied =
      let h = sort_of_value v old.sorts i s fits at in
      (subst (λ n. IsWordOf (value_at v i) (get_or words n 0)) (input_of_variable s at) (tied.variables i h.0), h.1)

  pub variable_at : (s : DataSort) (p : Place) → Grows old new → IsDraft new → slice_get old.sorts i ≡ Some s → HasPlace new s (λ v. scalar_of (value_at v i)) p → IsVariableAt old new i p
  variable_at s p grows later at has = record { grows = grows; draft = later; stands = λ t is. subst (λ x. HasPlace new x (λ v. scalar_of (value_at v i)) p) (same_Some s t (sym at ∙ is)) has }

  pub variable_flag : (p input : ℕ) → slice_get old.sorts i ≡ Some BoolSort → input ≡ i → HasValue old new p BoolSort (λ words. Flag (get_or words input 0 == 1)) → IsVariableAt old new i (place.Scalar p)
  variable_flag p input at same has =
      variable_at BoolSort (place.Scalar p) has.grows has.draft at (
        refl,
        (placed old new draft has.grows p BoolSort _ (λ v. scalar_of (value_at v i)) has
            (λ words v fits tied. let w = word_is BoolSort at words v fits tied in ap (λ n. Flag (get_or words n 0 == 1)) same ∙ flag_word (value_at v i) (get_or words i 0) w.0 w.1)).stands,
      )

  pub variable_word : (p input n : ℕ) → slice_get old.sorts i ≡ Some (BitsSort n) → input ≡ i → HasValue old new p (BitsSort n) (λ words. Bits n (get_or words input 0)) → IsVariableAt old new i (place.Scalar p)
  variable_word p input n at same has =
      variable_at (BitsSort n) (place.Scalar p) has.grows has.draft at (
        refl,
        (placed old new draft has.grows p (BitsSort n) _ (λ v. scalar_of (value_at v i)) has
            (λ words v fits tied. let w = word_is (BitsSort n) at words v fits tied in ap (λ m. Bits n (get_or words m 0)) same ∙ bits_word (value_at v i) n (get_or words i 0) w.0 w.1)).stands,
      )

-- what has a place has it in other words
has_place_as : (d : Draft) (t : DataSort) (meant other : List Value → Scalar) (p : Place) → ((v : List Value) → meant v ≡ other v) → HasPlace d t meant p → HasPlace d t other p
has_place_as d t meant other (place.Scalar p) same has = (has.0, record { sort = has.1.sort; means = λ words v fits tied. has.1.means words v fits tied ∙ same v })
has_place_as d t meant other place.Map same has = has
has_place_as d t meant other (place.Over m put) same has = has

pub placed_as : (old new : Draft) (p : ℕ) (t : DataSort) (meant other : List Value → Scalar) → IsPlaced old new p t meant → ((v : List Value) → IsValuation old.sorts v → meant v ≡ other v) → IsPlaced old new p t other
placed_as old new p t meant other is same = record {
  grows = is.grows;
  draft = is.draft;
  stands = record { sort = is.stands.sort; means = λ words v fits tied. is.stands.means words v fits tied ∙ same v (subst (λ ss. IsValuation ss v) is.grows.sorts fits) };
}

-- a sort that is none of scalars is one of maps
pub map_sorted : (s : DataSort) → is_scalar_sort s ≡ false → (k : ℕ) × ((w : ℕ) × (s ≡ MapSort k w))
map_sorted BoolSort h = absurd (cc)
map_sorted (BitsSort w) h = absurd (cc)
map_sorted (MapSort k w) h = (k, (w, refl))

scalar_sorted : (c : Scalar) → is_scalar_sort (scalar_sort c) ≡ true
scalar_sorted (Flag b) = refl
scalar_sorted (Bits w x) = refl

scalar_fits : (c : Scalar) → IsScalar c → is_scalar c ≡ true
scalar_fits c is = (decides_value (One c)).1 is

-- what entries have at a word
entry_reads : (k w x : ℕ) (es : List (ℕ × ℕ)) → entry_at k w es (Bits k x) ≡ Bits w (read es x)
entry_reads k w x [] = refl
entry_reads k w x (e ∷ es) =
    ap (λ b. if b && (e.0 == x) then Bits w e.1 else entry_at k w es (Bits k x)) (eq-eqb k k refl) ∙ ap (λ s. if e.0 == x then Bits w e.1 else s) (entry_reads k w x es) ∙ choice (e.0 == x)
  where
    choice : (b : Bool) → (if b then Bits w e.1 else Bits w (read es x)) ≡ Bits w (if b then e.1 else read es x)
    choice true = refl
    choice false = refl

module _ {N : Type 0} (look : N → Seen N) (n : N) (old new : Draft) (draft : IsDraft old) (variables : List DataSort) (shown : IsShown look variables n) (sorts : old.sorts ≡ variables) where
  sort_shown : (i : ℕ) → Variable i ≡ (look n).shown → slice_get old.sorts i ≡ Some (look n).sort
  sort_shown i is = ap (λ ss. slice_get ss i) sorts ∙ ap (shown_sort look variables) is ∙ shown.sort

  pub shown_below : (i : ℕ) → Variable i ≡ (look n).shown → i < length old.sorts
  shown_below i is = slice_get_within old.sorts i (look n).sort (sort_shown i is)

  pub leaf_sort : (i : ℕ) → Variable i ≡ (look n).shown → get_or old.sorts i BoolSort ≡ (look n).sort
  leaf_sort i is = get_or_from_slice_get old.sorts i (look n).sort BoolSort (sort_shown i is)

  pub constant_keys : (keys words : ℕ) → (look n).sort ≡ MapSort keys words → (m : Mapping) → Constant (Map m) ≡ (look n).shown → m.key_width ≡ keys
  constant_keys keys words sort m is = let same : MapSort m.key_width m.word_width ≡ MapSort keys words = same_Some _ _ (ap (shown_sort look variables) is ∙ shown.sort) ∙ sort in cc

  pub leaf_variable : (i : ℕ) (p : Place) → Variable i ≡ (look n).shown → IsVariableAt old new i p → IsLeaf old new (look n) p
  leaf_variable i p is at = record {
    grows = at.grows;
    draft = at.draft;
    stands = has_place_as new (look n).sort (λ v. scalar_of (value_at v i)) (scalar_meant (look n)) p (λ v. ap scalar_of (ap (shown_value look v) is ∙ sym (shown.means v))) (at.stands (look n).sort (sort_shown i is));
  }

  pub leaf_constant : (p : ℕ) (c : Scalar) → Constant (One c) ≡ (look n).shown → IsScalar c → IsPushed old new p (Fixed c) → IsLeaf old new (look n) (place.Scalar p)
  leaf_constant p c is fits at =
      let sort : scalar_sort c ≡ (look n).sort = same_Some _ _ (ap (shown_sort look variables) is ∙ shown.sort) in
      let has = pushed old new p (Fixed c) draft at (look n).sort (ap (λ b. if b then Some (scalar_sort c) else None) (scalar_fits c fits) ∙ ap Some sort) in
      record {
        grows = has.grows;
        draft = has.draft;
        stands = (ap is_scalar_sort (sym sort) ∙ scalar_sorted c, (placed old new draft has.grows p (look n).sort _ (scalar_meant (look n)) has (λ words v fits tied. ap scalar_of (ap (shown_value look v) is ∙ sym (shown.means v)))).stands);
      }

  module _ (p key keys words : ℕ) (k : Seen N) (sort : (look n).sort ≡ MapSort keys words) (at : IsWordAt old key keys k) where
    pub map_shown : (i : ℕ) → Variable i ≡ (look n).shown → slice_get old.sorts i ≡ Some (MapSort keys words)
    map_shown i is = sort_shown i is ∙ ap Some sort

    pub leaf_read : (i : ℕ) → Variable i ≡ (look n).shown → IsPlaced old new p (BitsSort words) (λ v. Bits words (read (map_of (value_at v i)).entries (word_of (scalar_meant k v)))) → IsPlaced old new p (BitsSort words) (read_meant (look n) k)
    leaf_read i is placed_at = placed_as old new p (BitsSort words) _ (read_meant (look n) k) placed_at
        (λ v fits.
        let h = sort_of_value v old.sorts i (MapSort keys words) fits (map_shown i is) in
        let same : value_at v i ≡ (look n).meaning v = ap (shown_value look v) is ∙ sym (shown.means v) in
        ap (λ a. Bits a (read (map_of (value_at v i)).entries (word_of (scalar_meant k v)))) (sym (map_width (value_at v i) keys words h.1))
        ∙ ap (λ x. Bits (map_of x).word_width (read (map_of x).entries (word_of (scalar_meant k v)))) same)

    pub leaf_entries : (m : Mapping) → Constant (Map m) ≡ (look n).shown → HasValue old new p (BitsSort m.word_width) (λ us. entry_at m.key_width m.word_width m.entries (value_of old us key)) → IsPlaced old new p (BitsSort words) (read_meant (look n) k)
    leaf_entries m is has =
        let same : MapSort m.key_width m.word_width ≡ MapSort keys words = same_Some _ _ (ap (shown_sort look variables) is ∙ shown.sort) ∙ sort in
        let key_width : m.key_width ≡ keys = cc in
        let word_width : m.word_width ≡ words = cc in
        subst (λ w. IsPlaced old new p (BitsSort w) (read_meant (look n) k)) word_width
        (placed old new draft has.grows p (BitsSort m.word_width) _ (read_meant (look n) k) has
        (λ us v fits tied.
        let scalar : scalar_meant k v ≡ Bits m.key_width (word_of (scalar_meant k v)) = word_scalar (k.meaning v) keys (at.value v fits).sort ∙ ap (λ a. Bits a (word_of (scalar_meant k v))) (sym key_width) in
        ap (entry_at m.key_width m.word_width m.entries) (at.stands.means us v fits tied ∙ scalar) ∙ entry_reads m.key_width m.word_width (word_of (scalar_meant k v)) m.entries
        ∙ ap (λ x. Bits (map_of x).word_width (read (map_of x).entries (word_of (scalar_meant k v)))) (ap (shown_value look v) is ∙ sym (shown.means v))))
