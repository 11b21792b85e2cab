-- Formulas that get more nodes and inputs.
use Rattle.std.proofs.Common.{◌≡◌, ℕ, zero, suc, ◌<◌, ◌≤◌, ◌+◌, Bool, true, false, nat_lt, is_some, IsSome, unwrap_or, if◌then◌else◌, Some, None, List, [], ◌∷◌, ◌++◌, length, take, drop, slice_get, get_or, arith, refl, ap, ap₂, sym, ◌∙◌, subst, add-one, length-append}
use Rattle.std.proofs.Math.ListN.{get_or-append}
use Rattle.std.proofs.Math.Seq.{take-append_seam}
use Rattle.std.proofs.lemmas.Bool.{ltb-true, lt-ltb}
use Rattle.std.proofs.lemmas.List.{take-append-drop, take_all, length-take}
use Rattle.std.proofs.lemmas.Option.{slice_get_within, slice_get-get_or}
use Rattle.data_value.specs.declared.DataSort.{DataSort}
use Rattle.data_value.specs.declared.DataSort.TheVariants.{Bool as BoolSort, Bits as BitsSort}
use Rattle.data_value.specs.declared.Scalar.{Scalar}
use Rattle.data_value.specs.declared.Scalar.TheVariants.{Flag, Bits}
use Rattle.data_value.specs.declared.flat_formula.FlatNode.{FlatNode}
use Rattle.data_value.specs.declared.flat_formula.FlatNode.TheVariants.{Input, Fixed, Apply}
use Rattle.data_value.specs.Views.{BeginsWith}
use Rattle.data_value.specs.Flat.{in_turn, node_sort, node_value, flat_sorts, flat_values, HaveSorts}
use Rattle.data_value.proofs.FlatLemmas.{in_turn_more, length-in_turn, take-in_turn}
use Rattle.data_value.proofs.SortLemmas.{sort_kept}
use Rattle.map_reads.specs.Tied.{sort_in, value_in, SameBelow}

-- lists that two functions make in turn are the same where these agree
same_upto : {X : Type 0} (f g : List X → FlatNode → X) (ns : List FlatNode) → ((k : ℕ) (n : FlatNode) → slice_get ns k ≡ Some n → f (in_turn f (take k ns)) n ≡ g (in_turn f (take k ns)) n) → (i : ℕ) → i ≤ length ns → in_turn f (take i ns) ≡ in_turn g (take i ns)
unfolding in_turn
same_upto f g ns h zero l = refl
same_upto {X} f g ns h (suc i) l =
    let n : FlatNode = get_or ns i (Input 0) in
    let before : List X = in_turn f (take i ns) in
    let same : before ≡ in_turn g (take i ns) = same_upto f g ns h i (omega arith) in
    let here : f before n ≡ g before n = h i n (slice_get-get_or ns i (Input 0) (omega arith)) in
    let next : in_turn f (take (i + 1) ns) ≡ in_turn g (take (i + 1) ns) =
    in_turn_more f ns i (Input 0) (omega arith) ∙ ap (λ (x : X). before ++ x ∷ []) here ∙ ap (λ (xs : List X). xs ++ g xs n ∷ []) same ∙ sym (in_turn_more g ns i (Input 0) (omega arith)) in
    rw (← add-one) next

pub in_turn_same : {X : Type 0} (f g : List X → FlatNode → X) (ns : List FlatNode) → ((k : ℕ) (n : FlatNode) → slice_get ns k ≡ Some n → f (in_turn f (take k ns)) n ≡ g (in_turn f (take k ns)) n) → in_turn f ns ≡ in_turn g ns
in_turn_same f g ns h = subst (λ ms. in_turn f ms ≡ in_turn g ms) (take_all (length ns) ns (omega arith)) (same_upto f g ns h (length ns) (omega arith))

-- a list made in turn of more begins with that made of the first ones
pub turn_begins : {X : Type 0} (f : List X → FlatNode → X) (ns ms : List FlatNode) → BeginsWith (in_turn f (ns ++ ms)) (in_turn f ns)
turn_begins {X} f ns ms =
    let whole : List X = in_turn f (ns ++ ms) in
    let first : take (length ns) whole ≡ in_turn f ns = take-in_turn f (ns ++ ms) (length ns) (omega (arith, length-append ns ms)) ∙ ap (in_turn f) (take-append_seam ns ms) in
    (drop (length ns) whole, sym (take-append-drop (length ns) whole) ∙ ap (λ (xs : List X). xs ++ drop (length ns) whole) first)

-- an option that is there only under a test
tested : {X : Type 0} (b : Bool) (x : X) → IsSome (if b then Some x else None) → b ≡ true
tested true x h = refl
tested false x h = cc

-- a node over more inputs
sort_wider : (w more : List ℕ) (sorts : List DataSort) (n : FlatNode) → IsSome (node_sort w sorts n) → node_sort w sorts n ≡ node_sort (w ++ more) sorts n
sort_wider w more sorts (Input i) h =
    let t = tested (nat_lt i (length w)) (BitsSort (get_or w i 0)) h in
    let l = ltb-true i (length w) t in
    let u : nat_lt i (length (w ++ more)) ≡ true = lt-ltb i (length (w ++ more)) (omega (arith, length-append w more)) in
    rw (t, u) (ap (λ x. Some (BitsSort x)) (sym (get_or-append w more 0 i l)))
sort_wider w more sorts (Fixed s) h = refl
sort_wider w more sorts (Apply op args) h = refl

value_wider : (w more : List ℕ) (words others : List ℕ) (sorts : List DataSort) (values : List Scalar) (n : FlatNode) → IsSome (node_sort w sorts n) → SameBelow (length w) words others → node_value w words values n ≡ node_value (w ++ more) others values n
value_wider w more words others sorts values (Input i) h same =
    let l = ltb-true i (length w) (tested (nat_lt i (length w)) (BitsSort (get_or w i 0)) h) in
    ap₂ Bits (sym (get_or-append w more 0 i l)) (same i l)
value_wider w more words others sorts values (Fixed s) h same = refl
value_wider w more words others sorts values (Apply op args) h same = refl

module _ (w more : List ℕ) (ns : List FlatNode) (lawful : HaveSorts w ns) where
  pub sorts_wider : flat_sorts w ns ≡ flat_sorts (w ++ more) ns
  sorts_wider = in_turn_same (λ sorts n. unwrap_or (node_sort w sorts n) BoolSort) (λ sorts n. unwrap_or (node_sort (w ++ more) sorts n) BoolSort) ns (λ k n e. ap (λ o. unwrap_or o BoolSort) (sort_wider w more (flat_sorts w (take k ns)) n (lawful k n e)))

  pub values_wider : (words others : List ℕ) → SameBelow (length w) words others → flat_values w words ns ≡ flat_values (w ++ more) others ns
  values_wider words others same = in_turn_same (node_value w words) (node_value (w ++ more) others) ns (λ k n e. value_wider w more words others (flat_sorts w (take k ns)) (flat_values w words (take k ns)) n (lawful k n e) same)

  module _ (ms : List FlatNode) (p : ℕ) (t : DataSort) (is : sort_in w ns p ≡ Some t) where
    pub sort_grown : sort_in (w ++ more) (ns ++ ms) p ≡ Some t
    sort_grown =
        let b = turn_begins (λ sorts n. unwrap_or (node_sort (w ++ more) sorts n) BoolSort) ns ms in
        ap (λ (ss : List DataSort). slice_get ss p) b.1 ∙ sort_kept (flat_sorts (w ++ more) ns) b.0 p t (ap (λ (ss : List DataSort). slice_get ss p) (sym sorts_wider) ∙ is)

    pub place_within : p < length ns
    place_within = let l = slice_get_within (flat_sorts w ns) p t is in let e = length-in_turn (λ sorts n. unwrap_or (node_sort w sorts n) BoolSort) ns in omega arith

    pub value_grown : (words others : List ℕ) → SameBelow (length w) words others → value_in (w ++ more) (ns ++ ms) others p ≡ value_in w ns words p
    value_grown words others same =
        let f = node_value (w ++ more) others in
        let b = turn_begins f ns ms in
        let l : p < length (in_turn f ns) = let e = length-in_turn f ns in let h = place_within in omega arith in
        ap (λ (vs : List Scalar). get_or vs p (Flag false)) b.1 ∙ get_or-append (in_turn f ns) b.0 (Flag false) p l ∙ ap (λ (vs : List Scalar). get_or vs p (Flag false)) (sym (values_wider words others same))

-- the first of some nodes have sorts, and all of them have over more inputs
have_front : (w : List ℕ) (ns : List FlatNode) (i : ℕ) → HaveSorts w ns → HaveSorts w (take i ns)
have_front w ns i lawful k n e =
    let l = slice_get_within (take i ns) k n e in
    let below : k < i = let c = length-take i ns in omega arith in
    subst (λ ms. IsSome (node_sort w (flat_sorts w ms) n)) (sym (take_front i k ns below)) (lawful k n (get_front i k ns n e))
  where
    take_front : {X : Type 0} (i k : ℕ) (xs : List X) → k < i → take k (take i xs) ≡ take k xs
    take_front zero k xs l = absurd (omega arith)
    take_front (suc i) k [] l = refl
    take_front (suc i) zero (x ∷ xs) l = refl
    take_front (suc i) (suc k) (x ∷ xs) l = ap (λ ys. x ∷ ys) (take_front i k xs (omega arith))

    get_front : {X : Type 0} (i k : ℕ) (xs : List X) (x : X) → slice_get (take i xs) k ≡ Some x → slice_get xs k ≡ Some x
    get_front zero k xs x e = cc
    get_front (suc i) k [] x e = cc
    get_front (suc i) zero (y ∷ xs) x e = e
    get_front (suc i) (suc k) (y ∷ xs) x e = get_front i k xs x e

pub have_wider : (w more : List ℕ) (ns : List FlatNode) → HaveSorts w ns → HaveSorts (w ++ more) ns
have_wider w more ns lawful k n e =
    let front = have_front w ns k lawful in
    subst (λ ss. IsSome (node_sort (w ++ more) ss n)) (sorts_wider w more (take k ns) front) (ap is_some (sym (sort_wider w more (flat_sorts w (take k ns)) n (lawful k n e))) ∙ lawful k n e)
