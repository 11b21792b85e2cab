-- Lists made in turn, and the sorts and values of the places of a formula.
use Rattle.std.proofs.Common.{◌≡◌, ℕ, inl, inr, zero, suc, ◌<◌, ◌≤◌, ◌+◌, Bool, true, false, nat_lt, is_some, IsSome, unwrap_or, if◌then◌else◌, Option, Some, None, List, [], ◌∷◌, ◌++◌, length, take, drop, map, fold, All, slice_get, get_or, arith, rules, refl, ap, sym, ◌∙◌, subst, append_assoc, add-one}
use Rattle.std.specs.List.{list_all}
use Rattle.std.proofs.lemmas.Nat.{pow_pos}
use Rattle.std.proofs.lemmas.List.{length-map, get_or-map, append-nil, map_push, take_more, take-append-drop, take_at, length-take-le, take_all, get_or-take, get_or_push}
use Rattle.std.proofs.lemmas.List.Sums.{fold-append}
use Rattle.std.proofs.lemmas.Bool.{ltb-true, cases_lt}
use Rattle.std.proofs.lemmas.List.Elements.{All-nil, All-cons, All-head, All-tail, All-same, All-push}
use Rattle.std.proofs.lemmas.Option.{cond_some, get_or_from_slice_get, slice_get_within, slice_get-get_or}
use Rattle.data_value.specs.declared.DataSort.{DataSort}
use Rattle.data_value.specs.declared.DataSort.TheVariants.{Bool as BoolSort, Bits as BitsSort}
use Rattle.data_value.specs.declared.Scalar.{Scalar}
use Rattle.data_value.specs.declared.Scalar.TheVariants.{Flag, Bits}
use Rattle.data_value.specs.declared.Value.TheVariants.{One}
use Rattle.data_value.specs.declared.Op.{Op}
use Rattle.data_value.specs.declared.Op.TheVariants.{Get, Put}
use Rattle.data_value.specs.declared.flat_formula.FlatNode.{FlatNode}
use Rattle.data_value.specs.declared.flat_formula.FlatNode.TheVariants.{Input, Fixed, Apply}
use Rattle.data_value.specs.Sorts.{IsWidth, IsSort, op_sort}
use Rattle.data_value.specs.Values.{scalar_sort, IsScalar, IsValueOf, is_scalar}
use Rattle.data_value.specs.Flat.{at_places, node_sort, node_value, in_turn, flat_sorts, flat_values, HaveSorts, AreWords}
use Rattle.data_value.proofs.TestLemmas.{decides_value}
use Rattle.data_value.proofs.OpLemmas.{scalar_keeps_sort}

-- one node more
pub in_turn-push : {N X : Type 0} (f : List X → N → X) (ns : List N) (n : N) → in_turn f (ns ++ n ∷ []) ≡ in_turn f ns ++ f (in_turn f ns) n ∷ []
unfolding in_turn
in_turn-push f ns n = fold-append (λ xs m. xs ++ f xs m ∷ []) [] ns (n ∷ [])

pub in_turn_more : {N X : Type 0} (f : List X → N → X) (ns : List N) (i : ℕ) (d : N) → i < length ns → in_turn f (take (i + 1) ns) ≡ in_turn f (take i ns) ++ f (in_turn f (take i ns)) (get_or ns i d) ∷ []
in_turn_more f ns i d l = ap (in_turn f) (take_more ns i d l) ∙ in_turn-push f (take i ns) (get_or ns i d)

-- a list that grows by nodes has its start and one item for each
grown : {N X : Type 0} (f : List X → N → X) (xs : List X) (ns : List N) → (ys : List X) × (fold (λ zs m. zs ++ f zs m ∷ []) xs ns ≡ xs ++ ys) × (length ys ≡ length ns)
grown f xs [] = ([], sym (append-nil xs), refl)
grown f xs (n ∷ ns) =
    let r = grown f (xs ++ f xs n ∷ []) ns in
    (f xs n ∷ r.0, r.1 ∙ append_assoc xs (f xs n ∷ []) r.0, ap suc r.2)

pub length-in_turn : {N X : Type 0} (f : List X → N → X) (ns : List N) → length (in_turn f ns) ≡ length ns
unfolding in_turn
length-in_turn f ns = let r = grown f [] ns in ap (λ l. length l) r.1 ∙ r.2

pub take-in_turn : {N X : Type 0} (f : List X → N → X) (ns : List N) (i : ℕ) → i ≤ length ns → take i (in_turn f ns) ≡ in_turn f (take i ns)
unfolding in_turn
take-in_turn {N} {X} f ns i l =
    let g : List X → N → List X = λ xs m. xs ++ f xs m ∷ [] in
    let e : fold g [] ns ≡ fold g (fold g [] (take i ns)) (drop i ns) = ap (fold g []) (sym (take-append-drop i ns)) ∙ fold-append g [] (take i ns) (drop i ns) in
    let r = grown f (fold g [] (take i ns)) (drop i ns) in
    ap (take i) (e ∙ r.1) ∙ take_at (fold g [] (take i ns)) r.0 i (length-in_turn f (take i ns) ∙ length-take-le i ns l)

-- what a list has at places, under a function
at_or : {X Y : Type 0} (f : X → Y) (d : X) (xs : List X) (p : ℕ) → get_or (map f xs) p (f d) ≡ f (get_or xs p d)
at_or f d [] p = refl
at_or f d (x ∷ xs) zero = refl
at_or f d (x ∷ xs) (suc p) = at_or f d xs p

pub at_places-map : {X Y : Type 0} (f : X → Y) (d : X) (xs : List X) (ps : List ℕ) → at_places (f d) (map f xs) ps ≡ map f (at_places d xs ps)
at_places-map f d xs [] = refl
at_places-map f d xs (p ∷ ps) = ap (λ y. y ∷ at_places (f d) (map f xs) ps) (at_or f d xs p) ∙ ap (λ ys. f (get_or xs p d) ∷ ys) (at_places-map f d xs ps)

scalar_at : (xs : List Scalar) (p : ℕ) → All IsScalar xs → IsScalar (get_or xs p (Flag false))
scalar_at [] p h = tt
scalar_at (x ∷ xs) zero h = All-head IsScalar x xs h
scalar_at (x ∷ xs) (suc p) h = scalar_at xs p (All-tail IsScalar x xs h)

pub scalars_at : (xs : List Scalar) (ps : List ℕ) → All IsScalar xs → All IsScalar (at_places (Flag false) xs ps)
scalars_at xs [] h = All-nil IsScalar
scalars_at xs (p ∷ ps) h = All-cons IsScalar (get_or xs p (Flag false)) (at_places (Flag false) xs ps) (scalar_at xs p h) (scalars_at xs ps h)

-- what a tested option is
tested : (b : Bool) (o : Option DataSort) (s : DataSort) → (if b then o else None) ≡ Some s → o ≡ Some s
tested true o s e = e
tested false o s e = cc

-- a value of the sort that a node has
pub value_kept : (widths words : List ℕ) (values : List Scalar) (n : FlatNode) (s : DataSort) → All IsWidth widths → AreWords widths words → All IsScalar values → node_sort widths (map scalar_sort values) n ≡ Some s
    → IsValueOf s (One (node_value widths words values n))
value_kept widths words values (Input i) s w a h e =
    let c = cond_some (nat_lt i (length widths)) (BitsSort (get_or widths i 0)) s e in
    let l = ltb-true i (length widths) c.0 in
    record { value = (w i 0 l, a.fit i l); sort = c.1 }
value_kept widths words values (Fixed x) s w a h e =
    let c = cond_some (is_scalar x) (scalar_sort x) s e in
    record { value = (decides_value (One x)).0 c.0; sort = c.1 }
value_kept widths words values (Apply op args) s w a h e =
    let c = tested (list_all (λ p. nat_lt p (length (map scalar_sort values))) args) (op_sort op (at_places BoolSort (map scalar_sort values) args)) s e in
    let sorts : at_places BoolSort (map scalar_sort values) args ≡ map scalar_sort (at_places (Flag false) values args) = at_places-map scalar_sort (Flag false) values args in
    scalar_keeps_sort op (at_places (Flag false) values args) s (scalars_at values args h) (ap (op_sort op) (sym sorts) ∙ c)

sort_is : (o : Option DataSort) (s : DataSort) → is_some o ≡ true → o ≡ Some (unwrap_or o s)
sort_is None s e = cc
sort_is (Some x) s e = refl

pub lawful_at : (widths : List ℕ) (nodes : List FlatNode) (i : ℕ) (d : FlatNode) → HaveSorts widths nodes → i < length nodes
    → node_sort widths (flat_sorts widths (take i nodes)) (get_or nodes i d) ≡ Some (unwrap_or (node_sort widths (flat_sorts widths (take i nodes)) (get_or nodes i d)) BoolSort)
lawful_at widths nodes i d h l = sort_is _ BoolSort (h i (get_or nodes i d) (slice_get-get_or nodes i d l))

-- one place more, of a value of its node's sort
pub kept_more : (widths words : List ℕ) (nodes : List FlatNode) (i : ℕ) (d : FlatNode) (vs us : List Scalar) (v : Scalar) → All IsWidth widths → HaveSorts widths nodes → AreWords widths words → i < length nodes
    → All IsScalar vs → map scalar_sort vs ≡ flat_sorts widths (take i nodes) → v ≡ node_value widths words vs (get_or nodes i d) → us ≡ vs ++ v ∷ []
    → All IsScalar us × (map scalar_sort us ≡ flat_sorts widths (take (i + 1) nodes))
kept_more widths words nodes i d vs us v w h a l t e f g =
    let n = get_or nodes i d in
    let sorts = flat_sorts widths (take i nodes) in
    let s = unwrap_or (node_sort widths sorts n) BoolSort in
    let k = value_kept widths words vs n s w a t (ap (λ (ss : List DataSort). node_sort widths ss n) e ∙ lawful_at widths nodes i d h l) in
    let is_scalar : IsScalar v = subst IsScalar (sym f) k.value in
    let sort : scalar_sort v ≡ s = ap scalar_sort f ∙ k.sort in
    let all : All IsScalar us = All-same IsScalar us (vs ++ v ∷ []) g (All-push IsScalar vs v t is_scalar) in
    (all, ap (map scalar_sort) g ∙ map_push scalar_sort vs v ∙ ap (λ ss. ss ++ scalar_sort v ∷ []) e ∙ ap (λ (x : DataSort). sorts ++ x ∷ []) sort ∙ sym (in_turn_more (λ ss m. unwrap_or (node_sort widths ss m) BoolSort) nodes i d l))

-- the arguments of a lawful operator have sorts that it takes
pub args_sorted : (widths : List ℕ) (values : List Scalar) (op : Op) (ps qs : List ℕ) (args : List Scalar) → IsSome (node_sort widths (map scalar_sort values) (Apply op ps)) → qs ≡ ps → args ≡ at_places (Flag false) values qs
    → IsSome (op_sort op (map scalar_sort args))
args_sorted widths values op ps qs args h q e =
    let t = tested _ (op_sort op (at_places BoolSort (map scalar_sort values) ps)) _ (sort_is _ BoolSort h) in
    let same : at_places BoolSort (map scalar_sort values) ps ≡ map scalar_sort args = at_places-map scalar_sort (Flag false) values ps ∙ ap (map scalar_sort) (ap (at_places (Flag false) values) (sym q) ∙ sym e) in
    ap is_some (ap (op_sort op) (sym same) ∙ t)

pub values_more : (widths words : List ℕ) (nodes : List FlatNode) (i : ℕ) (d : FlatNode) (vs us : List Scalar) (v : Scalar) → i < length nodes → vs ≡ flat_values widths words (take i nodes)
    → v ≡ node_value widths words vs (get_or nodes i d) → us ≡ vs ++ v ∷ [] → us ≡ flat_values widths words (take (i + 1) nodes)
values_more widths words nodes i d vs us v l e f g =
    g ∙ ap (λ (x : Scalar). vs ++ x ∷ []) f ∙ ap (λ (xs : List Scalar). xs ++ node_value widths words xs (get_or nodes i d) ∷ []) e ∙ sym (in_turn_more (node_value widths words) nodes i d l)

-- what the sort of an operator's node is, by the test of its places
pub apply_sort : (widths : List ℕ) (sorts args : List DataSort) (op : Op) (ps qs : List ℕ) (s : Option DataSort) → ps ≡ qs → list_all (λ p. nat_lt p (length sorts)) qs ≡ true
    → args ≡ at_places BoolSort sorts qs → s ≡ op_sort op args → s ≡ node_sort widths sorts (Apply op ps)
apply_sort widths sorts args op ps qs s e t a f =
    rw (f, a, e) (sym (ap (λ (b : Bool). if b then op_sort op (at_places BoolSort sorts qs) else None) t))

pub apply_no_sort : (widths : List ℕ) (sorts : List DataSort) (op : Op) (ps qs : List ℕ) → ps ≡ qs → list_all (λ p. nat_lt p (length sorts)) qs ≡ false → None ≡ node_sort widths sorts (Apply op ps)
apply_no_sort widths sorts op ps qs e t = rw e (sym (ap (λ (b : Bool). if b then op_sort op (at_places BoolSort sorts qs) else None) t))

pub sorts_more : (widths : List ℕ) (nodes : List FlatNode) (i : ℕ) (d : FlatNode) (ss ts : List DataSort) (s : DataSort) → i < length nodes → ss ≡ flat_sorts widths (take i nodes)
    → Some s ≡ node_sort widths ss (get_or nodes i d) → ts ≡ ss ++ s ∷ [] → ts ≡ flat_sorts widths (take (i + 1) nodes)
sorts_more widths nodes i d ss ts s l e f g =
    g ∙ ap (λ (o : Option DataSort). ss ++ unwrap_or o BoolSort ∷ []) f ∙ ap (λ (xs : List DataSort). xs ++ unwrap_or (node_sort widths xs (get_or nodes i d)) BoolSort ∷ []) e
    ∙ sym (in_turn_more (λ xs m. unwrap_or (node_sort widths xs m) BoolSort) nodes i d l)

pub lawful_more : (widths : List ℕ) (nodes : List FlatNode) (i : ℕ) (d : FlatNode) (ss : List DataSort) (s : DataSort) → i < length nodes → ss ≡ flat_sorts widths (take i nodes) → Some s ≡ node_sort widths ss (get_or nodes i d)
    → ((k : ℕ) (n : FlatNode) → k < i → slice_get nodes k ≡ Some n → IsSome (node_sort widths (flat_sorts widths (take k nodes)) n))
    → (k : ℕ) (n : FlatNode) → k < i + 1 → slice_get nodes k ≡ Some n → IsSome (node_sort widths (flat_sorts widths (take k nodes)) n)
lawful_more widths nodes i d ss s l e f h k n m t = elim (cases_lt k i) [
  | inl q ↦ h k n q t
  | inr q ↦
      let same : k ≡ i = omega arith in
      let node : get_or nodes i d ≡ n = get_or_from_slice_get nodes i n d (ap (slice_get nodes) (sym same) ∙ t) in
      rw (same, ← node, ← e) (ap is_some (sym f))
]

-- a node that has no sort where it stands
pub not_lawful : (widths : List ℕ) (nodes : List FlatNode) (i : ℕ) (d : FlatNode) (ss : List DataSort) → i < length nodes → ss ≡ flat_sorts widths (take i nodes) → None ≡ node_sort widths ss (get_or nodes i d) → HaveSorts widths nodes → ⊥
not_lawful widths nodes i d ss l e f h =
    let some : is_some (node_sort widths ss (get_or nodes i d)) ≡ true = rw e (h i (get_or nodes i d) (slice_get-get_or nodes i d l)) in
    let none : is_some (node_sort widths ss (get_or nodes i d)) ≡ false = ap is_some (sym f) in
    cc

-- the value at a place
pub value_at : (widths words : List ℕ) (nodes : List FlatNode) (k : ℕ) (n : FlatNode) → slice_get nodes k ≡ Some n → slice_get (flat_values widths words nodes) k ≡ Some (node_value widths words (take k (flat_values widths words nodes)) n)
value_at widths words nodes k n e =
    let f = node_value widths words in
    let l = slice_get_within nodes k n e in
    let vs = flat_values widths words nodes in
    let count : length vs ≡ length nodes = length-in_turn f nodes in
    let here : get_or nodes k n ≡ n = get_or_from_slice_get nodes k n n e in
    let before : take k vs ≡ flat_values widths words (take k nodes) = take-in_turn f nodes k (omega arith) in
    let value : Scalar = f (flat_values widths words (take k nodes)) (get_or nodes k n) in
    let upto : take (k + 1) vs ≡ flat_values widths words (take k nodes) ++ value ∷ [] = take-in_turn f nodes (k + 1) (omega arith) ∙ in_turn_more f nodes k n l in
    let size : length (flat_values widths words (take k nodes)) ≡ k = length-in_turn f (take k nodes) ∙ length-take-le k nodes (omega arith) in
    let at : get_or vs k (Flag false) ≡ value = sym (get_or-take (k + 1) vs k (Flag false) (omega arith)) ∙ ap (λ (xs : List Scalar). get_or xs k (Flag false)) upto ∙ get_or_push (flat_values widths words (take k nodes)) value (Flag false) k size in
    slice_get-get_or vs k (Flag false) (omega arith) ∙ ap Some (at ∙ ap (f (flat_values widths words (take k nodes))) here ∙ ap (λ (xs : List Scalar). f xs n) (sym before))

-- the values of the first places have their sorts
pub kept_upto : (widths words : List ℕ) (nodes : List FlatNode) → All IsWidth widths → HaveSorts widths nodes → AreWords widths words → (i : ℕ) → i ≤ length nodes
    → All IsScalar (flat_values widths words (take i nodes)) × (map scalar_sort (flat_values widths words (take i nodes)) ≡ flat_sorts widths (take i nodes))
unfolding in_turn
kept_upto widths words nodes w h a zero l = (All-nil IsScalar, refl)
kept_upto widths words nodes w h a (suc i) l =
    let r = kept_upto widths words nodes w h a i (omega arith) in
    let vs = flat_values widths words (take i nodes) in
    let us = flat_values widths words (take (i + 1) nodes) in
    let more : us ≡ vs ++ node_value widths words vs (get_or nodes i (Input 0)) ∷ [] = in_turn_more (node_value widths words) nodes i (Input 0) (omega arith) in
    rw (← add-one) (kept_more widths words nodes i (Input 0) vs us (node_value widths words vs (get_or nodes i (Input 0))) w h a (omega arith) r.0 r.1 refl more)

pub kept_all : (widths words : List ℕ) (nodes : List FlatNode) → All IsWidth widths → HaveSorts widths nodes → AreWords widths words
    → All IsScalar (flat_values widths words nodes) × (map scalar_sort (flat_values widths words nodes) ≡ flat_sorts widths nodes)
kept_all widths words nodes w h a =
    let all : take (length nodes) nodes ≡ nodes = take_all (length nodes) nodes (omega arith) in
    subst (λ (ns : List FlatNode). All IsScalar (flat_values widths words ns) × (map scalar_sort (flat_values widths words ns) ≡ flat_sorts widths ns)) all
    (kept_upto widths words nodes w h a (length nodes) (omega arith))

-- ---- the sorts of places are sorts
gives_sort : (op : Op) (sorts : List DataSort) (s : DataSort) → All IsSort sorts → op_sort op sorts ≡ Some s → IsSort s
gives_sort op sorts s a e = search rules

sort_at : (xs : List DataSort) (p : ℕ) → All IsSort xs → IsSort (get_or xs p BoolSort)
sort_at [] p h = tt
sort_at (x ∷ xs) zero h = All-head IsSort x xs h
sort_at (x ∷ xs) (suc p) h = sort_at xs p (All-tail IsSort x xs h)

sorts_at : (xs : List DataSort) (ps : List ℕ) → All IsSort xs → All IsSort (at_places BoolSort xs ps)
sorts_at xs [] h = All-nil IsSort
sorts_at xs (p ∷ ps) h = All-cons IsSort (get_or xs p BoolSort) (at_places BoolSort xs ps) (sort_at xs p h) (sorts_at xs ps h)

scalar_is_sort : (x : Scalar) → IsScalar x → IsSort (scalar_sort x)
scalar_is_sort (Flag v) h = tt
scalar_is_sort (Bits w x) h = h.0

node_is_sort : (widths : List ℕ) (sorts : List DataSort) (n : FlatNode) (s : DataSort) → All IsWidth widths → All IsSort sorts → node_sort widths sorts n ≡ Some s → IsSort s
node_is_sort widths sorts (Input i) s w a e =
    let c = cond_some (nat_lt i (length widths)) (BitsSort (get_or widths i 0)) s e in
    subst IsSort c.1 (w i 0 (ltb-true i (length widths) c.0))
node_is_sort widths sorts (Fixed x) s w a e =
    let c = cond_some (is_scalar x) (scalar_sort x) s e in
    subst IsSort c.1 (scalar_is_sort x ((decides_value (One x)).0 c.0))
node_is_sort widths sorts (Apply op args) s w a e =
    gives_sort op (at_places BoolSort sorts args) s (sorts_at sorts args a) (tested _ (op_sort op (at_places BoolSort sorts args)) s e)

some_or : (o : Option DataSort) → ((s : DataSort) → o ≡ Some s → IsSort s) → IsSort (unwrap_or o BoolSort)
some_or None h = tt
some_or (Some s) h = h s refl

pub sorts_fit : (widths : List ℕ) (nodes : List FlatNode) → All IsWidth widths → (i : ℕ) → i ≤ length nodes → All IsSort (flat_sorts widths (take i nodes))
unfolding in_turn
sorts_fit widths nodes w zero l = All-nil IsSort
sorts_fit widths nodes w (suc i) l =
    let sorts : List DataSort = flat_sorts widths (take i nodes) in
    let n : FlatNode = get_or nodes i (Input 0) in
    let r : All IsSort sorts = sorts_fit widths nodes w i (omega arith) in
    let more : flat_sorts widths (take (i + 1) nodes) ≡ sorts ++ unwrap_or (node_sort widths sorts n) BoolSort ∷ [] = in_turn_more (λ ss m. unwrap_or (node_sort widths ss m) BoolSort) nodes i (Input 0) (omega arith) in
    rw (← add-one) (All-same IsSort _ _ more (All-push IsSort sorts (unwrap_or (node_sort widths sorts n) BoolSort) r (some_or (node_sort widths sorts n) (λ s e. node_is_sort widths sorts n s w r e))))

-- ---- no operator on maps has a sort at scalars
no_get : (xs : List Scalar) → IsSome (op_sort Get (map scalar_sort xs)) → ⊥
no_get [] h = cc
no_get (Flag b ∷ xs) h = cc
no_get (Bits w x ∷ xs) h = cc

no_put : (xs : List Scalar) → IsSome (op_sort Put (map scalar_sort xs)) → ⊥
no_put [] h = cc
no_put (Flag b ∷ xs) h = cc
no_put (Bits w x ∷ xs) h = cc

zeros : (widths : List ℕ) → AreWords widths (map (λ w. 0) widths)
zeros widths = record {
  count = length-map {B = ℕ} widths (λ w. 0);
  fit = λ k l. rw (get_or-map {Y = ℕ} (λ w. 0) widths k 0 0 l) (pow_pos (get_or widths k 0));
}

pub no_maps : (widths : List ℕ) (nodes : List FlatNode) (k : ℕ) (op : Op) (args : List ℕ) → All IsWidth widths → HaveSorts widths nodes → slice_get nodes k ≡ Some (Apply op args) → (op ≡ Get → ⊥) × (op ≡ Put → ⊥)
no_maps widths nodes k op args w h e =
    let l = slice_get_within nodes k (Apply op args) e in
    let values : List Scalar = flat_values widths (map (λ v. 0) widths) (take k nodes) in
    let kept = kept_upto widths (map (λ v. 0) widths) nodes w h (zeros widths) k (omega arith) in
    let lawful : IsSome (node_sort widths (map scalar_sort values) (Apply op args)) = subst (λ (ss : List DataSort). IsSome (node_sort widths ss (Apply op args))) (sym kept.1) (h k (Apply op args) e) in
    let sorted : IsSome (op_sort op (map scalar_sort (at_places (Flag false) values args))) = args_sorted widths values op args args (at_places (Flag false) values args) lawful refl refl in (
      λ g. no_get (at_places (Flag false) values args) (subst (λ (o : Op). IsSome (op_sort o (map scalar_sort (at_places (Flag false) values args)))) g sorted),
      λ g. no_put (at_places (Flag false) values args) (subst (λ (o : Op). IsSome (op_sort o (map scalar_sort (at_places (Flag false) values args)))) g sorted),
    )
