-- Clauses over the variables below a number.
use Rattle.std.proofs.Common.{ℕ, zero, suc, ◌≡◌, ◌<◌, ◌≤◌, Bool, true, not, ◌&&◌, ◌||◌, if◌then◌else◌, List, [], ◌∷◌, ◌++◌, length, take, drop, replicate, map, get_or, refl, ap, ◌∙◌, sym, arith}
use Rattle.std.proofs.lemmas.Bool.{ltb-true, lt-ltb, and_parts, and_from}
use Rattle.refute_check.specs.declared.lit.Lit.{Lit}
use Rattle.refute_check.specs.Truth.{flipped, lit_true, clause_true, all_true, clause_below, list_below}
use Rattle.refute_check.proofs.TruthLemmas.{all_true_append}

pub clause_below_more : (n m : ℕ) (c : List Lit) → n ≤ m → clause_below n c ≡ true → clause_below m c ≡ true
unfolding clause_below
clause_below_more n m [] l h = refl
clause_below_more n m (x ∷ xs) l h =
    let p = and_parts _ _ h in
    let q : x.var < n = ltb-true x.var n p.0 in
    and_from _ _ (lt-ltb x.var m (omega arith)) (clause_below_more n m xs l p.1)

pub list_below_more : (n m : ℕ) (cs : List (List Lit)) → n ≤ m → list_below n cs ≡ true → list_below m cs ≡ true
unfolding list_below
list_below_more n m [] l h = refl
list_below_more n m (c ∷ cs) l h =
    let p = and_parts _ _ h in
    and_from _ _ (clause_below_more n m c l p.0) (list_below_more n m cs l p.1)

pub list_below_append : (n : ℕ) (cs ds : List (List Lit)) → list_below n cs ≡ true → list_below n ds ≡ true → list_below n (cs ++ ds) ≡ true
unfolding list_below
list_below_append n [] ds h k = k
list_below_append n (c ∷ cs) ds h k =
    let p = and_parts _ _ h in
    and_from _ _ p.0 (list_below_append n cs ds p.1 k)

pub list_below_one : (n : ℕ) (c : List Lit) → clause_below n c ≡ true → list_below n (c ∷ []) ≡ true
unfolding list_below
list_below_one n c h = and_from _ _ h refl

pub clause_below_append : (n : ℕ) (cs ds : List Lit) → clause_below n cs ≡ true → clause_below n ds ≡ true → clause_below n (cs ++ ds) ≡ true
unfolding clause_below
clause_below_append n [] ds h k = k
clause_below_append n (c ∷ cs) ds h k =
    let p = and_parts _ _ h in
    and_from _ _ p.0 (clause_below_append n cs ds p.1 k)

pub clause_below_take : (n : ℕ) (xs : List Lit) (i : ℕ) → clause_below n xs ≡ true → clause_below n (take i xs) ≡ true
unfolding clause_below
clause_below_take n [] zero h = refl
clause_below_take n [] (suc i) h = refl
clause_below_take n (x ∷ xs) zero h = refl
clause_below_take n (x ∷ xs) (suc i) h =
    let p = and_parts _ _ h in
    and_from _ _ p.0 (clause_below_take n xs i p.1)

pub clause_below_drop : (n : ℕ) (xs : List Lit) (i : ℕ) → clause_below n xs ≡ true → clause_below n (drop i xs) ≡ true
unfolding clause_below
clause_below_drop n [] zero h = refl
clause_below_drop n [] (suc i) h = refl
clause_below_drop n (x ∷ xs) zero h = h
clause_below_drop n (x ∷ xs) (suc i) h = clause_below_drop n xs i (and_parts _ _ h).1

pub clause_below_replicate : (n : ℕ) (l : Lit) (k : ℕ) → l.var < n → clause_below n (replicate k l) ≡ true
unfolding clause_below
clause_below_replicate n l zero h = refl
clause_below_replicate n l (suc k) h = and_from _ _ (lt-ltb _ _ h) (clause_below_replicate n l k h)

pub clause_below_flips : (n : ℕ) (xs : List Lit) → clause_below n xs ≡ true → clause_below n (map flipped xs) ≡ true
unfolding clause_below
clause_below_flips n [] h = refl
clause_below_flips n (x ∷ xs) h =
    let p = and_parts _ _ h in
    and_from _ _ p.0 (clause_below_flips n xs p.1)

pub clause_below_get : (n : ℕ) (xs : List Lit) (i : ℕ) (d : Lit) → clause_below n xs ≡ true → i < length xs → (get_or xs i d).var < n
unfolding clause_below
clause_below_get n [] i d h l = omega arith
clause_below_get n (x ∷ xs) zero d h l = ltb-true _ _ (and_parts _ _ h).0
clause_below_get n (x ∷ xs) (suc i) d h l = clause_below_get n xs i d (and_parts _ _ h).1 (omega arith)

pub one_below : (n : ℕ) (x : Lit) → x.var < n → clause_below n (x ∷ []) ≡ true
unfolding clause_below
one_below n x h = and_from _ _ (lt-ltb _ _ h) refl

pub two_below : (n : ℕ) (x y : Lit) → x.var < n → y.var < n → clause_below n (x ∷ y ∷ []) ≡ true
unfolding clause_below
two_below n x y h k = and_from _ _ (lt-ltb _ _ h) (and_from _ _ (lt-ltb _ _ k) refl)

pub three_below : (n : ℕ) (x y z : Lit) → x.var < n → y.var < n → z.var < n → clause_below n (x ∷ y ∷ z ∷ []) ≡ true
unfolding clause_below
three_below n x y z h k l = and_from _ _ (lt-ltb _ _ h) (and_from _ _ (lt-ltb _ _ k) (and_from _ _ (lt-ltb _ _ l) refl))

-- assignments that agree below n agree on what is below n
pub lit_same : (n : ℕ) (a b : ℕ → Bool) (l : Lit) → ((x : ℕ) → x < n → b x ≡ a x) → l.var < n → lit_true b l ≡ lit_true a l
unfolding lit_true
lit_same n a b l s h = ap (λ (v : Bool). if l.positive then v else not v) (s l.var h)

clause_same : (n : ℕ) (a b : ℕ → Bool) (c : List Lit) → ((x : ℕ) → x < n → b x ≡ a x) → clause_below n c ≡ true → clause_true b c ≡ clause_true a c
unfolding clause_true clause_below
clause_same n a b [] s h = refl
clause_same n a b (l ∷ ls) s h =
    let p = and_parts _ _ h in
    let e = lit_same n a b l s (ltb-true l.var n p.0) in
    let f = clause_same n a b ls s p.1 in
    ap (λ (v : Bool). v || clause_true b ls) e ∙ ap (λ (v : Bool). lit_true a l || v) f

pub all_same : (n : ℕ) (a b : ℕ → Bool) (cs : List (List Lit)) → ((x : ℕ) → x < n → b x ≡ a x) → list_below n cs ≡ true → all_true b cs ≡ all_true a cs
unfolding all_true list_below
all_same n a b [] s h = refl
all_same n a b (c ∷ cs) s h =
    let p = and_parts _ _ h in
    let e = clause_same n a b c s p.0 in
    let f = all_same n a b cs s p.1 in
    ap (λ (v : Bool). v && all_true b cs) e ∙ ap (λ (v : Bool). clause_true a c && v) f

pub all_true_both : (a : ℕ → Bool) (cs ds : List (List Lit)) → all_true a cs ≡ true → all_true a ds ≡ true → all_true a (cs ++ ds) ≡ true
all_true_both a cs ds h k = all_true_append a cs ds ∙ and_from _ _ h k

pub all_true_parts : (a : ℕ → Bool) (cs ds : List (List Lit)) → all_true a (cs ++ ds) ≡ true → (all_true a cs ≡ true) × (all_true a ds ≡ true)
all_true_parts a cs ds h = and_parts _ _ (sym (all_true_append a cs ds) ∙ h)
