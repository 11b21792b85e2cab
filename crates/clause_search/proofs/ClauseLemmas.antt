-- Clauses that a partial assignment makes false.
use Rattle.std.proofs.Common.{ℕ, ◌≡◌, ◌<◌, Bool, true, false, ◌||◌, ◌⊎◌, Option, Some, None, List, [], ◌∷◌, length, get_or, take, ◌+◌, refl, ◌∙◌, subst, inl, inr, zero, suc, arith}
use Rattle.std.proofs.lemmas.Bool.{and_parts, and_from, or_cases, or_parts, or_left, or_right, ltb-true, cases_Bool}
use Rattle.std.proofs.lemmas.List.Folds.{list_all_more}
use Rattle.refute_check.specs.declared.lit.Lit.{Lit}
use Rattle.refute_check.specs.Truth.{clause_below, list_below}
use Rattle.refute_check.specs.Literals.{same_lit, has_lit}
use Rattle.refute_check.proofs.LitLemmas.{same_lit_eq, has_lit_first, has_lit_cons}
use Rattle.clause_search.specs.Partial.{lit_value, is_true, is_false, is_open, satisfies, falsifies, false_but, IsOpenIn, HasNoOpen}

-- each literal of a clause that is false but for one is that one or false
pub false_but_at : (p : List (Option Bool)) (x : Lit) (c : List Lit) (y : Lit) → false_but p x c ≡ true → has_lit c y ≡ true → (same_lit x y ≡ true) ⊎ (is_false (lit_value p y) ≡ true)
unfolding false_but has_lit
false_but_at p x [] y f h = cc
false_but_at p x (k ∷ ks) y f h =
    let q = and_parts (same_lit x k || is_false (lit_value p k)) _ f in
    elim (or_cases (same_lit k y) (has_lit ks y) h) [
      | inl e ↦ or_cases (same_lit x y) (is_false (lit_value p y)) (subst (λ (z : Lit). (same_lit x z || is_false (lit_value p z)) ≡ true) (same_lit_eq k y e) q.0)
      | inr e ↦ false_but_at p x ks y q.1 e
    ]

-- a clause each literal of which is false
pub false_from : (p : List (Option Bool)) (c : List Lit) → ((x : Lit) → has_lit c x ≡ true → is_false (lit_value p x) ≡ true) → falsifies p c ≡ true
unfolding falsifies
false_from p [] h = refl
false_from p (k ∷ ks) h =
    and_from (is_false (lit_value p k)) _ (h k (has_lit_first k ks)) (false_from p ks (λ x e. h x (has_lit_cons k ks x ∙ or_right (same_lit k x) _ e)))

open_or_decided : (o : Option Bool) → is_true o ≡ false → is_open o ≡ false → is_false o ≡ true
open_or_decided None t n = cc
open_or_decided (Some true) t n = cc
open_or_decided (Some false) t n = refl

-- a clause without a true and without an open literal is false
pub none_open : (p : List (Option Bool)) (c : List Lit) → satisfies p c ≡ false → HasNoOpen p c → falsifies p c ≡ true
unfolding satisfies falsifies
none_open p [] s f = refl
none_open p (k ∷ ks) s f =
    let q = or_parts (is_true (lit_value p k)) _ s in
    let r = or_parts (is_open (lit_value p k)) _ f in
    and_from (is_false (lit_value p k)) _ (open_or_decided (lit_value p k) q.0 r.0) (none_open p ks q.1 r.1)

open_none : (o : Option Bool) → is_open o ≡ true → o ≡ None
open_none None h = refl
open_none (Some v) h = cc

-- an element of a clause is in it
pub has_lit_at : (c : List Lit) (i : ℕ) (d : Lit) → i < length c → has_lit c (get_or c i d) ≡ true
unfolding has_lit
has_lit_at [] i d h = absurd (omega arith)
has_lit_at (k ∷ ks) zero d h = has_lit_first k ks
has_lit_at (k ∷ ks) (suc i) d h = or_right (same_lit k (get_or ks i d)) _ (has_lit_at ks i d (omega arith))

-- an element of a clause whose variable has no truth value
pub open_at : (p : List (Option Bool)) (ls c : List Lit) (i : ℕ) (d : Lit) → ls ≡ c → i < length ls → is_open (lit_value p (get_or ls i d)) ≡ true → IsOpenIn p c (get_or ls i d)
open_at p ls c i d e h o = (subst (λ (ks : List Lit). has_lit ks (get_or ls i d) ≡ true) e (has_lit_at ls i d h), open_none (lit_value p (get_or ls i d)) o)

lit_below : (n : ℕ) (c : List Lit) (l : Lit) → clause_below n c ≡ true → has_lit c l ≡ true → l.var < n
unfolding clause_below has_lit
lit_below n [] l b h = cc
lit_below n (k ∷ ks) l b h =
    let q = and_parts _ _ b in
    elim (or_cases (same_lit k l) (has_lit ks l) h) [
      | inl e ↦ subst (λ (y : Lit). y.var < n) (same_lit_eq k l e) (ltb-true k.var n q.0)
      | inr e ↦ lit_below n ks l q.1 e
    ]

-- the variables of each literal of each clause are below the bound
pub in_scope : (n : ℕ) (cs : List (List Lit)) (k : ℕ) (d : List Lit) (l : Lit) → list_below n cs ≡ true → k < length cs → has_lit (get_or cs k d) l ≡ true → l.var < n
unfolding list_below
in_scope n [] k d l b h m = absurd (omega arith)
in_scope n (c ∷ cs) zero d l b h m = lit_below n c l (and_parts (clause_below n c) _ b).0 m
in_scope n (c ∷ cs) (suc k) d l b h m = in_scope n cs k d l (and_parts (clause_below n c) _ b).1 (omega arith) m

-- a clause that is false but for one literal, which is false too
pub false_whole : (p : List (Option Bool)) (x : Lit) (c : List Lit) → false_but p x c ≡ true → is_false (lit_value p x) ≡ true → falsifies p c ≡ true
false_whole p x c f n = false_from p c (λ y h.
    elim (false_but_at p x c y f h) [
      | inl e ↦ subst (λ (z : Lit). is_false (lit_value p z) ≡ true) (same_lit_eq x y e) n
      | inr e ↦ e
    ])

-- the empty clause
pub false_but_none : (p : List (Option Bool)) (x : Lit) → false_but p x [] ≡ true
unfolding false_but
false_but_none p x = refl

-- one literal more
pub false_but_more : (p : List (Option Bool)) (x : Lit) (ls : List Lit) (i : ℕ) (d l : Lit) → i < length ls → l ≡ get_or ls i d → false_but p x (take i ls) ≡ true → (same_lit x l || is_false (lit_value p l)) ≡ true → false_but p x (take (i + 1) ls) ≡ true
unfolding false_but
false_but_more p x ls i d l h e f o =
    list_all_more (λ (k : Lit). same_lit x k || is_false (lit_value p k)) ls i d h ∙ and_from _ _ f (subst (λ (k : Lit). (same_lit x k || is_false (lit_value p k)) ≡ true) e o)

-- a clause each literal of which is the one or false
pub false_but_from : (p : List (Option Bool)) (x : Lit) (c : List Lit) → ((y : Lit) → has_lit c y ≡ true → same_lit x y ≡ false → is_false (lit_value p y) ≡ true) → false_but p x c ≡ true
unfolding false_but
false_but_from p x [] h = refl
false_but_from p x (k ∷ ks) h =
    let here : (same_lit x k || is_false (lit_value p k)) ≡ true = elim (cases_Bool (same_lit x k)) [
      | inl e ↦ or_left (same_lit x k) _ e
      | inr e ↦ or_right (same_lit x k) _ (h k (has_lit_first k ks) e)
    ] in
    and_from (same_lit x k || is_false (lit_value p k)) _ here (false_but_from p x ks (λ y e n. h y (has_lit_cons k ks y ∙ or_right (same_lit k y) _ e) n))
