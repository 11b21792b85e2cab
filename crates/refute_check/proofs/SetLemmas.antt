-- Sets of numbers and of literals, as they change.
use Rattle.std.proofs.Common.{ℕ, ◌≡◌, ◌<◌, ◌≤◌, ◌+◌, ◌==◌, Bool, true, false, not, ◌&&◌, ◌||◌, if◌then◌else◌, List, [], ◌∷◌, ◌++◌, length, get_or, set, drop, refl, sym, ap, ◌∙◌, subst, inl, inr, arith, add-one, drop-cons, length-drop, get_or-set_other, OnErr, Result, Ok, Err}
use Rattle.std.proofs.lemmas.Bool.{and_parts, or_cases, or_left, or_right, cases_Bool, eqb-true, eqb-false, eq-eqb, ne_eqb, not-true}
use Rattle.std.proofs.lemmas.List.{get_or_past, nil_from_length}
use Rattle.std.proofs.lemmas.Grind.{get_or-set_at}
use Rattle.refute_check.specs.declared.lit.Lit.{Lit}
use Rattle.refute_check.specs.Literals.{same_lit, has_lit}
use Rattle.refute_check.specs.Sets.{Numbers, has_number, AreStamps, LitTable, marked, Covers}
use Rattle.refute_check.proofs.LitLemmas.{same_lit_eq, has_lit_cons, has_lit_push}

-- a round that begins has no number
pub later : (s : Numbers) → AreStamps s → (k : ℕ) → has_number (record { round = s.round + 1; stamps = s.stamps }) k ≡ false
unfolding has_number
later s h k =
    let le : get_or s.stamps k 0 ≤ s.round = h.past k in
    ne_eqb (get_or s.stamps k 0) (s.round + 1) (λ e. omega (arith, e, le))

-- an empty table has no number
pub none_stamped : (xs : List ℕ) → xs ≡ [] → (k : ℕ) → has_number (record { round = 1; stamps = xs }) k ≡ false
unfolding has_number
none_stamped xs e k = ap (λ (ys : List ℕ). get_or ys k 0 == 1) e

past_end : (s : Numbers) → AreStamps s → (k : ℕ) → length s.stamps ≤ k → has_number s k ≡ false
unfolding has_number
past_end s h k l =
    let zero : get_or s.stamps k 0 ≡ 0 = get_or_past s.stamps k 0 l in
    let begun : 0 < s.round = h.begun in
    ne_eqb (get_or s.stamps k 0) s.round (λ e. omega (arith, e, zero, begun))

-- a table that reads as that of a set
pub same_as : (s now : Numbers) (xs : List ℕ) → s ≡ now → ((k : ℕ) → get_or xs k 0 ≡ get_or s.stamps k 0) → (k : ℕ) → has_number (record { round = s.round; stamps = xs }) k ≡ has_number now k
unfolding has_number
same_as s now xs v e k = ap (λ (n : ℕ). n == s.round) (e k) ∙ ap (λ (t : Numbers). get_or t.stamps k 0 == t.round) v

pub on_err_always : {T E P : Type 0} (r : Result T E) → P → OnErr r P
on_err_always (Ok v) p = tt
on_err_always (Err e) p = p

or_false : (a b : Bool) → b ≡ false → a ≡ (a || b)
or_false true b e = refl
or_false false b e = sym e

and_not : (a b : Bool) → b ≡ false → a ≡ (a && not b)
and_not true b e = sym (ap not e)
and_not false b e = refl

and_not_true : (a b : Bool) → b ≡ true → (a && not b) ≡ false
and_not_true true b e = ap not e
and_not_true false b e = refl

-- a number whose stamp is of now
pub put_in : (r : ℕ) (xs : List ℕ) (n : ℕ) → n < length xs → (k : ℕ) → has_number (record { round = r; stamps = set xs n r }) k ≡ (has_number (record { round = r; stamps = xs }) k || n == k)
unfolding has_number
put_in r xs n l k = elim (cases_Bool (n == k)) [
  | inl e ↦ eq-eqb (get_or (set xs n r) k 0) r (get_or-set_at xs n k r 0 (sym (eqb-true n k e)) l) ∙ sym (or_right (get_or xs k 0 == r) (n == k) e)
  | inr e ↦ ap (λ (v : ℕ). v == r) (get_or-set_other xs n k r 0 (λ q. eqb-false n k e (sym q))) ∙ or_false (get_or xs k 0 == r) (n == k) e
]

-- a number whose stamp is of no round
pub taken_out : (s : Numbers) (n : ℕ) → AreStamps s → n < length s.stamps → (k : ℕ) → has_number (record { round = s.round; stamps = set s.stamps n 0 }) k ≡ (has_number s k && not (n == k))
unfolding has_number
taken_out s n h l k = elim (cases_Bool (n == k)) [
  | inl e ↦
      let zero : get_or (set s.stamps n 0) k 0 ≡ 0 = get_or-set_at s.stamps n k 0 0 (sym (eqb-true n k e)) l in
      let begun : 0 < s.round = h.begun in
      ne_eqb (get_or (set s.stamps n 0) k 0) s.round (λ q. omega (arith, q, zero, begun)) ∙ sym (and_not_true (get_or s.stamps k 0 == s.round) (n == k) e)
  | inr e ↦ ap (λ (v : ℕ). v == s.round) (get_or-set_other s.stamps n k 0 0 (λ q. eqb-false n k e (sym q))) ∙ and_not (get_or s.stamps k 0 == s.round) (n == k) e
]

-- a number that the table doesn't reach
pub not_reached : (s : Numbers) (n : ℕ) → AreStamps s → length s.stamps ≤ n → (k : ℕ) → has_number s k ≡ (has_number s k && not (n == k))
not_reached s n h l k = elim (cases_Bool (n == k)) [
  | inl e ↦
      let q : n ≡ k = eqb-true n k e in
      past_end s h k (subst (λ (j : ℕ). length s.stamps ≤ j) q l) ∙ sym (and_not_true (has_number s k) (n == k) e)
  | inr e ↦ and_not (has_number s k) (n == k) e
]

-- what a read of the table says
pub read_stamp : (s : Numbers) (n stamp : ℕ) → get_or s.stamps n 0 ≡ stamp → (stamp == s.round) ≡ has_number s n
unfolding has_number
read_stamp s n stamp e = ap (λ (v : ℕ). v == s.round) (sym e)

pub read_past : (s : Numbers) (n : ℕ) → AreStamps s → length s.stamps ≤ n → false ≡ has_number s n
read_past s n h l = sym (past_end s h n l)

-- marks of no literals
pub none_marked : (m : LitTable) → ((k : ℕ) → has_number m.positive k ≡ false) → ((k : ℕ) → has_number m.negative k ≡ false) → (x : Lit) → marked m x ≡ false
unfolding marked
none_marked m p n x = go x.positive
  where
    go : (b : Bool) → (if b then has_number m.positive x.var else has_number m.negative x.var) ≡ false
    go true = p x.var
    go false = n x.var

pub marked_positive : (m : LitTable) (l : Lit) → l.positive ≡ true → has_number m.positive l.var ≡ marked m l
unfolding marked
marked_positive m l e = rw e refl

pub marked_negative : (m : LitTable) (l : Lit) → l.positive ≡ false → has_number m.negative l.var ≡ marked m l
unfolding marked
marked_negative m l e = rw e refl

signed_or : (s b p n e q : Bool) → s ≡ true → q ≡ (p || e) → (if b then q else n) ≡ ((if b then p else n) || (e && (if s then b else not b)))
signed_or true true p n true q s h = h
signed_or true true p n false q s h = h
signed_or true false p true e q s h = refl
signed_or true false p false true q s h = refl
signed_or true false p false false q s h = refl
signed_or false b p n e q s h = cc

negated_or : (s b p n e q : Bool) → s ≡ false → q ≡ (n || e) → (if b then p else q) ≡ ((if b then p else n) || (e && (if s then b else not b)))
negated_or false false p n true q s h = h
negated_or false false p n false q s h = h
negated_or false true true n e q s h = refl
negated_or false true false n true q s h = refl
negated_or false true false n false q s h = refl
negated_or true b p n e q s h = cc

signed_and : (s b p n e q : Bool) → s ≡ true → q ≡ (p && not e) → (if b then q else n) ≡ ((if b then p else n) && not (e && (if s then b else not b)))
signed_and true true p n true q s h = h
signed_and true true p n false q s h = h
signed_and true false p true true q s h = refl
signed_and true false p true false q s h = refl
signed_and true false p false e q s h = refl
signed_and false b p n e q s h = cc

negated_and : (s b p n e q : Bool) → s ≡ false → q ≡ (n && not e) → (if b then p else q) ≡ ((if b then p else n) && not (e && (if s then b else not b)))
negated_and false false p n true q s h = h
negated_and false false p n false q s h = h
negated_and false true true n true q s h = refl
negated_and false true true n false q s h = refl
negated_and false true false n e q s h = refl
negated_and true b p n e q s h = cc

-- one literal more is marked
pub put_positive : (m : LitTable) (new : Numbers) (l : Lit) → l.positive ≡ true → ((k : ℕ) → has_number new k ≡ (has_number m.positive k || l.var == k)) → (x : Lit) → marked (record { positive = new; negative = m.negative }) x ≡ (marked m x || same_lit l x)
unfolding marked
put_positive m new l s h x = signed_or l.positive x.positive (has_number m.positive x.var) (has_number m.negative x.var) (l.var == x.var) (has_number new x.var) s (h x.var)

pub put_negative : (m : LitTable) (new : Numbers) (l : Lit) → l.positive ≡ false → ((k : ℕ) → has_number new k ≡ (has_number m.negative k || l.var == k)) → (x : Lit) → marked (record { positive = m.positive; negative = new }) x ≡ (marked m x || same_lit l x)
unfolding marked
put_negative m new l s h x = negated_or l.positive x.positive (has_number m.positive x.var) (has_number m.negative x.var) (l.var == x.var) (has_number new x.var) s (h x.var)

-- one literal less is marked
pub take_positive : (m : LitTable) (new : Numbers) (l : Lit) → l.positive ≡ true → ((k : ℕ) → has_number new k ≡ (has_number m.positive k && not (l.var == k))) → (x : Lit) → marked (record { positive = new; negative = m.negative }) x ≡ (marked m x && not (same_lit l x))
unfolding marked
take_positive m new l s h x = signed_and l.positive x.positive (has_number m.positive x.var) (has_number m.negative x.var) (l.var == x.var) (has_number new x.var) s (h x.var)

pub take_negative : (m : LitTable) (new : Numbers) (l : Lit) → l.positive ≡ false → ((k : ℕ) → has_number new k ≡ (has_number m.negative k && not (l.var == k))) → (x : Lit) → marked (record { positive = m.positive; negative = new }) x ≡ (marked m x && not (same_lit l x))
unfolding marked
take_negative m new l s h x = negated_and l.positive x.positive (has_number m.positive x.var) (has_number m.negative x.var) (l.var == x.var) (has_number new x.var) s (h x.var)

-- marks of the same numbers are the same
pub same_marked : (m n : LitTable) → ((k : ℕ) → has_number m.positive k ≡ has_number n.positive k) → ((k : ℕ) → has_number m.negative k ≡ has_number n.negative k) → (x : Lit) → marked m x ≡ marked n x
unfolding marked
same_marked m n p q x = go x.positive
  where
    go : (b : Bool) → (if b then has_number m.positive x.var else has_number m.negative x.var) ≡ (if b then has_number n.positive x.var else has_number n.negative x.var)
    go true = p x.var
    go false = q x.var

-- a list with one literal more, and the same marks
pub covers_kept : (ls : List Lit) (l : Lit) (m new : LitTable) → Covers ls m → ((x : Lit) → marked new x ≡ marked m x) → Covers (ls ++ l ∷ []) new
covers_kept ls l m new h f x t = has_lit_push ls l x ∙ or_left (has_lit ls x) (same_lit l x) (h x (sym (f x) ∙ t))

-- a mark more, of the literal at the end of the list
pub covers_added : (ls : List Lit) (l : Lit) (m new : LitTable) → Covers ls m → ((x : Lit) → marked new x ≡ (marked m x || same_lit l x)) → Covers (ls ++ l ∷ []) new
covers_added ls l m new h f x t = elim (or_cases (marked m x) (same_lit l x) (sym (f x) ∙ t)) [
  | inl e ↦ has_lit_push ls l x ∙ or_left (has_lit ls x) (same_lit l x) (h x e)
  | inr e ↦ has_lit_push ls l x ∙ or_right (has_lit ls x) (same_lit l x) e
]

rest_of : (ls : List Lit) (i : ℕ) (d l x : Lit) → i < length ls → l ≡ get_or ls i d → has_lit (drop i ls) x ≡ (same_lit l x || has_lit (drop (i + 1) ls) x)
rest_of ls i d l x h e =
    let front : drop i ls ≡ get_or ls i d ∷ drop (i + 1) ls = rw add-one (drop-cons ls i d h) in
    ap (λ (r : List Lit). has_lit r x) front ∙ has_lit_cons (get_or ls i d) (drop (i + 1) ls) x ∙ ap (λ (k : Lit). same_lit k x || has_lit (drop (i + 1) ls) x) (sym e)

-- the first of a list is no more marked
pub rest_taken : (ls : List Lit) (i : ℕ) (d l : Lit) (m new : LitTable) → i < length ls → l ≡ get_or ls i d → Covers (drop i ls) m → ((x : Lit) → marked new x ≡ (marked m x && not (same_lit l x))) → Covers (drop (i + 1) ls) new
rest_taken ls i d l m new h e c f x t =
    let both = and_parts (marked m x) (not (same_lit l x)) (sym (f x) ∙ t) in
    let other : same_lit l x ≡ false = not-true (same_lit l x) both.1 in
    elim (or_cases (same_lit l x) (has_lit (drop (i + 1) ls) x) (sym (rest_of ls i d l x h e) ∙ c x both.0)) [
      | inl s ↦ cc
      | inr r ↦ r
    ]

-- the first of a list is not marked
pub rest_left : (ls : List Lit) (i : ℕ) (d l : Lit) (m : LitTable) → i < length ls → l ≡ get_or ls i d → Covers (drop i ls) m → marked m l ≡ false → Covers (drop (i + 1) ls) m
rest_left ls i d l m h e c f x t =
    elim (or_cases (same_lit l x) (has_lit (drop (i + 1) ls) x) (sym (rest_of ls i d l x h e) ∙ c x t)) [
      | inl s ↦
          let none : marked m x ≡ false = subst (λ (y : Lit). marked m y ≡ false) (same_lit_eq l x s) f in
          cc
      | inr r ↦ r
    ]

moved : (s o n : Bool) → (o ≡ true → n ≡ true) → ((s || o) || (n && not o)) ≡ (s || n)
moved true o n h = refl
moved false true n h = sym (h refl)
moved false false true h = refl
moved false false false h = refl

-- a literal is moved from the marks to a list
pub kept_moved : (ks more : List Lit) (l : Lit) (m new : LitTable) → more ≡ ks ++ l ∷ [] → marked m l ≡ true → ((x : Lit) → marked new x ≡ (marked m x && not (same_lit l x))) → (x : Lit) → (has_lit more x || marked new x) ≡ (has_lit ks x || marked m x)
kept_moved ks more l m new e t f x =
    let here : same_lit l x ≡ true → marked m x ≡ true = λ s. subst (λ (y : Lit). marked m y ≡ true) (same_lit_eq l x s) t in
    ap (λ (b : Bool). b || marked new x) (ap (λ (c : List Lit). has_lit c x) e ∙ has_lit_push ks l x)
    ∙ ap (λ (b : Bool). (has_lit ks x || same_lit l x) || b) (f x)
    ∙ moved (has_lit ks x) (same_lit l x) (marked m x) here

pub fewer_taken : (l : Lit) (m new : LitTable) → ((x : Lit) → marked new x ≡ (marked m x && not (same_lit l x))) → (x : Lit) → marked new x ≡ true → marked m x ≡ true
fewer_taken l m new f x t = (and_parts (marked m x) (not (same_lit l x)) (sym (f x) ∙ t)).0

-- nothing is marked at the end of the list
pub none_left : (ls : List Lit) (i : ℕ) (m : LitTable) → length ls ≤ i → Covers (drop i ls) m → (b : Bool) (x : Lit) → (b || marked m x) ≡ b
unfolding has_lit
none_left ls i m h c b x =
    let none : drop i ls ≡ [] = nil_from_length (drop i ls) (omega (arith, length-drop i ls)) in
    elim (cases_Bool (marked m x)) [
      | inl t ↦ let bad : has_lit [] x ≡ true = subst (λ (r : List Lit). has_lit r x ≡ true) none (c x t) in cc
      | inr f ↦ sym (or_false b (marked m x) f)
    ]
