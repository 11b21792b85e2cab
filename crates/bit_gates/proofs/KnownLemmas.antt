-- Literals whose truth value is known, and what gates make of them.
use Rattle.std.proofs.Common.{ℕ, ◌⊎◌, inl, inr, ◌≡◌, ◌<◌, ◌≤◌, Bool, true, false, not, ◌&&◌, ◌||◌, if◌then◌else◌, List, [], ◌∷◌, ◌++◌, Result, Ok, Err, IfOk, OnOk, OnErr, refl, ap, ◌∙◌, sym, arith}
use Rattle.refute_check.specs.declared.lit.Lit.{Lit}
use Rattle.refute_check.specs.Truth.{flipped, lit_true, clause_true, all_true, clause_below, list_below}
use Rattle.refute_check.specs.Literals.{same_lit}
use Rattle.refute_check.proofs.TruthLemmas.{flipped_true}
use Rattle.refute_check.proofs.LitLemmas.{same_lit_eq}
use Rattle.bit_gates.specs.declared.builder.Builder.{Builder}
use Rattle.bit_gates.specs.Bits.{constant_lit, toggled, exclusive_or, Grounded}
use Rattle.bit_gates.specs.Grows.{Grows, Holds}
use Rattle.bit_gates.specs.Meaning.{HasLit, IsBit}
use Rattle.bit_gates.proofs.RangeLemmas.{all_true_parts}

-- both cases of a test
pub by_cases : (P : Type 0) (v : Bool) → (v ≡ true → P) → (v ≡ false → P) → P
by_cases P true f g = f refl
by_cases P false f g = g refl

pub lit_constant : (a : ℕ → Bool) (v : Bool) → a 0 ≡ true → lit_true a (constant_lit v) ≡ v
unfolding lit_true
lit_constant a true h = h
lit_constant a false h = ap not h

-- the truth value of a constant
pub known : (b : Builder) (l : Lit) (v : Bool) (a : ℕ → Bool) → l ≡ constant_lit v → Holds b a → lit_true a l ≡ v
known b l v a e o = ap (lit_true a) e ∙ lit_constant a v (b.grounded a o)

-- a literal of the first variable is a constant
pub is_constant : (l : Lit) → l.var ≡ 0 → l ≡ constant_lit l.positive
is_constant l e = let f : ℕ → Lit = λ n. record { var = n; positive = l.positive } in ap f e

pub has_constant : (b : Builder) (l : Lit) (v : Bool) → l ≡ constant_lit v → HasLit b l
has_constant b l v e = rw e b.some

-- what the test for the same literal says
pub same_from : (k l : Lit) → true ≡ same_lit k l → k ≡ l
same_from k l e = same_lit_eq k l (sym e)

pub same_constant : (k c : Lit) (v : Bool) → true ≡ same_lit k c → c ≡ constant_lit v → k ≡ constant_lit v
same_constant k c v e f = same_from k c e ∙ f

-- what follows from both outcomes of a call
pub on_both : {T E A B P : Type 0} (r : Result T E) → OnOk r A → OnErr r B → (A → P) → (B → P) → P
on_both (Ok x) h k f g = f h
on_both (Err x) h k f g = g k

-- a fact of an answer, changed by another fact of that outcome
pub if_ok_with : {T E G : Type 0} (r : Result T E) (P Q : T → Type 0) → (G → (z : T) → P z → Q z) → OnOk r G → IfOk r P → IfOk r Q
if_ok_with (Ok z) P Q f g h = f g z h
if_ok_with (Err e) P Q f g h = h

-- a fact of one outcome, changed
pub on_ok_after : {T E G H : Type 0} (r : Result T E) → (G → H) → OnOk r G → OnOk r H
on_ok_after (Ok z) f g = f g
on_ok_after (Err e) f g = g

-- a fact of the first clause
only : (v : Bool) → ((v || false) && true) ≡ true → v ≡ true
only true h = refl
only false h = h

pub one_true : (a : ℕ → Bool) (l : Lit) → all_true a ((l ∷ []) ∷ []) ≡ true → lit_true a l ≡ true
unfolding all_true clause_true
one_true a l h = only (lit_true a l) h

true_once : (v : Bool) → v ≡ true → ((v || false) && true) ≡ true
true_once true h = refl
true_once false h = h

pub true_one : (a : ℕ → Bool) (l : Lit) → lit_true a l ≡ true → all_true a ((l ∷ []) ∷ []) ≡ true
unfolding all_true clause_true
true_one a l h = true_once (lit_true a l) h

pub first_added : (es ds : List (List Lit)) (c : List Lit) (k : Lit) → es ≡ ds ++ c ∷ [] → ds ≡ [] → c ≡ k ∷ [] → k ≡ constant_lit true → es ≡ (constant_lit true ∷ []) ∷ []
first_added es ds c k e f g h = rw (e, f, g, h) refl

pub first_below : (cs : List (List Lit)) → cs ≡ (constant_lit true ∷ []) ∷ [] → list_below 1 cs ≡ true
unfolding list_below clause_below
first_below cs e = ap (list_below 1) e

pub grounded_first : (cs : List (List Lit)) → cs ≡ (constant_lit true ∷ []) ∷ [] → Grounded cs
unfolding lit_true
grounded_first cs e = λ a h. one_true a (constant_lit true) (ap (all_true a) (sym e) ∙ h)

pub grounded_same : (cs ds : List (List Lit)) → ds ≡ cs → Grounded cs → Grounded ds
grounded_same cs ds e g = λ a h. g a (ap (all_true a) (sym e) ∙ h)

pub grounded_more : (cs ds : List (List Lit)) (c : List Lit) → ds ≡ cs ++ c ∷ [] → Grounded cs → Grounded ds
grounded_more cs ds c e g = λ a h. g a (all_true_parts a cs (c ∷ []) (ap (all_true a) (sym e) ∙ h)).0

-- ---- the same literal with another meaning
pub bit_same : {b : Builder} {z : Lit} {f : (ℕ → Bool) → Bool} (g : (ℕ → Bool) → Bool) → IsBit b z f → ((a : ℕ → Bool) → Holds b a → f a ≡ g a) → IsBit b z g
bit_same g h k = record { in_range = h.in_range; means = λ a o. h.means a o ∙ k a o }

pub bit_kept : {b b' : Builder} {z : Lit} {f : (ℕ → Bool) → Bool} → IsBit b z f → Grows b b' → IsBit b' z f
bit_kept {b} {b'} {z} {f} h g = record {
  in_range = let l : z.var < b.clauses.vars = h.in_range in let m : b.clauses.vars ≤ b'.clauses.vars = g.grows in omega arith;
  means = λ a o. h.means a (g.keeps a o);
}

pub bit_flipped : {b : Builder} {z : Lit} {f : (ℕ → Bool) → Bool} (y : Lit) → IsBit b z f → y ≡ flipped z → IsBit b y (λ a. not (f a))
bit_flipped {b} {z} {f} y h e = record {
  in_range = rw e h.in_range;
  means = λ a o. ap (lit_true a) e ∙ flipped_true a z ∙ ap not (h.means a o);
}

-- ---- and
and_right_true : (v : Bool) → (v && true) ≡ v
and_right_true true = refl
and_right_true false = refl

and_right_false : (v : Bool) → (v && false) ≡ false
and_right_false true = refl
and_right_false false = refl

and_both : (v : Bool) → v ≡ (v && v)
and_both true = refl
and_both false = refl

and_opposite : (v : Bool) → (not v && v) ≡ false
and_opposite true = refl
and_opposite false = refl

pub and_left : (b : Builder) (x y : Lit) → x ≡ constant_lit true → HasLit b y → IsBit b y (λ a. lit_true a x && lit_true a y)
and_left b x y e h = record { in_range = h; means = λ a o. sym (ap (λ (v : Bool). v && lit_true a y) (known b x true a e o)) }

pub and_same : (b : Builder) (x y : Lit) → x ≡ y → HasLit b y → IsBit b y (λ a. lit_true a x && lit_true a y)
and_same b x y e h = record { in_range = h; means = λ a o. and_both (lit_true a y) ∙ ap (λ (l : Lit). lit_true a l && lit_true a y) (sym e) }

pub and_right : (b : Builder) (x y : Lit) → y ≡ constant_lit true → HasLit b x → IsBit b x (λ a. lit_true a x && lit_true a y)
and_right b x y e h = record { in_range = h; means = λ a o. sym (ap (λ (v : Bool). lit_true a x && v) (known b y true a e o) ∙ and_right_true (lit_true a x)) }

pub and_left_false : (b : Builder) (x y z : Lit) → z ≡ constant_lit false → x ≡ constant_lit false → IsBit b z (λ a. lit_true a x && lit_true a y)
and_left_false b x y z q e = record { in_range = has_constant b z false q; means = λ a o. known b z false a q o ∙ sym (ap (λ (v : Bool). v && lit_true a y) (known b x false a e o)) }

pub and_right_none : (b : Builder) (x y z : Lit) → z ≡ constant_lit false → y ≡ constant_lit false → IsBit b z (λ a. lit_true a x && lit_true a y)
and_right_none b x y z q e = record { in_range = has_constant b z false q; means = λ a o. known b z false a q o ∙ sym (ap (λ (v : Bool). lit_true a x && v) (known b y false a e o) ∙ and_right_false (lit_true a x)) }

pub and_opposites : (b : Builder) (x y z : Lit) → z ≡ constant_lit false → x ≡ flipped y → IsBit b z (λ a. lit_true a x && lit_true a y)
and_opposites b x y z q e = record {
  in_range = has_constant b z false q;
  means = λ a o. known b z false a q o ∙ sym (ap (λ (v : Bool). v && lit_true a y) (ap (lit_true a) e ∙ flipped_true a y) ∙ and_opposite (lit_true a y));
}

-- ---- or
or_by_and : (u v : Bool) → not (not u && not v) ≡ (u || v)
or_by_and true true = refl
or_by_and true false = refl
or_by_and false true = refl
or_by_and false false = refl

pub or_from_and : (b : Builder) (x y p q r z : Lit) → p ≡ flipped x → q ≡ flipped y → IsBit b r (λ a. lit_true a p && lit_true a q) → z ≡ flipped r → IsBit b z (λ a. lit_true a x || lit_true a y)
or_from_and b x y p q r z e f h g = bit_same (λ a. lit_true a x || lit_true a y) (bit_flipped z h g)
    (λ a o.
    ap (λ (v : Bool). not (v && lit_true a q)) (ap (lit_true a) e ∙ flipped_true a x)
    ∙ ap (λ (v : Bool). not (not (lit_true a x) && v)) (ap (lit_true a) f ∙ flipped_true a y)
    ∙ or_by_and (lit_true a x) (lit_true a y))

-- ---- exclusive or
xor_self : (v : Bool) → exclusive_or v v ≡ false
xor_self true = refl
xor_self false = refl

xor_opposite : (v : Bool) → exclusive_or (not v) v ≡ true
xor_opposite true = refl
xor_opposite false = refl

xor_comm : (u v : Bool) → exclusive_or u v ≡ exclusive_or v u
xor_comm true true = refl
xor_comm true false = refl
xor_comm false true = refl
xor_comm false false = refl

pub lit_toggled : (a : ℕ → Bool) (v : Bool) (l : Lit) → lit_true a (toggled v l) ≡ exclusive_or v (lit_true a l)
lit_toggled a true l = flipped_true a l
lit_toggled a false l = refl

has_toggled : (b : Builder) (v : Bool) (l : Lit) → HasLit b l → HasLit b (toggled v l)
has_toggled b true l h = h
has_toggled b false l h = h

pub xor_same : (b : Builder) (x y z : Lit) → z ≡ constant_lit false → x ≡ y → IsBit b z (λ a. exclusive_or (lit_true a x) (lit_true a y))
xor_same b x y z q e = record {
  in_range = has_constant b z false q;
  means = λ a o. known b z false a q o ∙ sym (ap (λ (l : Lit). exclusive_or (lit_true a l) (lit_true a y)) e ∙ xor_self (lit_true a y));
}

pub xor_opposites : (b : Builder) (x y z : Lit) → z ≡ constant_lit true → x ≡ flipped y → IsBit b z (λ a. exclusive_or (lit_true a x) (lit_true a y))
xor_opposites b x y z q e = record {
  in_range = has_constant b z true q;
  means = λ a o. known b z true a q o ∙ sym (ap (λ (v : Bool). exclusive_or v (lit_true a y)) (ap (lit_true a) e ∙ flipped_true a y) ∙ xor_opposite (lit_true a y));
}

pub xor_left : (b : Builder) (x y z : Lit) → x.var ≡ 0 → z ≡ toggled x.positive y → HasLit b y → IsBit b z (λ a. exclusive_or (lit_true a x) (lit_true a y))
xor_left b x y z e q h = record {
  in_range = rw q (has_toggled b x.positive y h);
  means = λ a o.
      ap (lit_true a) q ∙ lit_toggled a x.positive y
      ∙ ap (λ (v : Bool). exclusive_or v (lit_true a y)) (sym (known b x x.positive a (is_constant x e) o));
}

pub xor_right : (b : Builder) (x y z : Lit) → y.var ≡ 0 → z ≡ toggled y.positive x → HasLit b x → IsBit b z (λ a. exclusive_or (lit_true a x) (lit_true a y))
xor_right b x y z e q h = bit_same (λ a. exclusive_or (lit_true a x) (lit_true a y)) (xor_left b y x z e q h) (λ a o. xor_comm (lit_true a y) (lit_true a x))

-- ---- choices
choice_same : (s v : Bool) → (if s then v else v) ≡ v
choice_same true v = refl
choice_same false v = refl

choice_or : (s x y : Bool) → (s ≡ true → x ≡ true) → (s || y) ≡ (if s then x else y)
choice_or true x y h = sym (h refl)
choice_or false x y h = refl

choice_and_not : (s x y : Bool) → (s ≡ true → x ≡ false) → (not s && y) ≡ (if s then x else y)
choice_and_not true x y h = sym (h refl)
choice_and_not false x y h = refl

choice_or_not : (s x y : Bool) → (s ≡ false → y ≡ true) → (not s || x) ≡ (if s then x else y)
choice_or_not true x y h = refl
choice_or_not false x y h = sym (h refl)

choice_and : (s x y : Bool) → (s ≡ false → y ≡ false) → (s && x) ≡ (if s then x else y)
choice_and true x y h = refl
choice_and false x y h = sym (h refl)

abbrev chosen : Lit → Lit → Lit → (ℕ → Bool) → Bool
chosen s x y a = if lit_true a s then lit_true a x else lit_true a y

pub mux_same : (b : Builder) (s x y : Lit) → x ≡ y → HasLit b x → IsBit b x (λ a. if lit_true a s then lit_true a x else lit_true a y)
mux_same b s x y e h = record { in_range = h; means = λ a o. sym (ap (λ (l : Lit). if lit_true a s then lit_true a x else lit_true a l) (sym e) ∙ choice_same (lit_true a s) (lit_true a x)) }

pub mux_first : (b : Builder) (s x y : Lit) → s ≡ constant_lit true → HasLit b x → IsBit b x (λ a. if lit_true a s then lit_true a x else lit_true a y)
mux_first b s x y e h = record { in_range = h; means = λ a o. sym (ap (λ (v : Bool). if v then lit_true a x else lit_true a y) (known b s true a e o)) }

pub mux_second : (b : Builder) (s x y : Lit) → s ≡ constant_lit false → HasLit b y → IsBit b y (λ a. if lit_true a s then lit_true a x else lit_true a y)
mux_second b s x y e h = record { in_range = h; means = λ a o. sym (ap (λ (v : Bool). if v then lit_true a x else lit_true a y) (known b s false a e o)) }

-- what is known of an input where s has a truth value
same_input : (a : ℕ → Bool) (s x : Lit) (v : Bool) → x ≡ s → lit_true a s ≡ v → lit_true a x ≡ v
same_input a s x v e h = ap (lit_true a) e ∙ h

other_input : (a : ℕ → Bool) (s t x : Lit) (v : Bool) → x ≡ t → t ≡ flipped s → lit_true a s ≡ v → lit_true a x ≡ not v
other_input a s t x v e f h = ap (lit_true a) (e ∙ f) ∙ flipped_true a s ∙ ap not h

pub mux_or : (b : Builder) (s x y z : Lit) → (x ≡ constant_lit true) ⊎ (x ≡ s) → IsBit b z (λ a. lit_true a s || lit_true a y) → IsBit b z (λ a. if lit_true a s then lit_true a x else lit_true a y)
mux_or b s x y z e h = bit_same (chosen s x y) h
    (λ a o. choice_or (lit_true a s) (lit_true a x) (lit_true a y) (λ q. elim e [ inl f ↦ known b x true a f o | inr f ↦ same_input a s x true f q ]))

pub mux_and_not : (b : Builder) (s t x y z : Lit) → t ≡ flipped s → (x ≡ constant_lit false) ⊎ (x ≡ t) → IsBit b z (λ a. lit_true a t && lit_true a y) → IsBit b z (λ a. if lit_true a s then lit_true a x else lit_true a y)
mux_and_not b s t x y z d e h = bit_same (chosen s x y) h
    (λ a o.
    ap (λ (v : Bool). v && lit_true a y) (ap (lit_true a) d ∙ flipped_true a s)
    ∙ choice_and_not (lit_true a s) (lit_true a x) (lit_true a y) (λ q. elim e [ inl f ↦ known b x false a f o | inr f ↦ other_input a s t x true f d q ]))

pub mux_or_not : (b : Builder) (s t x y z : Lit) → t ≡ flipped s → (y ≡ constant_lit true) ⊎ (y ≡ t) → IsBit b z (λ a. lit_true a t || lit_true a x) → IsBit b z (λ a. if lit_true a s then lit_true a x else lit_true a y)
mux_or_not b s t x y z d e h = bit_same (chosen s x y) h
    (λ a o.
    ap (λ (v : Bool). v || lit_true a x) (ap (lit_true a) d ∙ flipped_true a s)
    ∙ choice_or_not (lit_true a s) (lit_true a x) (lit_true a y) (λ q. elim e [ inl f ↦ known b y true a f o | inr f ↦ other_input a s t y false f d q ]))

pub mux_and : (b : Builder) (s x y z : Lit) → (y ≡ constant_lit false) ⊎ (y ≡ s) → IsBit b z (λ a. lit_true a s && lit_true a x) → IsBit b z (λ a. if lit_true a s then lit_true a x else lit_true a y)
mux_and b s x y z e h = bit_same (chosen s x y) h
    (λ a o. choice_and (lit_true a s) (lit_true a x) (lit_true a y) (λ q. elim e [ inl f ↦ known b y false a f o | inr f ↦ same_input a s y false f q ]))
