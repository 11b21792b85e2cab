-- What the clauses of each gate say.
use Rattle.std.proofs.Common.{ℕ, ◌≡◌, ◌<◌, ◌+◌, Bool, true, false, not, ◌&&◌, ◌||◌, if◌then◌else◌, List, [], ◌∷◌, ◌++◌, refl, ap, ◌∙◌, sym, append_assoc}
use Rattle.refute_check.specs.declared.lit.Lit.{Lit}
use Rattle.refute_check.specs.Truth.{flipped, lit_true, clause_true, all_true, list_below}
use Rattle.refute_check.proofs.TruthLemmas.{flipped_true}
use Rattle.bit_gates.specs.Bits.{exclusive_or}
use Rattle.bit_gates.specs.Grows.{IsConservative}
use Rattle.bit_gates.proofs.RangeLemmas.{all_true_parts, lit_same}
use Rattle.bit_gates.proofs.ExtendLemmas.{defines, updated, updated_same, updated_other}

-- the literal of a variable
abbrev pub at : ℕ → Lit
at n = record { var = n; positive = true }

pub at_updated : (a : ℕ → Bool) (n : ℕ) (v : Bool) → lit_true (updated a n v) (at n) ≡ v
unfolding lit_true
at_updated a n v = updated_same a n v

pub lit_updated : (a : ℕ → Bool) (n : ℕ) (v : Bool) (x : Lit) → x.var < n → lit_true (updated a n v) x ≡ lit_true a x
lit_updated a n v x h = lit_same n a (updated a n v) x (λ k l. updated_other a n v k l) h

-- and
abbrev pub and_clauses : Lit → Lit → Lit → List (List Lit)
and_clauses z x y = (flipped z ∷ x ∷ []) ∷ (flipped z ∷ y ∷ []) ∷ (z ∷ flipped x ∷ flipped y ∷ []) ∷ []

abbrev and_test : Bool → Bool → Bool → Bool
and_test z x y = ((not z || (x || false)) && ((not z || (y || false)) && ((z || (not x || (not y || false))) && true)))

and_clauses_true : (a : ℕ → Bool) (z x y : Lit) → all_true a (and_clauses z x y) ≡ and_test (lit_true a z) (lit_true a x) (lit_true a y)
unfolding clause_true all_true
and_clauses_true a z x y = simp flipped_true

and_test_holds : (x y : Bool) → and_test (x && y) x y ≡ true
and_test_holds true true = refl
and_test_holds true false = refl
and_test_holds false true = refl
and_test_holds false false = refl

and_test_means : (z x y : Bool) → and_test z x y ≡ true → z ≡ (x && y)
and_test_means true true true h = refl
and_test_means true true false h = cc
and_test_means true false true h = cc
and_test_means true false false h = cc
and_test_means false true true h = cc
and_test_means false true false h = refl
and_test_means false false true h = refl
and_test_means false false false h = refl

pub and_extends : (n : ℕ) (cs es : List (List Lit)) (x y : Lit) → list_below n cs ≡ true → x.var < n → y.var < n → es ≡ cs ++ and_clauses (at n) x y → IsConservative n cs (n + 1) es
and_extends n cs es x y s h0 h1 e =
    defines n cs (and_clauses (at n) x y) es (λ a. lit_true a x && lit_true a y) s e
    (λ a.
    let v : Bool = lit_true a x && lit_true a y in
    let b : ℕ → Bool = updated a n v in
    and_clauses_true b (at n) x y
    ∙ ap (λ (z : Bool). and_test z (lit_true b x) (lit_true b y)) (at_updated a n v)
    ∙ ap (λ (z : Bool). and_test v z (lit_true b y)) (lit_updated a n v x h0)
    ∙ ap (λ (z : Bool). and_test v (lit_true a x) z) (lit_updated a n v y h1)
    ∙ and_test_holds (lit_true a x) (lit_true a y))

pub and_means : (a : ℕ → Bool) (cs es : List (List Lit)) (z x y : Lit) → es ≡ cs ++ and_clauses z x y → all_true a es ≡ true → lit_true a z ≡ (lit_true a x && lit_true a y)
and_means a cs es z x y e h =
    let t = (all_true_parts a cs (and_clauses z x y) (ap (all_true a) (sym e) ∙ h)).1 in
    and_test_means (lit_true a z) (lit_true a x) (lit_true a y) (sym (and_clauses_true a z x y) ∙ t)

pub and_added : (cs d1 d2 es : List (List Lit)) (z x y not_x not_y not_z : Lit) → not_x ≡ flipped x → not_y ≡ flipped y → not_z ≡ flipped z → d1 ≡ cs ++ (not_z ∷ x ∷ []) ∷ [] → d2 ≡ d1 ++ (not_z ∷ y ∷ []) ∷ [] → es ≡ d2 ++ (z ∷ not_x ∷ not_y ∷ []) ∷ [] → es ≡ cs ++ and_clauses z x y
and_added cs d1 d2 es z x y not_x not_y not_z n0 n1 n2 e0 e1 e2 = rw (e2, e1, e0, n0, n1, n2) (simp append_assoc)

-- xor
abbrev pub xor_clauses : Lit → Lit → Lit → List (List Lit)
xor_clauses z x y = (flipped z ∷ x ∷ y ∷ []) ∷ (flipped z ∷ flipped x ∷ flipped y ∷ []) ∷ (z ∷ flipped x ∷ y ∷ []) ∷ (z ∷ x ∷ flipped y ∷ []) ∷ []

abbrev xor_test : Bool → Bool → Bool → Bool
xor_test z x y = ((not z || (x || (y || false))) && ((not z || (not x || (not y || false))) && ((z || (not x || (y || false))) && ((z || (x || (not y || false))) && true))))

xor_clauses_true : (a : ℕ → Bool) (z x y : Lit) → all_true a (xor_clauses z x y) ≡ xor_test (lit_true a z) (lit_true a x) (lit_true a y)
unfolding clause_true all_true
xor_clauses_true a z x y = simp flipped_true

xor_test_holds : (x y : Bool) → xor_test (exclusive_or x y) x y ≡ true
xor_test_holds true true = refl
xor_test_holds true false = refl
xor_test_holds false true = refl
xor_test_holds false false = refl

xor_test_means : (z x y : Bool) → xor_test z x y ≡ true → z ≡ (exclusive_or x y)
xor_test_means true true true h = cc
xor_test_means true true false h = refl
xor_test_means true false true h = refl
xor_test_means true false false h = cc
xor_test_means false true true h = refl
xor_test_means false true false h = cc
xor_test_means false false true h = cc
xor_test_means false false false h = refl

pub xor_extends : (n : ℕ) (cs es : List (List Lit)) (x y : Lit) → list_below n cs ≡ true → x.var < n → y.var < n → es ≡ cs ++ xor_clauses (at n) x y → IsConservative n cs (n + 1) es
xor_extends n cs es x y s h0 h1 e =
    defines n cs (xor_clauses (at n) x y) es (λ a. exclusive_or (lit_true a x) (lit_true a y)) s e
    (λ a.
    let v : Bool = exclusive_or (lit_true a x) (lit_true a y) in
    let b : ℕ → Bool = updated a n v in
    xor_clauses_true b (at n) x y
    ∙ ap (λ (z : Bool). xor_test z (lit_true b x) (lit_true b y)) (at_updated a n v)
    ∙ ap (λ (z : Bool). xor_test v z (lit_true b y)) (lit_updated a n v x h0)
    ∙ ap (λ (z : Bool). xor_test v (lit_true a x) z) (lit_updated a n v y h1)
    ∙ xor_test_holds (lit_true a x) (lit_true a y))

pub xor_means : (a : ℕ → Bool) (cs es : List (List Lit)) (z x y : Lit) → es ≡ cs ++ xor_clauses z x y → all_true a es ≡ true → lit_true a z ≡ (exclusive_or (lit_true a x) (lit_true a y))
xor_means a cs es z x y e h =
    let t = (all_true_parts a cs (xor_clauses z x y) (ap (all_true a) (sym e) ∙ h)).1 in
    xor_test_means (lit_true a z) (lit_true a x) (lit_true a y) (sym (xor_clauses_true a z x y) ∙ t)

pub xor_added : (cs d1 d2 d3 es : List (List Lit)) (z x y not_x not_y not_z : Lit) → not_x ≡ flipped x → not_y ≡ flipped y → not_z ≡ flipped z → d1 ≡ cs ++ (not_z ∷ x ∷ y ∷ []) ∷ [] → d2 ≡ d1 ++ (not_z ∷ not_x ∷ not_y ∷ []) ∷ [] → d3 ≡ d2 ++ (z ∷ not_x ∷ y ∷ []) ∷ [] → es ≡ d3 ++ (z ∷ x ∷ not_y ∷ []) ∷ [] → es ≡ cs ++ xor_clauses z x y
xor_added cs d1 d2 d3 es z x y not_x not_y not_z n0 n1 n2 e0 e1 e2 e3 = rw (e3, e2, e1, e0, n0, n1, n2) (simp append_assoc)

-- mux
abbrev pub mux_clauses : Lit → Lit → Lit → Lit → List (List Lit)
mux_clauses z s x y = (flipped z ∷ flipped s ∷ x ∷ []) ∷ (z ∷ flipped s ∷ flipped x ∷ []) ∷ (flipped z ∷ s ∷ y ∷ []) ∷ (z ∷ s ∷ flipped y ∷ []) ∷ []

abbrev mux_test : Bool → Bool → Bool → Bool → Bool
mux_test z s x y = ((not z || (not s || (x || false))) && ((z || (not s || (not x || false))) && ((not z || (s || (y || false))) && ((z || (s || (not y || false))) && true))))

mux_clauses_true : (a : ℕ → Bool) (z s x y : Lit) → all_true a (mux_clauses z s x y) ≡ mux_test (lit_true a z) (lit_true a s) (lit_true a x) (lit_true a y)
unfolding clause_true all_true
mux_clauses_true a z s x y = simp flipped_true

mux_test_holds : (s x y : Bool) → mux_test (if s then x else y) s x y ≡ true
mux_test_holds true true true = refl
mux_test_holds true true false = refl
mux_test_holds true false true = refl
mux_test_holds true false false = refl
mux_test_holds false true true = refl
mux_test_holds false true false = refl
mux_test_holds false false true = refl
mux_test_holds false false false = refl

mux_test_means : (z s x y : Bool) → mux_test z s x y ≡ true → z ≡ (if s then x else y)
mux_test_means true true true true h = refl
mux_test_means true true true false h = refl
mux_test_means true true false true h = cc
mux_test_means true true false false h = cc
mux_test_means true false true true h = refl
mux_test_means true false true false h = cc
mux_test_means true false false true h = refl
mux_test_means true false false false h = cc
mux_test_means false true true true h = cc
mux_test_means false true true false h = cc
mux_test_means false true false true h = refl
mux_test_means false true false false h = refl
mux_test_means false false true true h = cc
mux_test_means false false true false h = refl
mux_test_means false false false true h = cc
mux_test_means false false false false h = refl

pub mux_extends : (n : ℕ) (cs es : List (List Lit)) (s x y : Lit) → list_below n cs ≡ true → s.var < n → x.var < n → y.var < n → es ≡ cs ++ mux_clauses (at n) s x y → IsConservative n cs (n + 1) es
mux_extends n cs es s x y below h0 h1 h2 e =
    defines n cs (mux_clauses (at n) s x y) es (λ a. if lit_true a s then lit_true a x else lit_true a y) below e
    (λ a.
    let v : Bool = if lit_true a s then lit_true a x else lit_true a y in
    let b : ℕ → Bool = updated a n v in
    mux_clauses_true b (at n) s x y
    ∙ ap (λ (z : Bool). mux_test z (lit_true b s) (lit_true b x) (lit_true b y)) (at_updated a n v)
    ∙ ap (λ (z : Bool). mux_test v z (lit_true b x) (lit_true b y)) (lit_updated a n v s h0)
    ∙ ap (λ (z : Bool). mux_test v (lit_true a s) z (lit_true b y)) (lit_updated a n v x h1)
    ∙ ap (λ (z : Bool). mux_test v (lit_true a s) (lit_true a x) z) (lit_updated a n v y h2)
    ∙ mux_test_holds (lit_true a s) (lit_true a x) (lit_true a y))

pub mux_means : (a : ℕ → Bool) (cs es : List (List Lit)) (z s x y : Lit) → es ≡ cs ++ mux_clauses z s x y → all_true a es ≡ true → lit_true a z ≡ (if lit_true a s then lit_true a x else lit_true a y)
mux_means a cs es z s x y e h =
    let t = (all_true_parts a cs (mux_clauses z s x y) (ap (all_true a) (sym e) ∙ h)).1 in
    mux_test_means (lit_true a z) (lit_true a s) (lit_true a x) (lit_true a y) (sym (mux_clauses_true a z s x y) ∙ t)

pub mux_added : (cs d1 d2 d3 es : List (List Lit)) (z s x y not_s not_x not_y not_z : Lit) → not_s ≡ flipped s → not_x ≡ flipped x → not_y ≡ flipped y → not_z ≡ flipped z → d1 ≡ cs ++ (not_z ∷ not_s ∷ x ∷ []) ∷ [] → d2 ≡ d1 ++ (z ∷ not_s ∷ not_x ∷ []) ∷ [] → d3 ≡ d2 ++ (not_z ∷ s ∷ y ∷ []) ∷ [] → es ≡ d3 ++ (z ∷ s ∷ not_y ∷ []) ∷ [] → es ≡ cs ++ mux_clauses z s x y
mux_added cs d1 d2 d3 es z s x y not_s not_x not_y not_z n0 n1 n2 n3 e0 e1 e2 e3 = rw (e3, e2, e1, e0, n0, n1, n2, n3) (simp append_assoc)
