-- List (Option Tree) variables, and how what is known of their valuations grows.
use Rattle.std.proofs.Common.{rules, arith, ◌≡◌, ◌↔◌, ℕ, zero, suc, ◌<◌, Bool, true, false, IsTrue, List, [], ◌∷◌, length, map, take, slice_get, slice_set, slice_index_or, Option, Some, None, refl, sym, ap, ◌∙◌, ◌⊎◌, inl, inr}
use Rattle.std.specs.Prelude.{replicate}
use Rattle.data_value.specs.declared.Value.{Value}
use Rattle.data_value.specs.Nodes.{Seen}
use Rattle.data_value.specs.Ground.{ground_seen}
use Rattle.sort_term.specs.declared.term.Term.{Term}
use Rattle.sort_term.specs.Tree.{Tree, Trees, tree_at}
use Rattle.sort_term.specs.NodeTerms.{seen_term, tree_of}
use Rattle.sort_term.proofs.GroundTerms.{ground_tree}
use Rattle.unify.specs.Binds.{bound_at}
use Rattle.unify.proofs.Evaluated.{bound_seen}
use Rattle.ground_step.specs.GroundBinds.{ground_binds, AgreesGround, Restricts}

-- the tree of a variable that is bound to a term over nodes
pub tree_there : (bs : List (Option Tree)) (i : ℕ) (t : Term (Seen Value)) → bound_at (ground_binds bs) i ≡ Some t → (u : Tree) × (slice_get bs i ≡ Some (Some u)) × (t ≡ seen_term ground_seen u)
tree_there [] i t h = absurd (cc)
tree_there (None ∷ bs) zero t h = absurd (cc)
tree_there (Some u ∷ bs) zero t h = (u, refl, cc)
tree_there (b ∷ bs) (suc i) t h = tree_there bs i t h

-- a valuation agrees with bound trees exactly where it gives each bound variable its tree
pub agrees_at : (bs : List (Option Tree)) (v : Trees) (i : ℕ) (x : Tree) → AgreesGround bs v → slice_get bs i ≡ Some (Some x) → x ≡ tree_at v i
agrees_at bs v i x a h = sym (a.at i (seen_term ground_seen x) (bound_seen ground_seen bs i x h) ∙ ground_tree [] x)

pub agrees_from : (bs : List (Option Tree)) (v : Trees) → ((i : ℕ) (x : Tree) → slice_get bs i ≡ Some (Some x) → tree_at v i ≡ x) → AgreesGround bs v
agrees_from bs v each = record { at = λ i t h. let u = tree_there bs i t h in each i u.0 u.1 ∙ sym (ground_tree [] u.0) ∙ ap (tree_of []) (sym u.2) }

pub agrees_tail : (b : Option Tree) (bs : List (Option Tree)) (t : Tree) (v : Trees) → AgreesGround (b ∷ bs) (t ∷ v) → AgreesGround bs v
agrees_tail b bs t v a = record { at = λ i u h. a.at (suc i) u h }

pub restricts_old : (bs : List (Option Tree)) (i : ℕ) (x t : Tree) (ok : Bool) → slice_get bs i ≡ Some (Some x) → (IsTrue ok ↔ (x ≡ t)) → Restricts bs bs ok (λ v. tree_at v i ≡ t)
restricts_old bs i x t ok h d = record {
  keeps = refl;
  sound = λ v a y. (a, sym (agrees_at bs v i x a h) ∙ d.0 y);
  complete = λ v a e. (d.1 (agrees_at bs v i x a h ∙ e), a);
}

-- what is bound after a variable that was free is bound to a tree
set_there : (bs : List (Option Tree)) (i : ℕ) (t : Tree) → slice_get bs i ≡ Some None → slice_get (slice_set bs i (Some t)) i ≡ Some (Some t)
set_there [] i t h = absurd (cc)
set_there (b ∷ bs) zero t h = refl
set_there (b ∷ bs) (suc i) t h = set_there bs i t h

set_keeps : (bs : List (Option Tree)) (i j : ℕ) (t x : Tree) → slice_get bs i ≡ Some None → slice_get bs j ≡ Some (Some x) → slice_get (slice_set bs i (Some t)) j ≡ Some (Some x)
set_keeps [] i j t x h g = absurd (cc)
set_keeps (b ∷ bs) zero zero t x h g = absurd (let q : Some None ≡ Some (Some x) = sym h ∙ g in cc)
set_keeps (b ∷ bs) zero (suc j) t x h g = g
set_keeps (b ∷ bs) (suc i) zero t x h g = g
set_keeps (b ∷ bs) (suc i) (suc j) t x h g = set_keeps bs i j t x h g

set_cases : (bs : List (Option Tree)) (i j : ℕ) (t x : Tree) → slice_get (slice_set bs i (Some t)) j ≡ Some (Some x) → ((j ≡ i) × (t ≡ x)) ⊎ (slice_get bs j ≡ Some (Some x))
set_cases [] i j t x g = absurd (cc)
set_cases (b ∷ bs) zero zero t x g = inl (refl, cc)
set_cases (b ∷ bs) zero (suc j) t x g = inr g
set_cases (b ∷ bs) (suc i) zero t x g = inr g
set_cases (b ∷ bs) (suc i) (suc j) t x g = go (set_cases bs i j t x g)
  where
    go : ((j ≡ i) × (t ≡ x)) ⊎ (slice_get bs j ≡ Some (Some x)) → ((suc j ≡ suc i) × (t ≡ x)) ⊎ (slice_get bs j ≡ Some (Some x))
    go (inl e) = inl (ap suc e.0, e.1)
    go (inr k) = inr k

agrees_more : (bs : List (Option Tree)) (v : Trees) (i : ℕ) (t : Tree) → AgreesGround bs v → tree_at v i ≡ t → AgreesGround (slice_set bs i (Some t)) v
agrees_more bs v i t a e = agrees_from (slice_set bs i (Some t)) v (λ j x g. go j x (set_cases bs i j t x g))
  where
    go : (j : ℕ) (x : Tree) → ((j ≡ i) × (t ≡ x)) ⊎ (slice_get bs j ≡ Some (Some x)) → tree_at v j ≡ x
    go j x (inl s) = ap (λ k. tree_at v k) s.0 ∙ e ∙ s.1
    go j x (inr g) = sym (agrees_at bs v j x a g)

agrees_less : (bs : List (Option Tree)) (v : Trees) (i : ℕ) (t : Tree) → slice_get bs i ≡ Some None → AgreesGround (slice_set bs i (Some t)) v → AgreesGround bs v × (tree_at v i ≡ t)
agrees_less bs v i t h a = (
  agrees_from bs v (λ j x g. sym (agrees_at (slice_set bs i (Some t)) v j x a (set_keeps bs i j t x h g))),
  sym (agrees_at (slice_set bs i (Some t)) v i t a (set_there bs i t h)),
)

pub restricts_new : (bs : List (Option Tree)) (i : ℕ) (t : Tree) → slice_get bs i ≡ Some None → Restricts bs (slice_set bs i (Some t)) true (λ v. tree_at v i ≡ t)
restricts_new bs i t h = record {
  keeps = search rules;
  sound = λ v a y. agrees_less bs v i t h a;
  complete = λ v a e. (refl, agrees_more bs v i t a e);
}

-- one thing after another
pub restricts_both : (old mid new : List (Option Tree)) (ok : Bool) (P Q R : Trees → Type 0) → Restricts old mid true P → Restricts mid new ok Q → ((v : Trees) → R v ↔ (P v × Q v)) → Restricts old new ok R
restricts_both old mid new ok P Q R n m is = record {
  keeps = m.keeps ∙ n.keeps;
  sound = λ v a y.
      let second = m.sound v a y in
      let first = n.sound v second.0 refl in
      (first.0, (is v).1 (first.1, second.1));
  complete = λ v a r.
      let both = (is v).0 r in
      let first = n.complete v a both.0 in
      m.complete v first.1 both.1;
}

-- the first no ends it
pub restricts_stop : (old mid new : List (Option Tree)) (P Q R : Trees → Type 0) → Restricts old mid true P → Restricts mid new false Q → ((v : Trees) → R v → P v × Q v) → Restricts old new false R
restricts_stop old mid new P Q R n m imp = record {
  keeps = m.keeps ∙ n.keeps;
  sound = λ v a y. absurd (cc);
  complete = λ v a r.
      let first = n.complete v a (imp v r).0 in
      let second = m.complete v first.1 (imp v r).1 in
      let h : false ≡ true = second.0 in
      absurd (cc);
}

pub parts_of : {A B : Type 0} (f : A → B) (ps : List A) (ts : List B) (i : ℕ) (p : A) (t : B) → p ≡ slice_index_or ps i p → t ≡ slice_index_or ts i t → i < length ps → map f ps ≡ ts → (map f (take i ps) ≡ take i ts) × (f p ≡ t)
parts_of f [] ts i p t ep et l h = absurd (omega arith)
parts_of f (q ∷ ps) [] i p t ep et l h = absurd (cc)
parts_of f (q ∷ ps) (u ∷ ts) zero p t ep et l h = (refl, cc)
parts_of f (q ∷ ps) (u ∷ ts) (suc i) p t ep et l h =
    let e : f q ≡ u = cc in
    let more : map f ps ≡ ts = cc in
    let r = parts_of f ps ts i p t ep et (omega arith) more in
    let first : map f (take i ps) ≡ take i ts = r.0 in
    (cc, r.1)

-- the bound trees, and x for each variable that isn't bound
abbrev pub fill : Tree → List (Option Tree) → Trees
fill x [] = []
fill x (None ∷ bs) = x ∷ fill x bs
fill x (Some y ∷ bs) = y ∷ fill x bs

fill_there : (x : Tree) (bs : List (Option Tree)) (i : ℕ) (y : Tree) → slice_get bs i ≡ Some (Some y) → tree_at (fill x bs) i ≡ y
fill_there x [] i y h = absurd (cc)
fill_there x (None ∷ bs) zero y h = absurd (cc)
fill_there x (None ∷ bs) (suc i) y h = fill_there x bs i y h
fill_there x (Some z ∷ bs) zero y h = cc
fill_there x (Some z ∷ bs) (suc i) y h = fill_there x bs i y h

pub fill_agrees : (x : Tree) (bs : List (Option Tree)) → AgreesGround bs (fill x bs)
fill_agrees x bs = agrees_from bs (fill x bs) (fill_there x bs)

pub fill_at : (x : Tree) (bs : List (Option Tree)) (i : ℕ) → slice_get bs i ≡ Some None → tree_at (fill x bs) i ≡ x
fill_at x [] i h = absurd (cc)
fill_at x (None ∷ bs) zero h = refl
fill_at x (None ∷ bs) (suc i) h = fill_at x bs i h
fill_at x (Some y ∷ bs) zero h = absurd (cc)
fill_at x (Some y ∷ bs) (suc i) h = fill_at x bs i h

-- where no variable is bound, each valuation agrees
none_there : (n i : ℕ) (x : Tree) → ¬ (slice_get (replicate n None) i ≡ Some (Some x))
none_there zero i x h = cc
none_there (suc n) zero x h = cc
none_there (suc n) (suc i) x h = none_there n i x h

pub agrees_none : (n : ℕ) (v : Trees) → AgreesGround (replicate n None) v
agrees_none n v = agrees_from (replicate n None) v (λ i x h. absurd (none_there n i x h))
