-- A variable against a term: it is bound, or its term and this one have to mean one value.
use Rattle.std.proofs.Common.{arith, ◌≡◌, ◌↔◌, ◌⊎◌, inl, inr, ℕ, zero, suc, ◌+◌, ◌<◌, ◌≤◌, ◌==◌, Bool, true, false, if◌then◌else◌, IsTrue, List, [], ◌∷◌, length, slice_get, slice_set, Option, Some, None, IsSome, All, refl, sym, ap, ◌∙◌, subst}
use Rattle.std.specs.Prelude.{option_map, option_and_then}
use Rattle.std.proofs.lemmas.Bool.Decides.{Decides-eqb}
use Rattle.data_value.specs.declared.DataSort.{DataSort}
use Rattle.data_value.specs.declared.Value.{Value}
use Rattle.data_value.specs.Sorts.{is_scalar_sort}
use Rattle.data_value.specs.Nodes.{Seen, Extends}
use Rattle.sort_term.specs.declared.term.Sort.{Sort}
use Rattle.sort_term.specs.declared.term.Sort.TheVariants as sort
use Rattle.sort_term.specs.declared.semantics.Con.{Con}
use Rattle.sort_term.specs.declared.term.Term.{Term}
use Rattle.sort_term.specs.declared.term.Term.TheVariants as term
use Rattle.sort_term.specs.declared.rule.Var.{Var}
use Rattle.sort_term.specs.declared.rule.Pattern.{Pattern}
use Rattle.sort_term.specs.declared.rule.Pattern.TheOpen.{Pattern-F}
use Rattle.sort_term.specs.declared.rule.Pattern.TheViews.{out-Pattern, out-roll-Pattern}
use Rattle.sort_term.specs.declared.rule.Pattern.TheVariants as pattern
use Rattle.sort_term.specs.declared.term.Term.TheViews.{out-Term}
use Rattle.sort_term.specs.Tree.{Trees, tree_at}
use Rattle.sort_term.specs.Sorted.{var_sort}
use Rattle.sort_term.specs.Signature.{is_scalar_own}
use Rattle.sort_term.specs.Stands.{times}
use Rattle.sort_term.specs.NodeTerms.{seen_term, is_valid_term, seen_sort, tree_of}
use Rattle.sort_term.proofs.Equations.{times-Bind, pattern_value-Bind}
use Rattle.sort_term.proofs.NodeTerming.{sorted_valid}
use Rattle.unify.specs.Binds.{Bound, seen_binds, bound_at, IsBound, AreBinds, AreValid, Agrees, IsNode}
use Rattle.unify.specs.Places.{pattern_args_in, pattern_at, term_at, ClashIn, ClashSomewhere}
use Rattle.data_value.specs.Truth.{IsCondition}
use Rattle.unify.specs.Meets.{RebindsOnlyScalars, times_bound, AddsEquation, AreJoined, Equals}
use Rattle.unify.proofs.Nodes.{data_node, node_sorted, plain_tree, plain_same}
use Rattle.unify.proofs.Evaluated.{bound_seen, binds_stay}
use Rattle.unify.specs.Scopes.{scope_of, change_of}

-- a variable stands in itself alone
pub stands_self : (i : ℕ) → 0 < times i (pattern.Bind i)
stands_self i =
    let e : times i (pattern.Bind i) ≡ 1 = times-Bind i i ∙ ap (λ b. if b then 1 else 0) ((Decides-eqb i i).1 refl) in
    omega arith

pub stands_is : (j i : ℕ) → 0 < times j (pattern.Bind i) → j ≡ i
stands_is j i h = (Decides-eqb j i).0 (go (j == i) (subst (λ n. 0 < n) (times-Bind j i) h))
  where
    go : (b : Bool) → 0 < (if b then 1 else 0) → b ≡ true
    go true l = refl
    go false l = absurd (omega arith)

pub out-Bind : (i : ℕ) → out-Pattern (pattern.Bind i) ≡ Pattern-F.Bind i
out-Bind i = ap out-Pattern (sym (pattern.rolls-Bind i)) ∙ out-roll-Pattern (Pattern-F.Bind i)

-- a pattern without arguments has one place
pub only_place : {N : Type 0} (p : Pattern) (t : Term (Seen N)) → pattern_args_in (out-Pattern p) ≡ [] → ClashSomewhere p t → ClashIn (out-Pattern p) (out-Term (Seen N) t)
only_place {N} p t none c = go c.place c.part c.against c.stands c.stands_against c.clash
  where
    go : (place : List ℕ) (q : Pattern) (u : Term (Seen N)) → pattern_at place p ≡ Some q → term_at place t ≡ Some u → ClashIn (out-Pattern q) (out-Term (Seen N) u) → ClashIn (out-Pattern p) (out-Term (Seen N) t)
    go [] q u e d h =
        let same : p ≡ q = cc in
        let other : t ≡ u = cc in
        subst (λ x. ClashIn (out-Pattern x) (out-Term (Seen N) t)) (sym same) (subst (λ y. ClashIn (out-Pattern q) (out-Term (Seen N) y)) (sym other) h)
    go (i ∷ place) q u e d h =
        let gone : None ≡ Some q = sym (ap (λ ps. option_and_then (pattern_at place) (slice_get ps i)) none) ∙ e in
        absurd (cc)

pub bind_clear : {N : Type 0} (i : ℕ) (t : Term (Seen N)) → ¬ ClashSomewhere (pattern.Bind i) t
bind_clear {N} i t c = subst (λ x. ClashIn x (out-Term (Seen N) t)) (out-Bind i) (only_place (pattern.Bind i) t (ap pattern_args_in (out-Bind i)) c)

pub var_there : (vars : List Var) (i : ℕ) → i < length vars → (x : Var) × (slice_get vars i ≡ Some x)
var_there [] i l = absurd (omega arith)
var_there (x ∷ vars) zero l = (x, refl)
var_there (x ∷ vars) (suc i) l = var_there vars i (omega arith)

scalar_own : (s : Sort) → IsTrue (is_scalar_own s) → (d : DataSort) × (s ≡ sort.Plain d) × IsTrue (is_scalar_sort d)
scalar_own (sort.Own a) h = absurd (cc)
scalar_own (sort.Plain d) h = (d, refl, h)

pub past_end : {X : Type 0} (xs : List X) (i : ℕ) → slice_get xs i ≡ None → length xs ≤ i
past_end [] i h = omega arith
past_end (x ∷ xs) zero h = absurd (cc)
past_end (x ∷ xs) (suc i) h = let l = past_end xs i h in omega arith

-- a variable that is bound already
module _ {N : Type 0} (cons : List Con) (vars : List Var) (f : N → Seen N) (binds : List (Option (Term N))) (i : ℕ) (t b : Term N) (within : i < length vars) (sorted : seen_sort cons (seen_term f t) ≡ var_sort vars i) (lawful : AreBinds cons vars (seen_binds f binds)) (repeats : RebindsOnlyScalars vars (seen_binds f binds) (λ j. times j (pattern.Bind i))) (there : slice_get binds i ≡ Some (Some b)) where
  at_i : bound_at (seen_binds f binds) i ≡ Some (seen_term f b)
  at_i = bound_seen f binds i b there

  scalar_sort_of : (d : DataSort) × (var_sort vars i ≡ Some (sort.Plain d)) × IsTrue (is_scalar_sort d)
  scalar_sort_of =
      let x = var_there vars i within in
      let once : times_bound (bound_at (seen_binds f binds) i) ≡ 1 = ap times_bound at_i in
      let twice : 1 < times_bound (bound_at (seen_binds f binds) i) + times i (pattern.Bind i) = let s = stands_self i in omega arith in
      let d = scalar_own x.0.sort (repeats.each i x.0 x.1 twice) in
      (d.0, ap (option_map (λ (y : Var). y.sort)) x.1 ∙ ap Some d.1, d.2)

  bound_sort_is : seen_sort cons (seen_term f b) ≡ Some (sort.Plain scalar_sort_of.0)
  bound_sort_is = lawful.sorted i (seen_term f b) at_i ∙ scalar_sort_of.1

  term_sort_is : seen_sort cons (seen_term f t) ≡ Some (sort.Plain scalar_sort_of.0)
  term_sort_is = sorted ∙ scalar_sort_of.1

  pub bound_node : IsNode b
  bound_node = data_node cons f b scalar_sort_of.0 bound_sort_is

  pub term_node : IsNode t
  term_node = data_node cons f t scalar_sort_of.0 term_sort_is

  module _ (n m : N) (bound_is : b ≡ term.Plain n) (term_is : t ≡ term.Plain m) where
    left : IsTrue (f n).valid × ((f n).sort ≡ scalar_sort_of.0)
    left = node_sorted cons f n scalar_sort_of.0 (ap (λ u. seen_sort cons (seen_term f u)) (sym bound_is) ∙ bound_sort_is)

    right : IsTrue (f m).valid × ((f m).sort ≡ scalar_sort_of.0)
    right = node_sorted cons f m scalar_sort_of.0 (ap (λ u. seen_sort cons (seen_term f u)) (sym term_is) ∙ term_sort_is)

    pub bound_valid : IsTrue (f n).valid
    bound_valid = left.0

    pub term_valid : IsTrue (f m).valid
    term_valid = right.0

    pub sorts_agree : (u : N) → f u ≡ f m → (f u).sort ≡ (f n).sort
    sorts_agree u e = ap (λ s. s.sort) e ∙ right.1 ∙ sym left.1

    pub is_scalar : IsTrue (is_scalar_sort (f n).sort)
    is_scalar = ap is_scalar_sort left.1 ∙ scalar_sort_of.2

    module _ (g : N → Seen N) (x : Extends f g) (variables : List DataSort) (u : N) (copied : f u ≡ f m) (es : List (Seen N)) (ds : List (Seen N)) (valid : AreValid (seen_binds f binds)) (added : AddsEquation variables es ds (λ v. (f n).meaning v ≡ (f u).meaning v)) where
      kept : seen_binds g binds ≡ seen_binds f binds
      kept = binds_stay f g x binds valid

      same_value : (v : List Value) (w : Trees) → Agrees v (seen_binds f binds) w → Equals (pattern.Bind i) (seen_term f t) v w ↔ ((f n).meaning v ≡ (f u).meaning v)
      same_value v w a =
          let here : tree_at w i ≡ term.Plain ((f n).meaning v) = a.at i (seen_term f b) at_i ∙ ap (λ y. tree_of v (seen_term f y)) bound_is ∙ plain_tree f v n in
          let term_tree : tree_of v (seen_term f t) ≡ term.Plain ((f m).meaning v) = ap (λ y. tree_of v (seen_term f y)) term_is ∙ plain_tree f v m in
          let copy_means : (f u).meaning v ≡ (f m).meaning v = ap (λ s. s.meaning v) copied in (
            λ e. plain_same _ _ (sym here ∙ sym (pattern_value-Bind w i) ∙ e ∙ term_tree) ∙ sym copy_means,
            λ e. pattern_value-Bind w i ∙ here ∙ ap term.Plain (e ∙ copy_means) ∙ sym term_tree,
          )

      pub rebound : AreJoined (scope_of cons vars variables) (pattern.Bind i) (seen_term f t) (change_of (record { binds = seen_binds f binds; equations = es }) (record { binds = seen_binds g binds; equations = ds }))
      rebound = record {
        clear = bind_clear i (seen_term f t);
        lawful = record { binds = subst (AreBinds cons vars) (sym kept) lawful; equations = added.lawful };
        binds = record { bound = λ j. (λ h. inl (subst (λ cs. IsBound cs j) kept h), λ h. subst (λ cs. IsBound cs j) (sym kept) (still j h)) };
        narrows = record {
          exact = λ v fits w. (
            λ h.
                let a = subst (λ cs. Agrees v cs w) kept h.agrees in
                let r = (added.exact v fits).0 h.equal in
                (record { agrees = a; equal = r.0 }, (same_value v w a).1 r.1),
            λ h. record {
              agrees = subst (λ cs. Agrees v cs w) (sym kept) h.0.agrees;
              equal = (added.exact v fits).1 (h.0.equal, (same_value v w h.0.agrees).0 h.1);
            },
          );
        };
      }
        where
          still : (j : ℕ) → IsBound (seen_binds f binds) j ⊎ (0 < times j (pattern.Bind i)) → IsBound (seen_binds f binds) j
          still j (inl h) = h
          still j (inr l) = subst (IsBound (seen_binds f binds)) (sym (stands_is j i l)) (subst IsSome (sym at_i) refl)

-- bound variables with one more
module _ {X : Type 0} where
  pub set_here : (bs : List (Option X)) (i : ℕ) (s : X) → i < length bs → bound_at (slice_set bs i (Some s)) i ≡ Some s
  set_here [] i s l = absurd (omega arith)
  set_here (b ∷ bs) zero s l = refl
  set_here (b ∷ bs) (suc i) s l = set_here bs i s (omega arith)

  pub set_before : (bs : List (Option X)) (i : ℕ) (s : X) → bound_at bs i ≡ None → (j : ℕ) (t : X) → bound_at bs j ≡ Some t → bound_at (slice_set bs i (Some s)) j ≡ Some t
  set_before [] i s free j t h = h
  set_before (b ∷ bs) zero s free zero t h = let e : None ≡ Some t = sym free ∙ h in absurd (cc)
  set_before (b ∷ bs) zero s free (suc j) t h = h
  set_before (b ∷ bs) (suc i) s free zero t h = h
  set_before (b ∷ bs) (suc i) s free (suc j) t h = set_before bs i s free j t h

  pub set_after : (bs : List (Option X)) (i : ℕ) (s : X) (j : ℕ) (t : X) → bound_at (slice_set bs i (Some s)) j ≡ Some t → (bound_at bs j ≡ Some t) ⊎ ((j ≡ i) × (t ≡ s))
  set_after [] i s j t h = inl h
  set_after (b ∷ bs) zero s zero t h = inr (refl, cc)
  set_after (b ∷ bs) zero s (suc j) t h = inl h
  set_after (b ∷ bs) (suc i) s zero t h = inl h
  set_after (b ∷ bs) (suc i) s (suc j) t h = next (set_after bs i s j t h)
    where
      next : (bound_at bs j ≡ Some t) ⊎ ((j ≡ i) × (t ≡ s)) → (bound_at bs j ≡ Some t) ⊎ ((suc j ≡ suc i) × (t ≡ s))
      next (inl e) = inl e
      next (inr e) = inr (ap suc e.0, e.1)

  pub set_long : (bs : List (Option X)) (i : ℕ) (b : Option X) → length (slice_set bs i b) ≡ length bs
  set_long [] i b = refl
  set_long (c ∷ bs) zero b = refl
  set_long (c ∷ bs) (suc i) b = ap suc (set_long bs i b)

seen_set : {N : Type 0} (f : N → Seen N) (binds : List (Option (Term N))) (i : ℕ) (t : Term N) → seen_binds f (slice_set binds i (Some t)) ≡ slice_set (seen_binds f binds) i (Some (seen_term f t))
seen_set f [] i t = refl
seen_set f (b ∷ bs) zero t = refl
seen_set f (b ∷ bs) (suc i) t = ap (λ cs. option_map (seen_term f) b ∷ cs) (seen_set f bs i t)

module _ {N : Type 0} (cons : List Con) (vars : List Var) (variables : List DataSort) (bs : Bound N) (i : ℕ) (s : Term (Seen N)) (es : List (Seen N)) (within : i < length vars) (sorted : seen_sort cons s ≡ var_sort vars i) (lawful : AreBinds cons vars bs) (free : bound_at bs i ≡ None) (conditions : All IsCondition es) where
  inside : i < length bs
  inside = let l = lawful.long in omega arith

  new_agrees : (v : List Value) (w : Trees) → Agrees v (slice_set bs i (Some s)) w ↔ (Agrees v bs w × Equals (pattern.Bind i) s v w)
  new_agrees v w = (
    λ a. (record { at = λ j t h. a.at j t (set_before bs i s free j t h) }, pattern_value-Bind w i ∙ a.at i s (set_here bs i s inside)),
    λ p. record { at = λ j t h. go p.0 (sym (pattern_value-Bind w i) ∙ p.1) j t (set_after bs i s j t h) },
  )
    where
      go : Agrees v bs w → tree_at w i ≡ tree_of v s → (j : ℕ) (t : Term (Seen N)) → (bound_at bs j ≡ Some t) ⊎ ((j ≡ i) × (t ≡ s)) → tree_at w j ≡ tree_of v t
      go a here j t (inl e) = a.at j t e
      go a here j t (inr e) = ap (tree_at w) e.0 ∙ here ∙ ap (tree_of v) (sym e.1)

  new_sorted : (j : ℕ) (t : Term (Seen N)) → (bound_at bs j ≡ Some t) ⊎ ((j ≡ i) × (t ≡ s)) → seen_sort cons t ≡ var_sort vars j
  new_sorted j t (inl e) = lawful.sorted j t e
  new_sorted j t (inr e) = ap (seen_sort cons) e.1 ∙ sorted ∙ ap (var_sort vars) (sym e.0)

  new_bound : (j : ℕ) → IsBound (slice_set bs i (Some s)) j ↔ (IsBound bs j ⊎ (0 < times j (pattern.Bind i)))
  new_bound j = (λ h. let t = there (bound_at (slice_set bs i (Some s)) j) h in to t.0 (set_after bs i s j t.0 t.1), from)
    where
      there : {X : Type 0} (o : Option X) → IsSome o → (x : X) × (o ≡ Some x)
      there None h = absurd (cc)
      there (Some x) h = (x, refl)

      to : (t : Term (Seen N)) → (bound_at bs j ≡ Some t) ⊎ ((j ≡ i) × (t ≡ s)) → IsBound bs j ⊎ (0 < times j (pattern.Bind i))
      to t (inl e) = inl (subst IsSome (sym e) refl)
      to t (inr e) = inr (subst (λ k. 0 < times k (pattern.Bind i)) (sym e.0) (stands_self i))

      from : IsBound bs j ⊎ (0 < times j (pattern.Bind i)) → IsBound (slice_set bs i (Some s)) j
      from (inl h) = let t = there (bound_at bs j) h in subst IsSome (sym (set_before bs i s free j t.0 t.1)) refl
      from (inr l) = subst (IsBound (slice_set bs i (Some s))) (sym (stands_is j i l)) (subst IsSome (sym (set_here bs i s inside)) refl)

  newly_bound : AreJoined (scope_of cons vars variables) (pattern.Bind i) s (change_of (record { binds = bs; equations = es }) (record { binds = slice_set bs i (Some s); equations = es }))
  newly_bound = record {
    clear = bind_clear i s;
    lawful = record { binds = record { long = set_long bs i (Some s) ∙ lawful.long; sorted = λ j t h. new_sorted j t (set_after bs i s j t h) }; equations = conditions };
    binds = record { bound = new_bound };
    narrows = record {
      exact = λ v fits w. (
        λ h. let r = (new_agrees v w).0 h.agrees in (record { agrees = r.0; equal = h.equal }, r.1),
        λ h. record { agrees = (new_agrees v w).1 (h.0.agrees, h.1); equal = h.0.equal },
      );
    };
  }

-- a variable that was free
pub bound_now : {N : Type 0} (cons : List Con) (vars : List Var) (variables : List DataSort) (f : N → Seen N) (binds now : List (Option (Term N))) (i : ℕ) (t u : Term N) (es : List (Seen N)) → i < length vars → seen_sort cons (seen_term f t) ≡ var_sort vars i → AreBinds cons vars (seen_binds f binds) → bound_at (seen_binds f binds) i ≡ None → All IsCondition es → seen_term f u ≡ seen_term f t → now ≡ slice_set binds i (Some u) →
    AreJoined (scope_of cons vars variables) (pattern.Bind i) (seen_term f t) (change_of (record { binds = seen_binds f binds; equations = es }) (record { binds = seen_binds f now; equations = es }))
bound_now cons vars variables f binds now i t u es within sorted lawful free conditions copied set =
    subst (λ cs. AreJoined (scope_of cons vars variables) (pattern.Bind i) (seen_term f t) (change_of (record { binds = seen_binds f binds; equations = es }) (record { binds = cs; equations = es })))
    (sym (ap (seen_binds f) set ∙ seen_set f binds i u ∙ ap (λ s. slice_set (seen_binds f binds) i (Some s)) copied))
    (newly_bound cons vars variables (seen_binds f binds) i (seen_term f t) es within sorted lawful free conditions)

-- terms of variables are valid
pub binds_valid : {N : Type 0} (cons : List Con) (vars : List Var) (bs : Bound N) → AreBinds cons vars bs → AreValid bs
binds_valid {N} cons vars bs a = record { at = λ i t h. let x = var_there vars i (subst (λ n. i < n) a.long (below bs i t h)) in sorted_valid cons t x.0.sort (a.sorted i t h ∙ ap (option_map (λ (y : Var). y.sort)) x.1) }
  where
    below : (cs : Bound N) (i : ℕ) (t : Term (Seen N)) → bound_at cs i ≡ Some t → i < length cs
    below [] i t h = absurd (cc)
    below (c ∷ cs) zero t h = omega arith
    below (c ∷ cs) (suc i) t h = let l = below cs i t h in omega arith

-- so is a term of a variable's sort
pub sorted_as_var : {N : Type 0} (cons : List Con) (vars : List Var) (i : ℕ) (t : Term (Seen N)) → i < length vars → seen_sort cons t ≡ var_sort vars i → IsTrue (is_valid_term t)
sorted_as_var cons vars i t l h = let x = var_there vars i l in sorted_valid cons t x.0.sort (h ∙ ap (option_map (λ (y : Var). y.sort)) x.1)
