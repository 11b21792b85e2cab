-- How a pattern is joined with a term, from its parts.
use Rattle.std.proofs.Common.{rules, arith, ◌≡◌, ◌≢◌, ◌↔◌, ◌⊎◌, inl, inr, ℕ, zero, suc, ◌+◌, ◌<◌, ◌≤◌, Bool, true, false, IsTrue, IsFalse, List, [], ◌∷◌, ◌++◌, length, map, take, get_or, slice_get, Option, Some, None, IsSome, All, refl, sym, ap, ◌∙◌, subst}
use Rattle.std.specs.Prelude.{option_and_then}
use Rattle.std.proofs.lemmas.Bool.{cases_lt}
use Rattle.std.proofs.lemmas.List.{take_more, map-append, length-map, length-take-le, same_from_push}
use Rattle.std.proofs.lemmas.List.Elements.{All-get_or}
use Rattle.std.proofs.lemmas.List.Sums.{sum-map, sum_by-cons, sum_by-append}
use Rattle.data_value.specs.declared.DataSort.{DataSort}
use Rattle.data_value.specs.declared.Scalar.{Scalar}
use Rattle.data_value.specs.declared.Value.{Value}
use Rattle.data_value.specs.declared.Value.TheVariants.{One}
use Rattle.data_value.specs.Values.{scalar_sort, IsScalar}
use Rattle.data_value.specs.Nodes.{Seen, Extends, IsLawful}
use Rattle.sort_term.specs.declared.ids.ConId.{ConId}
use Rattle.sort_term.specs.declared.term.Sort.{Sort}
use Rattle.sort_term.specs.declared.term.Sort.TheVariants as sort
use Rattle.sort_term.specs.declared.semantics.Con.{Con}
use Rattle.sort_term.specs.declared.term.Term.{Term}
use Rattle.sort_term.specs.declared.term.Term.TheViews.{out-Term}
use Rattle.sort_term.specs.declared.term.Term.TheVariants as term
use Rattle.sort_term.specs.declared.rule.Var.{Var}
use Rattle.sort_term.specs.declared.rule.Pattern.{Pattern}
use Rattle.sort_term.specs.declared.rule.Pattern.TheOpen.{Pattern-F}
use Rattle.sort_term.specs.declared.rule.Pattern.TheViews.{out-Pattern, out-roll-Pattern}
use Rattle.sort_term.specs.declared.rule.Pattern.TheVariants as pattern
use Rattle.sort_term.specs.Tree.{Trees, pattern_value}
use Rattle.sort_term.specs.Sorted.{leaf_sort, var_sort, pattern_sort}
use Rattle.sort_term.specs.Stands.{times, times_in}
use Rattle.sort_term.specs.NodeTerms.{seen_term, seen_sort, tree_of}
use Rattle.sort_term.proofs.Equations.{times-Exact, times-Con, pattern_value-Exact, pattern_value-Con, pattern_sort-Bind, pattern_sort-Exact, pattern_sort-Con}
use Rattle.sort_term.proofs.LeafSorts.{leaf-value}
use Rattle.sort_term.proofs.NodeTerming.{node_is, seen-Con, seen-Plain, seen_sort-Con, tree_of-Con, sorted_valid, term_stays}
use Rattle.sort_term.proofs.Parts.{con_parts, some_of, all_some}
use Rattle.sort_term.proofs.Standing.{get-some}
use Rattle.unify.specs.Binds.{Bound, bound_at, IsBound, AreBinds, Agrees, IsNode}
use Rattle.unify.specs.Places.{pattern_args, pattern_args_in, term_args, term_args_in, pattern_at, term_at, Clash, ClashIn, ClashSomewhere}
use Rattle.unify.specs.Meets.{SeenMatching, IsMatching, RebindsOnlyScalars, BindsAlso, times_bound, AddsEquation, IsOtherScalar, AreApart, AreJoined, AreApartAnywhere, AllClear, AreAllJoined, Answers, AnswersAll, Equals, AllEqual}
use Rattle.unify.proofs.Nodes.{out-Con, out-Plain, cons_same, plain_same, data_node, node_sorted, plain_tree, plain_sort}
use Rattle.unify.proofs.Evaluated.{leaf_value}
use Rattle.unify.proofs.Binding.{only_place}
use Rattle.unify.specs.Scopes.{scope_of, change_of}

pub out-Exact : (x : Scalar) → out-Pattern (pattern.Exact x) ≡ Pattern-F.Exact x
out-Exact x = ap out-Pattern (sym (pattern.rolls-Exact x)) ∙ out-roll-Pattern (Pattern-F.Exact x)

pub out-PatternCon : (k : ConId) (ps : List Pattern) → out-Pattern (pattern.Con k ps) ≡ Pattern-F.Con k ps
out-PatternCon k ps = ap out-Pattern (sym (pattern.rolls-Con k ps)) ∙ out-roll-Pattern (Pattern-F.Con k ps)

-- a literal against a node
module _ {N : Type 0} (x : Scalar) (s : Seen N) where
  pub literal_clash : ClashSomewhere (pattern.Exact x) (term.Plain s) → IsOtherScalar x s
  literal_clash c =
      let here = only_place (pattern.Exact x) (term.Plain s) (ap pattern_args_in (out-Exact x)) c in
      let h = subst (ClashIn (Pattern-F.Exact x)) (out-Plain s) (subst (λ p. ClashIn p (out-Term (Seen N) (term.Plain s))) (out-Exact x) here) in
      record { scalar = h.0; known = h.1; other = h.2 }

  pub clash_literal : IsOtherScalar x s → ClashSomewhere (pattern.Exact x) (term.Plain s)
  clash_literal o = record {
    place = [];
    part = pattern.Exact x;
    against = term.Plain s;
    stands = refl;
    stands_against = refl;
    clash = subst (λ p. ClashIn p (out-Term (Seen N) (term.Plain s))) (sym (out-Exact x)) (subst (ClashIn (Pattern-F.Exact x)) (sym (out-Plain s)) (o.scalar, o.known, o.other));
  }

-- the sort of a literal's term is that of the literal
module _ {N : Type 0} (cons : List Con) (vars : List Var) (f : N → Seen N) (p : Pattern) (x : Scalar) (t : Term N) (is : p ≡ pattern.Exact x) (there : IsSome (pattern_sort cons vars p)) (same : seen_sort cons (seen_term f t) ≡ pattern_sort cons vars p) where
  literal_sort : pattern_sort cons vars p ≡ leaf_sort (One x)
  literal_sort = ap (pattern_sort cons vars) is ∙ pattern_sort-Exact cons vars x

  pub literal_lawful : IsScalar x
  literal_lawful = leaf_value (One x) (subst IsSome literal_sort there)

  literal_term_sort : seen_sort cons (seen_term f t) ≡ Some (sort.Plain (scalar_sort x))
  literal_term_sort = same ∙ literal_sort ∙ leaf-value (One x) literal_lawful

  pub literal_node : IsNode t
  literal_node = data_node cons f t (scalar_sort x) literal_term_sort

  pub literal_node_sorted : (n : N) → t ≡ term.Plain n → IsTrue (f n).valid × ((f n).sort ≡ scalar_sort x)
  literal_node_sorted n e = node_sorted cons f n (scalar_sort x) (ap (λ u. seen_sort cons (seen_term f u)) (sym e) ∙ literal_term_sort)

  module _ (n : N) (term_is : t ≡ term.Plain n) (variables : List DataSort) (laws : IsLawful f variables) where
    seen_is : seen_term f t ≡ term.Plain (f n)
    seen_is = ap (seen_term f) term_is ∙ seen-Plain f n

    value_is : (v : List Value) (w : Trees) → Equals p (seen_term f t) v w ↔ ((f n).meaning v ≡ One x)
    value_is v w =
        let left : pattern_value w p ≡ term.Plain (One x) = ap (pattern_value w) is ∙ pattern_value-Exact w x in
        let right : tree_of v (seen_term f t) ≡ term.Plain ((f n).meaning v) = ap (λ u. tree_of v (seen_term f u)) term_is ∙ plain_tree f v n in (
          λ e. plain_same _ _ (sym right ∙ sym e ∙ left),
          λ e. left ∙ ap term.Plain (sym e) ∙ sym right,
        )

    -- where the node is known as another scalar they are apart
    pub literal_apart : IsOtherScalar x (f n) → AreApart p (seen_term f t)
    literal_apart o = record {
      clash = subst (λ q. ClashSomewhere q (seen_term f t)) (sym is) (subst (ClashSomewhere (pattern.Exact x)) (sym seen_is) (clash_literal x (f n) o));
      never = λ v w e.
          let known = laws.known n o.scalar (literal_node_sorted n term_is).0 o.known v in
          let q : One o.scalar ≡ One x = sym known ∙ (value_is v w).0 e in
          let r : x ≡ o.scalar = cc in
          o.other r;
    }

    literal_clear : ¬ IsOtherScalar x (f n) → ¬ ClashSomewhere p (seen_term f t)
    literal_clear isnt c = isnt (literal_clash x (f n) (subst (ClashSomewhere (pattern.Exact x)) seen_is (subst (λ q. ClashSomewhere q (seen_term f t)) is c)))

    module _ (bs cs : Bound N) (es ds : List (Seen N)) (lawful : AreBinds cons vars bs) (kept : cs ≡ bs) where
      -- where it isn't, the equation is what makes them equal
      pub literal_joined : ¬ IsOtherScalar x (f n) → AddsEquation variables es ds (λ v. (f n).meaning v ≡ One x) → AreJoined (scope_of cons vars variables) p (seen_term f t) (change_of (record { binds = bs; equations = es }) (record { binds = cs; equations = ds }))
      literal_joined isnt added = record {
        clear = literal_clear isnt;
        lawful = record { binds = subst (AreBinds cons vars) (sym kept) lawful; equations = added.lawful };
        binds = record { bound = λ j. (λ h. inl (subst (λ zs. IsBound zs j) kept h), λ h. subst (λ zs. IsBound zs j) (sym kept) (still j h)) };
        narrows = record {
          exact = λ v fits w. (
            λ h.
                let r = (added.exact v fits).0 h.equal in
                (record { agrees = subst (λ zs. Agrees v zs w) kept h.agrees; equal = r.0 }, (value_is v w).1 r.1),
            λ h. record {
              agrees = subst (λ zs. Agrees v zs w) (sym kept) h.0.agrees;
              equal = (added.exact v fits).1 (h.0.equal, (value_is v w).0 h.1);
            },
          );
        };
      }
        where
          still : (j : ℕ) → IsBound bs j ⊎ (0 < times j p) → IsBound bs j
          still j (inl h) = h
          still j (inr l) = absurd (let none = ap (times j) is ∙ times-Exact j x in omega arith)

      pub literal_answers : (ok : Bool) → (IsFalse ok ↔ IsOtherScalar x (f n)) → (IsTrue ok → AddsEquation variables es ds (λ v. (f n).meaning v ≡ One x)) → Answers (scope_of cons vars variables) p (seen_term f t) (change_of (record { binds = bs; equations = es }) (record { binds = cs; equations = ds })) ok
      literal_answers true apart equal = literal_joined (λ o. let q : true ≡ false = apart.1 o in cc) (equal refl)
      literal_answers false apart equal = literal_apart (apart.0 refl)

-- constructors against constructors
same_con : (c d : ConId) → c.0 ≡ d.0 → c ≡ d
same_con c d e = search rules

module _ {N : Type 0} (cons : List Con) (vars : List Var) (f : N → Seen N) (p : Pattern) (c d : ConId) (ps qs : List Pattern) (t : Term N) (ts us : List (Term N)) (is : p ≡ pattern.Con c ps) (heads : qs ≡ ps) (term_is : t ≡ term.Con d ts) (terms : us ≡ ts) where
  seen_con : seen_term f t ≡ term.Con d (map (seen_term f) ts)
  seen_con = ap (seen_term f) term_is ∙ seen-Con f d ts

  left_is : (w : Trees) → pattern_value w p ≡ term.Con c (map (pattern_value w) ps)
  left_is w = ap (pattern_value w) is ∙ pattern_value-Con w c ps

  right_is : (v : List Value) → tree_of v (seen_term f t) ≡ term.Con d (map (tree_of v) (map (seen_term f) ts))
  right_is v = ap (tree_of v) seen_con ∙ tree_of-Con v d (map (seen_term f) ts)

  head_clash : Clash p (seen_term f t) → c ≢ d
  head_clash h =
      subst (λ y. ClashIn (Pattern-F.Con c ps) y) (ap (out-Term (Seen N)) seen_con ∙ out-Con d (map (seen_term f) ts)) (subst (λ y. ClashIn y (out-Term (Seen N) (seen_term f t))) (ap out-Pattern is ∙ out-PatternCon c ps) h)

  clash_head : c ≢ d → Clash p (seen_term f t)
  clash_head h =
      subst (λ y. ClashIn y (out-Term (Seen N) (seen_term f t))) (sym (ap out-Pattern is ∙ out-PatternCon c ps)) (subst (λ y. ClashIn (Pattern-F.Con c ps) y) (sym (ap (out-Term (Seen N)) seen_con ∙ out-Con d (map (seen_term f) ts))) h)

  left_args : pattern_args p ≡ ps
  left_args = ap pattern_args_in (ap out-Pattern is ∙ out-PatternCon c ps)

  right_args : term_args (seen_term f t) ≡ map (seen_term f) ts
  right_args = ap term_args_in (ap (out-Term (Seen N)) seen_con ∙ out-Con d (map (seen_term f) ts))

  -- different constructors are apart
  pub cons_apart : (c.0 ≡ d.0 → ⊥) → AreApart p (seen_term f t)
  cons_apart ne = record {
    clash = record { place = []; part = p; against = seen_term f t; stands = refl; stands_against = refl; clash = clash_head (λ e. ne (ap (λ k. k.0) e)) };
    never = λ v w e. ne (ap (λ k. k.0) (cons_same c d _ _ (sym (left_is w) ∙ e ∙ right_is v)).0);
  }

  -- the sorts of the arguments
  pub parts_there : IsSome (pattern_sort cons vars p) → All (λ q. IsSome (pattern_sort cons vars q)) qs
  parts_there h =
      let s = some_of (pattern_sort cons vars p) h in
      let k = con_parts (slice_get cons c.0) (map (pattern_sort cons vars) ps) s.0 (sym (ap (pattern_sort cons vars) is ∙ pattern_sort-Con cons vars c ps) ∙ s.1) in
      subst (All (λ q. IsSome (pattern_sort cons vars q))) (sym heads) (all_some (pattern_sort cons vars) ps k.con.args k.sorts)

  pub parts_sorted : c.0 ≡ d.0 → IsSome (pattern_sort cons vars p) → seen_sort cons (seen_term f t) ≡ pattern_sort cons vars p → map (seen_sort cons) (map (seen_term f) us) ≡ map (pattern_sort cons vars) qs
  parts_sorted e h same =
      let s = some_of (pattern_sort cons vars p) h in
      let k = con_parts (slice_get cons c.0) (map (pattern_sort cons vars) ps) s.0 (sym (ap (pattern_sort cons vars) is ∙ pattern_sort-Con cons vars c ps) ∙ s.1) in
      let l = con_parts (slice_get cons d.0) (map (seen_sort cons) (map (seen_term f) ts)) s.0 (sym (ap (seen_sort cons) seen_con ∙ seen_sort-Con cons d (map (seen_term f) ts)) ∙ same ∙ s.1) in
      let q : Some l.con ≡ Some k.con = sym l.is_con ∙ ap (slice_get cons) (sym e) ∙ k.is_con in
      let r : l.con ≡ k.con = cc in
      ap (λ ys. map (seen_sort cons) (map (seen_term f) ys)) terms ∙ l.sorts ∙ ap (λ y. map Some y.args) r ∙ sym k.sorts ∙ ap (map (pattern_sort cons vars)) (sym heads)

  pub parts_times : (i : ℕ) → times i p ≡ times_in i qs
  parts_times i = ap (times i) is ∙ times-Con i c ps ∙ sum-map (times i) ps ∙ ap (times_in i) (sym heads)

  pub parts_repeat : (bs : Bound N) → RebindsOnlyScalars vars bs (λ i. times i p) → RebindsOnlyScalars vars bs (λ i. times_in i qs)
  parts_repeat bs r = record { each = λ i x there l. r.each i x there (subst (λ n. 1 < times_bound (bound_at bs i) + n) (sym (parts_times i)) l) }

  module _ (e : c.0 ≡ d.0) where
    equal_parts : (v : List Value) (w : Trees) → Equals p (seen_term f t) v w ↔ AllEqual qs (map (seen_term f) us) v w
    equal_parts v w = (
      λ h. ap (map (pattern_value w)) heads ∙ (cons_same c d _ _ (sym (left_is w) ∙ h ∙ right_is v)).1 ∙ sym (ap (λ ys. map (tree_of v) (map (seen_term f) ys)) terms),
      λ h. left_is w ∙ ap (λ k. term.Con k (map (pattern_value w) ps)) (same_con c d e) ∙ ap (term.Con d) (ap (map (pattern_value w)) (sym heads) ∙ h ∙ ap (λ ys. map (tree_of v) (map (seen_term f) ys)) terms) ∙ sym (right_is v),
    )

    parts_clear : AllClear qs (map (seen_term f) us) → ¬ ClashSomewhere p (seen_term f t)
    parts_clear clear h = go h.place h.part h.against h.stands h.stands_against h.clash
      where
        at : (xs : List Pattern) (ys : List (Term (Seen N))) (i : ℕ) (q : Pattern) (u : Term (Seen N)) → AllClear xs ys → slice_get xs i ≡ Some q → slice_get ys i ≡ Some u → ¬ ClashSomewhere q u
        at [] ys i q u a h k = absurd (cc)
        at (x ∷ xs) [] i q u a h k = absurd (cc)
        at (x ∷ xs) (y ∷ ys) zero q u a h k = let first : x ≡ q = cc in let other : y ≡ u = cc in subst (λ z. ¬ ClashSomewhere z u) first (subst (λ z. ¬ ClashSomewhere x z) other a.0)
        at (x ∷ xs) (y ∷ ys) (suc i) q u a h k = at xs ys i q u a.1 h k

        inner : (o : Option Pattern) (r : Option (Term (Seen N))) (i : ℕ) (place : List ℕ) (q : Pattern) (u : Term (Seen N)) → slice_get qs i ≡ o → slice_get (map (seen_term f) us) i ≡ r → option_and_then (pattern_at place) o ≡ Some q → option_and_then (term_at place) r ≡ Some u → Clash q u → ⊥
        inner None r i place q u eo er hq hu k = let gone : None ≡ Some q = hq in cc
        inner (Some o) None i place q u eo er hq hu k = let gone : None ≡ Some u = hu in cc
        inner (Some o) (Some r) i place q u eo er hq hu k = at qs (map (seen_term f) us) i o r clear eo er (record { place = place; part = q; against = u; stands = hq; stands_against = hu; clash = k })

        go : (place : List ℕ) (q : Pattern) (u : Term (Seen N)) → pattern_at place p ≡ Some q → term_at place (seen_term f t) ≡ Some u → Clash q u → ⊥
        go [] q u hq hu k =
            let same : p ≡ q = cc in
            let other : seen_term f t ≡ u = cc in
            head_clash (subst (λ x. Clash x (seen_term f t)) (sym same) (subst (λ y. Clash q y) (sym other) k)) (same_con c d e)
        go (i ∷ place) q u hq hu k =
            inner (slice_get qs i) (slice_get (map (seen_term f) us) i) i place q u refl refl
            (ap (λ xs. option_and_then (pattern_at place) (slice_get xs i)) (heads ∙ sym left_args) ∙ hq)
            (ap (λ xs. option_and_then (term_at place) (slice_get xs i)) (ap (map (seen_term f)) terms ∙ sym right_args) ∙ hu)
            k

    module _ (variables : List DataSort) (old new : SeenMatching N) where
      parts_joined : AreAllJoined (scope_of cons vars variables) qs (map (seen_term f) us) (change_of old new) → AreJoined (scope_of cons vars variables) p (seen_term f t) (change_of old new)
      parts_joined j = record {
        clear = parts_clear j.clear;
        lawful = j.lawful;
        binds = record { bound = λ i. subst (λ n. IsBound new.binds i ↔ (IsBound old.binds i ⊎ (0 < n))) (sym (parts_times i)) (j.binds.bound i) };
        narrows = record {
          exact = λ v fits w. (
            λ h. let r = (j.narrows.exact v fits w).0 h in (r.0, (equal_parts v w).1 r.1),
            λ h. (j.narrows.exact v fits w).1 (h.0, (equal_parts v w).0 h.1),
          );
        };
      }

      parts_apart : AreApartAnywhere qs (map (seen_term f) us) → AreApart p (seen_term f t)
      parts_apart a = record {
        clash = record {
          place = a.place ∷ a.apart.clash.place;
          part = a.apart.clash.part;
          against = a.apart.clash.against;
          stands = ap (λ xs. option_and_then (pattern_at a.apart.clash.place) (slice_get xs a.place)) (left_args ∙ sym heads) ∙ ap (option_and_then (pattern_at a.apart.clash.place)) a.stands ∙ a.apart.clash.stands;
          stands_against = ap (λ xs. option_and_then (term_at a.apart.clash.place) (slice_get xs a.place)) (right_args ∙ sym (ap (map (seen_term f)) terms)) ∙ ap (option_and_then (term_at a.apart.clash.place)) a.stands_against ∙ a.apart.clash.stands_against;
          clash = a.apart.clash.clash;
        };
        never = λ v w h. a.apart.never v w (equal_at v w qs (map (seen_term f) us) a.place a.pattern a.term ((equal_parts v w).0 h) a.stands a.stands_against);
      }
        where
          equal_at : (v : List Value) (w : Trees) (xs : List Pattern) (ys : List (Term (Seen N))) (i : ℕ) (q : Pattern) (u : Term (Seen N)) → AllEqual xs ys v w → slice_get xs i ≡ Some q → slice_get ys i ≡ Some u → Equals q u v w
          equal_at v w [] ys i q u h k l = absurd (cc)
          equal_at v w (x ∷ xs) [] i q u h k l = absurd (cc)
          equal_at v w (x ∷ xs) (y ∷ ys) zero q u h k l =
              let first : x ≡ q = cc in
              let other : y ≡ u = cc in
              let heads_equal : pattern_value w x ≡ tree_of v y = cc in
              ap (pattern_value w) (sym first) ∙ heads_equal ∙ ap (tree_of v) other
          equal_at v w (x ∷ xs) (y ∷ ys) (suc i) q u h k l = let rest : map (pattern_value w) xs ≡ map (tree_of v) ys = cc in equal_at v w xs ys i q u rest k l

      pub parts_answer : (ok : Bool) → AnswersAll (scope_of cons vars variables) qs (map (seen_term f) us) (change_of old new) ok → Answers (scope_of cons vars variables) p (seen_term f t) (change_of old new) ok
      parts_answer true a = parts_joined a
      parts_answer false a = parts_apart a

-- a constructor against a node is not well sorted
pub con_no_node : {N : Type 0} (cons : List Con) (vars : List Var) (f : N → Seen N) (p : Pattern) (c : ConId) (ps : List Pattern) (t : Term N) (n : N) → p ≡ pattern.Con c ps → t ≡ term.Plain n → IsSome (pattern_sort cons vars p) → seen_sort cons (seen_term f t) ≡ pattern_sort cons vars p → ⊥
con_no_node cons vars f p c ps t n is term_is there same =
    let s = some_of (pattern_sort cons vars p) there in
    let k = con_parts (slice_get cons c.0) (map (pattern_sort cons vars) ps) s.0 (sym (ap (pattern_sort cons vars) is ∙ pattern_sort-Con cons vars c ps) ∙ s.1) in
    let l = node_is (f n) s.0 (sym (ap (λ u. seen_sort cons (seen_term f u)) term_is ∙ plain_sort cons f n) ∙ same ∙ s.1) in
    let q : sort.Own k.con.sort ≡ sort.Plain (f n).sort = k.makes ∙ l.1 in
    cc

-- a variable's sort
pub bind_within : (cons : List Con) (vars : List Var) (p : Pattern) (i : ℕ) → p ≡ pattern.Bind i → IsSome (pattern_sort cons vars p) → i < length vars
bind_within cons vars p i is h = go vars i (subst IsSome (ap (pattern_sort cons vars) is ∙ pattern_sort-Bind cons vars i) h)
  where
    go : (xs : List Var) (i : ℕ) → IsSome (var_sort xs i) → i < length xs
    go [] i k = absurd (cc)
    go (x ∷ xs) zero k = omega arith
    go (x ∷ xs) (suc i) k = let l = go xs i k in omega arith

-- no patterns yet
pub none_joined : {N : Type 0} (cons : List Con) (vars : List Var) (variables : List DataSort) (m : SeenMatching N) → IsMatching cons vars m → AreAllJoined (scope_of cons vars variables) [] [] (change_of m m)
none_joined cons vars variables m lawful = record {
  clear = tt;
  lawful = lawful;
  binds = record { bound = λ i. (λ h. inl h, none i) };
  narrows = record { exact = λ v fits w. (λ h. (h, refl), λ h. h.0) };
}
  where
    none : (i : ℕ) → IsBound m.binds i ⊎ (0 < times_in i []) → IsBound m.binds i
    none i (inl h) = h
    none i (inr l) = absurd (omega arith)

-- one pattern more
module _ {N : Type 0} (cons : List Con) (vars : List Var) (variables : List DataSort) (xs : List Pattern) (ys : List (Term (Seen N))) (p : Pattern) (t : Term (Seen N)) (old mid new : SeenMatching N) (first : AreAllJoined (scope_of cons vars variables) xs ys (change_of old mid)) (next : AreJoined (scope_of cons vars variables) p t (change_of mid new)) where
  clear_more : (qs : List Pattern) (us : List (Term (Seen N))) → length qs ≡ length us → AllClear qs us → AllClear (qs ++ p ∷ []) (us ++ t ∷ [])
  clear_more [] [] l c = (next.clear, tt)
  clear_more [] (b ∷ us) l c = absurd (omega arith)
  clear_more (a ∷ qs) [] l c = absurd (omega arith)
  clear_more (a ∷ qs) (b ∷ us) l c = (c.0, clear_more qs us (omega arith) c.1)

  times_more : (i : ℕ) → times_in i (xs ++ p ∷ []) ≡ times_in i xs + times i p
  times_more i = sum_by-append (times i) xs (p ∷ []) ∙ ap (λ n. times_in i xs + n) (sum_by-cons (times i) p [] ∙ (omega arith))

  both_equal : (v : List Value) (w : Trees) → AllEqual (xs ++ p ∷ []) (ys ++ t ∷ []) v w ↔ (AllEqual xs ys v w × Equals p t v w)
  both_equal v w =
      let l = map-append (pattern_value w) xs (p ∷ []) in
      let r = map-append (tree_of v) ys (t ∷ []) in (
        λ h. same_from_push _ _ _ _ (sym l ∙ h ∙ r),
        λ h. l ∙ ap (λ zs. zs ++ pattern_value w p ∷ []) h.0 ∙ ap (λ z. map (tree_of v) ys ++ z ∷ []) h.1 ∙ sym r,
      )

  pub one_more : length xs ≡ length ys → AreAllJoined (scope_of cons vars variables) (xs ++ p ∷ []) (ys ++ t ∷ []) (change_of old new)
  one_more long = record {
    clear = clear_more xs ys long first.clear;
    lawful = next.lawful;
    binds = record { bound = λ i. (λ h. to i ((next.binds.bound i).0 h), λ h. (next.binds.bound i).1 (from i h)) };
    narrows = record {
      exact = λ v fits w. (
        λ h.
            let r = (next.narrows.exact v fits w).0 h in
            let s = (first.narrows.exact v fits w).0 r.0 in
            (s.0, (both_equal v w).1 (s.1, r.1)),
        λ h.
            let e = (both_equal v w).0 h.1 in
            (next.narrows.exact v fits w).1 ((first.narrows.exact v fits w).1 (h.0, e.0), e.1),
      );
    };
  }
    where
      to : (i : ℕ) → IsBound mid.binds i ⊎ (0 < times i p) → IsBound old.binds i ⊎ (0 < times_in i (xs ++ p ∷ []))
      to i (inl h) = before ((first.binds.bound i).0 h)
        where
          before : IsBound old.binds i ⊎ (0 < times_in i xs) → IsBound old.binds i ⊎ (0 < times_in i (xs ++ p ∷ []))
          before (inl k) = inl k
          before (inr l) = inr (let e = times_more i in omega arith)
      to i (inr l) = inr (let e = times_more i in omega arith)

      from : (i : ℕ) → IsBound old.binds i ⊎ (0 < times_in i (xs ++ p ∷ [])) → IsBound mid.binds i ⊎ (0 < times i p)
      from i (inl h) = inl ((first.binds.bound i).1 (inl h))
      from i (inr l) = split (cases_lt 0 (times i p))
        where
          split : (0 < times i p) ⊎ (times i p ≤ 0) → IsBound mid.binds i ⊎ (0 < times i p)
          split (inl k) = inr k
          split (inr k) = inl ((first.binds.bound i).1 (inr (let e = times_more i in omega arith)))

-- where the first patterns have bound their variables, the next may bind its own
pub repeats_next : {N : Type 0} (vars : List Var) (old mid : Bound N) (ps : List Pattern) (i : ℕ) (p : Pattern) → i < length ps → p ≡ get_or ps i p → RebindsOnlyScalars vars old (λ j. times_in j ps) → BindsAlso old mid (λ j. times_in j (take i ps)) → RebindsOnlyScalars vars mid (λ j. times j p)
repeats_next {N} vars old mid ps i p lt is repeats binds = record { each = λ j x there l. repeats.each j x there (enough j l) }
  where
    count : (qs : List Pattern) (k : ℕ) (q : Pattern) (j : ℕ) → k < length qs → q ≡ get_or qs k q → times_in j (take k qs) + times j q ≤ times_in j qs
    count [] k q j l e = absurd (omega arith)
    count (x ∷ qs) zero q j l e = let s = sum_by-cons (times j) x qs in let h = ap (times j) e in omega arith
    count (x ∷ qs) (suc k) q j l e =
        let s = sum_by-cons (times j) x qs in
        let s' = sum_by-cons (times j) x (take k qs) in
        let h = count qs k q j (omega arith) e in
        omega arith

    bound_once : (o : Option (Term (Seen N))) → (times_bound o ≡ 0) ⊎ (IsSome o × (times_bound o ≡ 1))
    bound_once None = inl refl
    bound_once (Some u) = inr (refl, refl)

    was_bound : (o : Option (Term (Seen N))) → IsSome o → times_bound o ≡ 1
    was_bound None h = absurd (cc)
    was_bound (Some u) h = refl

    enough : (j : ℕ) → 1 < times_bound (bound_at mid j) + times j p → 1 < times_bound (bound_at old j) + times_in j ps
    enough j l = go (bound_once (bound_at mid j))
      where
        whole : times_in j (take i ps) + times j p ≤ times_in j ps
        whole = count ps i p j lt is

        go : (times_bound (bound_at mid j) ≡ 0) ⊎ (IsSome (bound_at mid j) × (times_bound (bound_at mid j) ≡ 1)) → 1 < times_bound (bound_at old j) + times_in j ps
        go (inl e) = omega (arith, whole, l)
        go (inr e) = before ((binds.bound j).0 e.0)
          where
            before : IsBound old j ⊎ (0 < times_in j (take i ps)) → 1 < times_bound (bound_at old j) + times_in j ps
            before (inl h) = let once = was_bound (bound_at old j) h in omega (arith, whole, l, e.1)
            before (inr h) = omega (arith, whole, l, e.1)

-- they are apart anywhere where one is apart from its term
pub apart_at : {N : Type 0} (f g : N → Seen N) (ps : List Pattern) (ts : List (Term N)) (i : ℕ) (p : Pattern) (t : Term N) → i < length ps → i < length ts → p ≡ get_or ps i p → t ≡ get_or ts i t → seen_term g t ≡ seen_term f t → AreApart p (seen_term g t) → AreApartAnywhere ps (map (seen_term f) ts)
apart_at {N} f g ps ts i p t lp lt p_is t_is kept a = record {
  place = i;
  pattern = p;
  term = seen_term f t;
  stands = get-some ps i p lp ∙ ap Some (sym p_is);
  stands_against = mapped ts i t (get-some ts i t lt ∙ ap Some (sym t_is));
  apart = subst (AreApart p) kept a;
}
  where
    mapped : (us : List (Term N)) (k : ℕ) (u : Term N) → slice_get us k ≡ Some u → slice_get (map (seen_term f) us) k ≡ Some (seen_term f u)
    mapped [] k u h = absurd (cc)
    mapped (x ∷ us) zero u h = let e : x ≡ u = cc in ap (λ y. Some (seen_term f y)) e
    mapped (x ∷ us) (suc k) u h = mapped us k u h

-- the sort of the term at a place
sort_at : {A B C : Type 0} (f : C → Option Sort) (k : A → C) (g : B → Option Sort) (xs : List A) (ys : List B) (i : ℕ) (x : A) (y : B) → map f (map k xs) ≡ map g ys → i < length xs → x ≡ get_or xs i x → y ≡ get_or ys i y → f (k x) ≡ g y
sort_at f k g [] ys i x y h l e d = absurd (omega arith)
sort_at f k g (a ∷ xs) [] i x y h l e d = absurd (cc)
sort_at f k g (a ∷ xs) (b ∷ ys) zero x y h l e d = let q : f (k a) ≡ g b = cc in ap (λ z. f (k z)) e ∙ q ∙ ap g (sym d)
sort_at f k g (a ∷ xs) (b ∷ ys) (suc i) x y h l e d = let q : map f (map k xs) ≡ map g ys = cc in sort_at f k g xs ys i x y q (omega arith) e d

-- the pattern and the term at a place, in the domain as it grew up to there
module _ {N : Type 0} (cons : List Con) (vars : List Var) (f g : N → Seen N) (grown : Extends f g) (ps : List Pattern) (ts : List (Term N)) (i : ℕ) (p : Pattern) (t : Term N) (lp : i < length ps) (lt : i < length ts) (p_is : p ≡ get_or ps i p) (t_is : t ≡ get_or ts i t) (there : All (λ q. IsSome (pattern_sort cons vars q)) ps) (sorted : map (seen_sort cons) (map (seen_term f) ts) ≡ map (pattern_sort cons vars) ps) where
  pub pattern_there : IsSome (pattern_sort cons vars p)
  pattern_there = subst (λ q. IsSome (pattern_sort cons vars q)) (sym p_is) (All-get_or (λ q. IsSome (pattern_sort cons vars q)) ps i p lp there)

  sorted_before : seen_sort cons (seen_term f t) ≡ pattern_sort cons vars p
  sorted_before = sort_at (seen_sort cons) (seen_term f) (pattern_sort cons vars) ts ps i t p sorted lt t_is p_is

  pub term_kept : seen_term g t ≡ seen_term f t
  term_kept = let s = some_of (pattern_sort cons vars p) pattern_there in term_stays f g grown t (sorted_valid cons (seen_term f t) s.0 (sorted_before ∙ s.1))

  pub term_sorted : seen_sort cons (seen_term g t) ≡ pattern_sort cons vars p
  term_sorted = ap (seen_sort cons) term_kept ∙ sorted_before

  pub joined_more : (variables sorts : List DataSort) (old mid new : SeenMatching N) → sorts ≡ variables → length ts ≡ length ps → AreAllJoined (scope_of cons vars variables) (take i ps) (map (seen_term f) (take i ts)) (change_of old mid) → AreJoined (scope_of cons vars sorts) p (seen_term g t) (change_of mid new) → AreAllJoined (scope_of cons vars variables) (take (i + 1) ps) (map (seen_term f) (take (i + 1) ts)) (change_of old new)
  joined_more variables sorts old mid new same long first next =
      let here : AreJoined (scope_of cons vars variables) p (seen_term f t) (change_of mid new) = subst (λ u. AreJoined (scope_of cons vars variables) p u (change_of mid new)) term_kept (subst (λ ss. AreJoined (scope_of cons vars ss) p (seen_term g t) (change_of mid new)) same next) in
      let more : take (i + 1) ps ≡ take i ps ++ p ∷ [] = take_more ps i p lp ∙ ap (λ z. take i ps ++ z ∷ []) (sym p_is) in
      let further : map (seen_term f) (take (i + 1) ts) ≡ map (seen_term f) (take i ts) ++ seen_term f t ∷ [] =
      ap (map (seen_term f)) (take_more ts i t lt ∙ ap (λ z. take i ts ++ z ∷ []) (sym t_is)) ∙ map-append (seen_term f) (take i ts) (t ∷ []) in
      let as_many : length (take i ps) ≡ length (map (seen_term f) (take i ts)) = length-take-le i ps (omega arith) ∙ sym (length-map (take i ts) (seen_term f) ∙ length-take-le i ts (omega arith)) in
      subst (λ xs. AreAllJoined (scope_of cons vars variables) xs (map (seen_term f) (take (i + 1) ts)) (change_of old new)) (sym more)
      (subst (λ ys. AreAllJoined (scope_of cons vars variables) (take i ps ++ p ∷ []) ys (change_of old new)) (sym further)
      (one_more cons vars variables (take i ps) (map (seen_term f) (take i ts)) p (seen_term f t) old mid new first here as_many))
