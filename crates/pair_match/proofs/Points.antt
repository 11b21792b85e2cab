-- A point and two configurations: what the walks over its terms say of the relation.
use Rattle.std.proofs.Common.{◌≡◌, ℕ, zero, suc, ◌<◌, true, ◌&&◌, IsTrue, List, [], ◌∷◌, length, map, get_or, slice_get, Option, Some, None, IsSome, All, refl, sym, ap, ◌∙◌, subst, ◌⊎◌, inl, inr}
use Rattle.std.specs.Prelude.{replicate, option_map}
use Rattle.std.proofs.lemmas.Bool.{and_parts, and_from}
use Rattle.std.proofs.lemmas.List.{length-map, length-replicate}
use Rattle.std.proofs.lemmas.List.Elements.{All-nil}
use Rattle.std.proofs.lemmas.Option.{get_or_from_slice_get}
use Rattle.data_value.specs.declared.DataSort.{DataSort}
use Rattle.data_value.specs.declared.DataSort.TheVariants.{Bool as BoolSort}
use Rattle.data_value.specs.declared.Op.{Op}
use Rattle.data_value.specs.declared.Scalar.TheVariants.{Flag}
use Rattle.data_value.specs.declared.Value.{Value}
use Rattle.data_value.specs.declared.Value.TheVariants.{One}
use Rattle.data_value.specs.Nodes.{Seen, IsLawful, IsValuation}
use Rattle.data_value.specs.Truth.{IsTruth, all_true, truth}
use Rattle.data_value.proofs.TruthLemmas.{decides_all}
use Rattle.sort_term.specs.declared.ids.ConId.{ConId}
use Rattle.sort_term.specs.declared.points.Point.{Point}
use Rattle.sort_term.specs.declared.problem.Problem.{Problem}
use Rattle.sort_term.specs.declared.term.Sort.{Sort}
use Rattle.sort_term.specs.declared.term.Sort.TheVariants as sort
use Rattle.sort_term.specs.declared.term.Term.{Term}
use Rattle.sort_term.specs.declared.term.Term.TheVariants as term
use Rattle.sort_term.specs.declared.semantics.Con.{Con}
use Rattle.sort_term.specs.declared.rule.Var.{Var}
use Rattle.sort_term.specs.declared.rule.RuleExpr.{RuleExpr}
use Rattle.sort_term.specs.declared.rule.RuleExpr.TheVariants as expr
use Rattle.sort_term.specs.Tree.{Trees, value}
use Rattle.sort_term.specs.Sorted.{IsExprOf, applied_sort, expr_sort}
use Rattle.sort_term.specs.Signature.{is_plain}
use Rattle.sort_term.specs.Stands.{is_argument}
use Rattle.sort_term.specs.Cuts.{AllTrue}
use Rattle.sort_term.specs.Problems.{IsPointOf}
use Rattle.sort_term.specs.Relation.{IsPoint, Relates}
use Rattle.sort_term.specs.NodeTerms.{seen_term, seen_sort, tree_of}
use Rattle.sort_term.proofs.Agreeing.{fits_long}
use Rattle.sort_term.proofs.Arguments.{either_true}
use Rattle.sort_term.proofs.Each.{Each}
use Rattle.sort_term.proofs.Equations.{expr_sort-Var, expr_sort-Lit, expr_sort-Op, expr_sort-Con}
use Rattle.sort_term.proofs.Induction.{expr_ind}
use Rattle.sort_term.proofs.NodeTerming.{node_of, seen_sort-Plain}
use Rattle.sort_term.proofs.Parts.{con_parts}
use Rattle.sort_term.proofs.PartSorts.{op_parts_of}
use Rattle.sort_term.proofs.Standing.{get-below}
use Rattle.unify.specs.Binds.{Bound, seen_binds, bound_at, IsBound, AreBinds, Agrees}
use Rattle.unify.proofs.Binding.{var_there}
use Rattle.unify.proofs.Filled.{bound_there, agreeing_fits}
use Rattle.cut_cover.specs.Conditions.{IsBoundCondition, IsTrueWhere}
use Rattle.probe_keys.specs.Cases.{AreSame}
use Rattle.pair_match.specs.Bound.{AreAllBound, bound_to}
use Rattle.pair_match.specs.Clash.{ClashSomewhere}
use Rattle.pair_match.specs.Determines.{Determines}
use Rattle.pair_match.specs.Matches.{AreApart, AreMatched, trees_of}
use Rattle.pair_match.specs.Related.{IsDetermined, IsTestOf}
use Rattle.pair_match.specs.Sameness.{SeenSameness, nothing, SamenessHolds, AddsWhere}
use Rattle.pair_match.proofs.Clashes.{clash_differs}
use Rattle.pair_match.proofs.Determiners.{stays_bound}
use Rattle.pair_match.proofs.Nodes.{below, data_is_node, var_plain, all_binds, all_bound, sort_all_bound, nodes_of, agrees_self, agrees_only}

-- the point that was read at a place is the point with that number
pub point_read : (q : Problem) (k : ℕ) (points : List Point) (r p : Point) → points ≡ q.points.points → r ≡ get_or points k r → IsPoint q k p → r ≡ p
point_read q k points r p same is there = is ∙ ap (λ xs. get_or xs k r) same ∙ get_or_from_slice_get q.points.points k p r there

-- no variable is bound yet
none_bound : {N : Type 0} (f : N → Seen N) (n i : ℕ) → bound_at (seen_binds f (replicate n None)) i ≡ None
none_bound f zero i = refl
none_bound f (suc n) zero = refl
none_bound f (suc n) (suc i) = none_bound f n i

module _ {N : Type 0} (f : N → Seen N) (n : ℕ) (binds : List (Option (Term N))) (none : binds ≡ replicate n None) where
  unbound : (i : ℕ) → bound_at (seen_binds f binds) i ≡ None
  unbound i = ap (λ bs. bound_at (seen_binds f bs) i) none ∙ none_bound f n i

  pub unbound_lawful : (cons : List Con) (vars : List Var) → length vars ≡ n → AreBinds cons vars (seen_binds f binds)
  unbound_lawful cons vars long = record {
    long = length-map binds (option_map (seen_term f)) ∙ ap length none ∙ length-replicate n None ∙ sym long;
    sorted = λ i t h. absurd (let e : None ≡ Some t = sym (unbound i) ∙ h in cc);
  }

  unbound_agrees : (v : List Value) (w : Trees) → Agrees v (seen_binds f binds) w
  unbound_agrees v w = record { at = λ i t h. absurd (let e : None ≡ Some t = sym (unbound i) ∙ h in cc) }

-- variables of sorts of data are bound to terms of their sorts whatever the constructors
module _ {N : Type 0} (cons other : List Con) (vars : List Var) (plain : All (λ x. IsTrue (is_plain x.sort)) vars) (bs : Bound N) (lawful : AreBinds cons vars bs) where
  bound_node : (i : ℕ) (x : Var) (t : Term (Seen N)) → slice_get vars i ≡ Some x → bound_at bs i ≡ Some t → (s : Seen N) × (t ≡ term.Plain s) × IsTrue s.valid × (x.sort ≡ sort.Plain s.sort)
  bound_node i x t there h =
      let d = var_plain vars i x plain there in
      let sorted : seen_sort cons t ≡ Some (sort.Plain d.0) = lawful.sorted i t h ∙ ap (option_map (λ (y : Var). y.sort)) there ∙ ap Some d.1 in
      let s = data_is_node cons t d.0 sorted in
      (s.0, s.1, s.2, d.1 ∙ ap sort.Plain s.3)

  pub all_are_bound : ((i : ℕ) → i < length vars → IsBound bs i) → AreAllBound vars bs
  all_are_bound all = record {
    long = lawful.long;
    each = λ i x there.
        let l : i < length vars = get-below vars i x there in
        let t = bound_there (bound_at bs i) (all i l) in
        let s = bound_node i x t.0 there t.1 in
        (s.0, t.1 ∙ ap Some s.1, s.2, s.3);
  }

  pub other_binds : AreBinds other vars bs
  other_binds = record {
    long = lawful.long;
    sorted = λ i t h.
        let x = var_there vars i (subst (λ n. i < n) lawful.long (below bs i t h)) in
        let s = bound_node i x.0 t x.1 h in
        ap (seen_sort other) s.1 ∙ seen_sort-Plain other s.0 ∙ node_of s.0 s.0.sort s.2 refl ∙ ap Some (sym s.3) ∙ sym (ap (option_map (λ (y : Var). y.sort)) x.1);
  }

-- an expression that has a sort where no constructor is known has it whatever the constructors
module _ (cons : List Con) (vars : List Var) where
  abbrev SortStays : RuleExpr → Type 0
  SortStays e = (s : Sort) → expr_sort [] vars e ≡ Some s → expr_sort cons vars e ≡ Some s

  each_stays : (es : List RuleExpr) → Each SortStays es → (ds : List DataSort) → map (expr_sort [] vars) es ≡ map (λ d. Some (sort.Plain d)) ds → map (expr_sort cons vars) es ≡ map (expr_sort [] vars) es
  each_stays [] k ds h = refl
  each_stays (e ∷ es) k [] h = absurd (cc)
  each_stays (e ∷ es) k (d ∷ ds) h =
      let q : expr_sort [] vars e ≡ Some (sort.Plain d) = cc in
      let more : map (expr_sort [] vars) es ≡ map (λ x. Some (sort.Plain x)) ds = cc in
      let here : expr_sort cons vars e ≡ expr_sort [] vars e = k.0 (sort.Plain d) q ∙ sym q in
      let rest = each_stays es k.1 ds more in
      cc

  op_stays : (op : Op) (es : List RuleExpr) → Each SortStays es → SortStays (expr.Op op es)
  op_stays op es k s h =
      let p = op_parts_of [] vars op es s h in
      expr_sort-Op cons vars op es ∙ ap (applied_sort op) (each_stays es k p.args p.sorts) ∙ sym (expr_sort-Op [] vars op es) ∙ h

  con_stays : (k : ConId) (es : List RuleExpr) → SortStays (expr.Con k es)
  con_stays k es s h =
      let p = con_parts (slice_get [] k.0) (map (expr_sort [] vars) es) s (sym (expr_sort-Con [] vars k es) ∙ h) in
      let q : None ≡ Some p.con = p.is_con in
      absurd (cc)

  sort_stays : (e : RuleExpr) → SortStays e
  sort_stays = expr_ind SortStays
      (λ i s h. expr_sort-Var cons vars i ∙ sym (expr_sort-Var [] vars i) ∙ h)
      (λ x s h. expr_sort-Lit cons vars x ∙ sym (expr_sort-Lit [] vars x) ∙ h)
      op_stays
      (λ k es e. con_stays k es)

-- the conditions of a point, where each variable has the sort of its node
pub whens_bound : {N : Type 0} (cons : List Con) (vars : List Var) (bs : Bound N) (whens : List RuleExpr) → AreAllBound vars bs → All (IsExprOf [] vars (sort.Plain BoolSort)) whens → All (IsBoundCondition cons bs) whens
whens_bound cons vars bs whens all sorted k d l =
    let e = get_or whens k d in
    let is = sort_stays cons vars e (sort.Plain BoolSort) (sorted k d l).is in
    record { sorted = sort_all_bound vars bs all cons e (subst IsSome (sym is) refl) ∙ is }

-- the test of a point, from its equations and its conditions
pub test_joined : {N : Type 0} (bs : Bound N) (equations : List (Seen N)) (whens : List RuleExpr) (equal holding s : Seen N) → IsTruth equal (all_true equations) → IsTrueWhere bs (λ w. AllTrue w whens) holding → IsTruth s (λ v. truth equal v && truth holding v) → IsTestOf bs equations whens s
test_joined bs equations whens equal holding s all holds joins = record {
  condition = joins.condition;
  exact = λ v w a. (
    λ h.
        let parts = and_parts (truth equal v) (truth holding v) (sym (joins.means v) ∙ h) in
        ((decides_all v equations).0 (sym (all.means v) ∙ parts.0), (holds.exact v w a).0 parts.1),
    λ h. joins.means v ∙ and_from (truth equal v) (truth holding v) (all.means v ∙ (decides_all v equations).1 h.0) ((holds.exact v w a).1 h.1),
  );
}

-- where a constructor clashes the point relates them under no valuation
pub clash_apart : {N : Type 0} (variables : List DataSort) (q : Problem) (p : Point) (a b : Term (Seen N)) → ClashSomewhere p.left a ⊎ ClashSomewhere p.right b → AreApart variables q p a b
clash_apart variables q p a b c = record { clash = c; never = λ v fits w r. go v w r c }
  where
    go : (v : List Value) (w : Trees) → Relates q p w (tree_of v a) (tree_of v b) → ClashSomewhere p.left a ⊎ ClashSomewhere p.right b → ⊥
    go v w r (inl k) = clash_differs v w p.left a k r.left
    go v w r (inr k) = clash_differs v w p.right b k r.right

module _ {N : Type 0} (q : Problem) (p : Point) (checked : IsPointOf q.left q.right p) (a b : Term (Seen N)) where
  -- both walks determine each variable
  pub both_determine : (f : N → Seen N) (n : ℕ) (binds : List (Option (Term N))) (none : binds ≡ replicate n None) (mid new : Bound N) → Determines q.left.cons p.vars p.left a (seen_binds f binds) mid → Determines q.right.cons p.vars p.right b mid new → IsDetermined p a b new
  both_determine f n binds none mid new dl dr = record {
    left_clear = dl.clear;
    right_clear = dr.clear;
    bound = all_are_bound q.right.cons [] p.vars checked.vars.sorts new dr.lawful (λ i l. part i (either_true (is_argument i p.left) (is_argument i p.right) (checked.determined.each i l)));
    complete = λ v w l r. dr.complete v w (dl.complete v w (unbound_agrees f n binds none v w) l) r;
  }
    where
      part : (i : ℕ) → IsTrue (is_argument i p.left) ⊎ IsTrue (is_argument i p.right) → IsBound new i
      part i (inl h) = stays_bound mid new i (dr.keeps i) (dl.arguments i h)
      part i (inr h) = dr.arguments i h

  -- where the point relates them
  module _ (f : N → Seen N) (variables : List DataSort) (laws : IsLawful f variables) (binds : List (Option (Term N))) (ss : List (Seen N)) (nodes : seen_binds f binds ≡ bound_to ss) (determined : IsDetermined p a b (seen_binds f binds)) (s : SeenSameness N) (adds : AddsWhere variables (seen_binds f binds) nothing s (λ v w. (value w p.left ≡ tree_of v a) × (value w p.right ≡ tree_of v b))) (test : Seen N) (tests : IsTestOf (seen_binds f binds) s.equations p.whens test) where
    bound : AreAllBound p.vars (seen_binds f binds)
    bound = determined.bound

    as_many : length ss ≡ length p.vars
    as_many = sym (length-map ss (λ u. Some (term.Plain u))) ∙ ap length (sym nodes) ∙ bound.long

    agrees_trees : (v : List Value) → Agrees v (seen_binds f binds) (trees_of v ss)
    agrees_trees v = subst (λ bs. Agrees v bs (trees_of v ss)) (sym nodes) (agrees_self v ss)

    nothing_holds : (v : List Value) → SamenessHolds {N = N} v nothing
    nothing_holds v = record { equal = All-nil (λ u. u.meaning v ≡ One (Flag true)); same = All-nil (AreSame v) }

    to : (v : List Value) → IsValuation variables v → (w : Trees) → Relates q p w (tree_of v a) (tree_of v b) → (w ≡ trees_of v ss) × (truth test v ≡ true) × All (AreSame v) s.maps
    to v fits w r =
        let agrees = determined.complete v w r.left r.right in
        let holds = (adds.exact v fits w agrees).1 (nothing_holds v, (r.left, r.right)) in (
          agrees_only v ss w (fits_long [] p.vars w r.holds.fits ∙ sym as_many) (subst (λ bs. Agrees v bs w) nodes agrees),
          (tests.exact v w agrees).1 (holds.equal, r.holds.whens),
          holds.same,
        )

    from : (v : List Value) → IsValuation variables v → (truth test v ≡ true) → All (AreSame v) s.maps → Relates q p (trees_of v ss) (tree_of v a) (tree_of v b)
    from v fits t m =
        let w = trees_of v ss in
        let agrees = agrees_trees v in
        let true_parts = (tests.exact v w agrees).0 t in
        let sides = ((adds.exact v fits w agrees).0 (record { equal = true_parts.0; same = m })).1 in
        record {
          holds = record {
            fits = agreeing_fits f variables [] p.vars binds laws (all_binds p.vars (seen_binds f binds) bound []) (all_bound p.vars (seen_binds f binds) bound) v fits w (length-map ss (λ (u : Seen N). term.Plain (u.meaning v)) ∙ as_many ∙ sym bound.long) agrees;
            whens = true_parts.1;
          };
          left = sides.0;
          right = sides.1;
        }

    pub point_matched : AreMatched variables q p a b ss test s.maps
    point_matched = record {
      left_clear = determined.left_clear;
      right_clear = determined.right_clear;
      binds_sorted = nodes_of p.vars ss (subst (AreAllBound p.vars) nodes bound);
      test_sorted = tests.condition;
      maps_sorted = adds.lawful.maps;
      exact = λ v fits w. (
        to v fits w,
        λ h. subst (λ u. Relates q p u (tree_of v a) (tree_of v b)) (sym h.0) (from v fits h.1 h.2),
      );
    }
