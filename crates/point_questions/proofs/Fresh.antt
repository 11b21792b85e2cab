-- A point over fresh variables of a domain.
use Rattle.std.proofs.Common.{◌≡◌, ◌⊎◌, inl, inr, ℕ, zero, suc, ◌+◌, ◌<◌, ◌≤◌, IsTrue, List, [], ◌∷◌, ◌++◌, length, map, take, get_or, slice_get, Option, Some, None, All, refl, sym, ap, ◌∙◌, subst}
use Rattle.std.specs.Prelude.{option_map}
use Rattle.std.proofs.Math.Seq.{get_or-append_seam}
use Rattle.std.proofs.lemmas.List.{length_push, map-append, take_more, take_all, get_or_append_left, length-map}
use Rattle.std.proofs.lemmas.List.Elements.{All-nil, All-cons, All-head, All-tail}
use Rattle.std.proofs.lemmas.Option.{same_Some}
use Rattle.data_value.specs.declared.DataSort.{DataSort}
use Rattle.data_value.specs.declared.Value.{Value}
use Rattle.data_value.specs.Values.{IsValue, IsValueOf, value_sort}
use Rattle.data_value.specs.Nodes.{Seen, Extends, IsValuation}
use Rattle.data_value.specs.Views.{IsVariable, value_at}
use Rattle.sort_term.specs.declared.ids.ConId.{ConId}
use Rattle.sort_term.specs.declared.points.Point.{Point}
use Rattle.sort_term.specs.declared.problem.Problem.{Problem}
use Rattle.sort_term.specs.declared.rule.Var.{Var}
use Rattle.sort_term.specs.declared.semantics.Con.{Con}
use Rattle.sort_term.specs.declared.term.Sort.TheVariants as sort
use Rattle.sort_term.specs.declared.term.Term.{Term}
use Rattle.sort_term.specs.declared.term.Term.TheVariants as term
use Rattle.sort_term.specs.Cuts.{AllTrue}
use Rattle.sort_term.specs.Relation.{Relates}
use Rattle.sort_term.specs.Sorted.{IsValuationOf, tree_sort}
use Rattle.sort_term.specs.Tree.{Tree, Trees, tree_at, plain_of, value}
use Rattle.sort_term.specs.NodeTerms.{seen_term, tree_of}
use Rattle.sort_term.proofs.Equations.{plain_of-Plain, tree_sort-Plain, tree_sort-Con}
use Rattle.sort_term.proofs.Induction.{term_ind}
use Rattle.sort_term.proofs.Parts.{con_parts}
use Rattle.sort_term.proofs.NodeTerming.{seen-Plain, tree_of-Plain}
use Rattle.sort_term.proofs.Sorting.{plain-tree, leaf-of}
use Rattle.sort_term.proofs.Standing.{get-below}
use Rattle.unify.specs.Binds.{Bound, seen_binds, bound_at, Agrees}
use Rattle.unify.specs.Branches.{IsConfiguration}
use Rattle.cut_cover.specs.Conditions.{IsTrueWhere}
use Rattle.pair_match.specs.Bound.{AreAllBound}
use Rattle.pair_match.proofs.Nodes.{bound_stay}
use Rattle.point_questions.specs.Posed.{trees, AreOfVars, AreFresh, MeansPair, IsPosed}

-- an item of a list with one more behind it
pushed_get : {X : Type 0} (xs : List X) (x y : X) (i : ℕ) → slice_get (xs ++ x ∷ []) i ≡ Some y → (slice_get xs i ≡ Some y) ⊎ ((i ≡ length xs) × (x ≡ y))
pushed_get [] x y zero h = inr (refl, cc)
pushed_get [] x y (suc i) h = absurd (cc)
pushed_get (z ∷ xs) x y zero h = inl h
pushed_get (z ∷ xs) x y (suc i) h = elim (pushed_get xs x y i h) [ inl e ↦ inl e | inr e ↦ inr (ap suc e.0, e.1) ]

pushed_bound : {X : Type 0} (bs : List (Option X)) (b : Option X) (i : ℕ) (t : X) → bound_at (bs ++ b ∷ []) i ≡ Some t → (bound_at bs i ≡ Some t) ⊎ ((i ≡ length bs) × (b ≡ Some t))
pushed_bound [] b zero t h = inr (refl, h)
pushed_bound [] b (suc i) t h = absurd (cc)
pushed_bound (c ∷ bs) b zero t h = inl h
pushed_bound (c ∷ bs) b (suc i) t h = elim (pushed_bound bs b i t h) [ inl e ↦ inl e | inr e ↦ inr (ap suc e.0, e.1) ]

module _ {N : Type 0} (xs : List Var) (bs : Bound N) (x : Var) (s : Seen N) where
  -- one variable more that is bound to a node
  bound_push : AreAllBound xs bs → IsTrue s.valid → x.sort ≡ sort.Plain s.sort → AreAllBound (xs ++ x ∷ []) (bs ++ Some (term.Plain s) ∷ [])
  bound_push all ok sorted = record {
    long = length_push bs (Some (term.Plain s)) ∙ ap (λ n. n + 1) all.long ∙ sym (length_push xs x);
    each = λ i y h.
        elim (pushed_get xs x y i h) [
          | inl e ↦
              let r = all.each i y e in
              let l : i < length bs = subst (λ n. i < n) (sym all.long) (get-below xs i y e) in
              (r.0, get_or_append_left bs (Some (term.Plain s) ∷ []) None i l ∙ r.1, r.2, r.3)
          | inr e ↦
              let last : i ≡ length bs = e.0 ∙ sym all.long in
              (s, ap (λ n. bound_at (bs ++ Some (term.Plain s) ∷ []) n) last ∙ get_or-append_seam bs (Some (term.Plain s)) [] None, ok, ap (λ (z : Var). z.sort) (sym e.1) ∙ sorted)
        ];
  }

plain_same : (a b : DataSort) → sort.Plain a ≡ sort.Plain b → a ≡ b
plain_same a b e = cc

plain_term : {N : Type 0} (t u : Term N) → Some t ≡ Some u → t ≡ u
plain_term t u e = cc

module _ {N : Type 0} (f g : N → Seen N) (grown : Extends f g) (vars : List Var) (variables : List DataSort) (binds : List (Option (Term N))) where
  -- no variable is bound yet
  pub fresh_none : variables ≡ [] → binds ≡ [] → AreFresh (take 0 vars) variables (seen_binds f binds)
  fresh_none none empty = record {
    sorts = ap (map sort.Plain) none;
    bound = record { long = ap (λ bs. length (seen_binds f bs)) empty; each = λ i y h. absurd (cc) };
    mean = λ i t h. absurd (let e : None ≡ Some t = ap (λ bs. bound_at (seen_binds f bs) i) (sym empty) ∙ h in cc);
  }

  -- one more
  pub fresh_more : (i : ℕ) (x : Var) → i < length vars → x ≡ get_or vars i x → AreFresh (take i vars) variables (seen_binds f binds) → (s : DataSort) (after : List DataSort) → x.sort ≡ sort.Plain s → after ≡ variables ++ s ∷ [] → (n : N) → IsVariable g after (length variables) n → (new : List (Option (Term N))) → new ≡ binds ++ Some (term.Plain n) ∷ [] → AreFresh (take (i + 1) vars) after (seen_binds g new)
  fresh_more i x l is so_far s after sorted grows n variable new push =
      subst (λ bs. AreFresh (take (i + 1) vars) after bs) (sym seen) (subst (λ xs. AreFresh xs after (bs ++ Some (term.Plain (g n)) ∷ [])) (sym more) (record {
        sorts = ap (map sort.Plain) grows ∙ map-append sort.Plain variables (s ∷ []) ∙ ap (λ ss. ss ++ sort.Plain s ∷ []) so_far.sorts ∙ ap (λ z. map (λ (y : Var). y.sort) (take i vars) ++ z ∷ []) (sym sorted) ∙ sym (map-append (λ (y : Var). y.sort) (take i vars) (x ∷ []));
        bound = bound_push (take i vars) bs x (g n) so_far.bound variable.valid (sorted ∙ ap sort.Plain same_sort);
        mean = λ j t h v.
            elim (pushed_bound bs (Some (term.Plain (g n))) j t h) [
              | inl e ↦ so_far.mean j t e v
              | inr e ↦
                  let place : j ≡ length variables = e.0 ∙ as_many in
                  ap (tree_of v) (sym (plain_term (term.Plain (g n)) t e.1)) ∙ tree_of-Plain v (g n) ∙ ap term.Plain (variable.means v) ∙ ap (λ k. term.Plain (value_at v k)) (sym place)
            ];
      }))
    where
      bs : Bound N
      bs = seen_binds f binds

      more : take (i + 1) vars ≡ take i vars ++ x ∷ []
      more = take_more vars i x l ∙ ap (λ z. take i vars ++ z ∷ []) (sym is)

      seen : seen_binds g new ≡ seen_binds f binds ++ Some (term.Plain (g n)) ∷ []
      seen =
          ap (seen_binds g) push ∙ map-append (option_map (seen_term g)) binds (Some (term.Plain n) ∷ [])
          ∙ ap (λ xs. xs ++ option_map (seen_term g) (Some (term.Plain n)) ∷ []) (bound_stay f g grown (take i vars) binds so_far.bound)
          ∙ ap (λ t. seen_binds f binds ++ Some t ∷ []) (seen-Plain g n)

      lengths : length variables ≡ length (take i vars)
      lengths = sym (length-map variables sort.Plain) ∙ ap length so_far.sorts ∙ length-map (take i vars) (λ (y : Var). y.sort)

      as_many : length (seen_binds f binds) ≡ length variables
      as_many = so_far.bound.long ∙ sym lengths

      same_sort : s ≡ (g n).sort
      same_sort =
          same_Some s (g n).sort (
          sym (get-some-last variables s)
          ∙ ap (λ ss. slice_get ss (length variables)) (sym grows)
          ∙ variable.sort
          )
        where
          get-some-last : (ss : List DataSort) (z : DataSort) → slice_get (ss ++ z ∷ []) (length ss) ≡ Some z
          get-some-last [] z = refl
          get-some-last (y ∷ ss) z = get-some-last ss z

-- all variables
pub fresh_all : {N : Type 0} (vars : List Var) (variables : List DataSort) (bs : Bound N) (i : ℕ) → length vars ≤ i → AreFresh (take i vars) variables bs → AreFresh vars variables bs
fresh_all vars variables bs i past is = subst (λ xs. AreFresh xs variables bs) (take_all i vars past) is

-- a tree of a sort of data is a value
tree_is_value : (cons : List Con) (t : Tree) (d : DataSort) → tree_sort cons t ≡ Some (sort.Plain d) → t ≡ term.Plain (plain_of t)
tree_is_value cons t d =
    term_ind Value (λ u. tree_sort cons u ≡ Some (sort.Plain d) → u ≡ term.Plain (plain_of u))
    (λ x h. ap term.Plain (sym (plain_of-Plain x)))
    (λ k ts e h. absurd (own k ts h))
    t
  where
    own : (k : ConId) (ts : List Tree) → tree_sort cons (term.Con k ts) ≡ Some (sort.Plain d) → ⊥
    own k ts h =
        let p = con_parts (slice_get cons k.0) (map (tree_sort cons) ts) (sort.Plain d) (sym (tree_sort-Con cons k ts) ∙ h) in
        let q : sort.Own p.con.sort ≡ sort.Plain d = p.makes in
        cc

-- the values of a valuation of a point
record Values (variables : List DataSort) (w : Trees) : Type 0 where
  values : List Value
  fits : IsValuation variables values
  is : w ≡ trees values

values_of : (vars : List Var) (variables : List DataSort) (w : Trees) → AreOfVars vars variables → IsValuationOf [] vars w → Values variables w
values_of [] [] [] e f = record { values = []; fits = record { values = All-nil IsValue; sorted = refl }; is = refl }
values_of [] [] (t ∷ w) e f = absurd (cc)
values_of [] (d ∷ variables) w e f = absurd (cc)
values_of (x ∷ vars) [] w e f = absurd (cc)
values_of (x ∷ vars) (d ∷ variables) [] e f = absurd (cc)
values_of (x ∷ vars) (d ∷ variables) (t ∷ w) e f =
    let first : sort.Plain d ≡ x.sort = cc in
    let more : map sort.Plain variables ≡ map (λ (y : Var). y.sort) vars = cc in
    let here : tree_sort [] t ≡ Some x.sort = cc in
    let rest : map (tree_sort []) w ≡ map (λ (y : Var). Some y.sort) vars = cc in
    let sorted : tree_sort [] t ≡ Some (sort.Plain d) = here ∙ ap Some (sym first) in
    let r = values_of vars variables w more rest in
    let one : IsValueOf d (plain_of t) = plain-tree [] d t sorted in
    let head : value_sort (plain_of t) ≡ d = one.sort in
    let tail : map value_sort r.values ≡ variables = r.fits.sorted in
    let tree : t ≡ term.Plain (plain_of t) = tree_is_value [] t d sorted in
    let trees_more : w ≡ trees r.values = r.is in
    record {
      values = plain_of t ∷ r.values;
      fits = record { values = All-cons IsValue (plain_of t) r.values one.value r.fits.values; sorted = cc };
      is = cc;
    }

values_fit : (vars : List Var) (variables : List DataSort) (v : List Value) → AreOfVars vars variables → All IsValue v → map value_sort v ≡ variables → IsValuationOf [] vars (trees v)
values_fit [] [] [] e a f = refl
values_fit [] [] (x ∷ v) e a f = absurd (cc)
values_fit [] (d ∷ variables) v e a f = absurd (cc)
values_fit (y ∷ vars) [] v e a f = absurd (cc)
values_fit (y ∷ vars) (d ∷ variables) [] e a f = absurd (cc)
values_fit (y ∷ vars) (d ∷ variables) (x ∷ v) e a f =
    let first : sort.Plain d ≡ y.sort = cc in
    let more : map sort.Plain variables ≡ map (λ (z : Var). z.sort) vars = cc in
    let head : value_sort x ≡ d = cc in
    let tail : map value_sort v ≡ variables = cc in
    let rest : map (tree_sort []) (trees v) ≡ map (λ (z : Var). Some z.sort) vars = values_fit vars variables v more (All-tail IsValue x v a) tail in
    let here : tree_sort [] (term.Plain x) ≡ Some y.sort = tree_sort-Plain [] x ∙ leaf-of x d (record { value = All-head IsValue x v a; sort = head }) ∙ ap Some first in
    cc

tree_of_value : (v : List Value) (i : ℕ) → tree_at (trees v) i ≡ term.Plain (value_at v i)
tree_of_value [] i = refl
tree_of_value (x ∷ v) zero = refl
tree_of_value (x ∷ v) (suc i) = tree_of_value v i

module _ {N : Type 0} (q : Problem) (p : Point) (variables : List DataSort) (bs : Bound N) (fresh : AreFresh p.vars variables bs) (c : Seen N) (a b : Term (Seen N)) where
  agrees : (v : List Value) → Agrees v bs (trees v)
  agrees v = record { at = λ i t h. tree_of_value v i ∙ sym (fresh.mean i t h v) }

  pub posed_is : IsTrueWhere bs (λ w. AllTrue w p.whens) c → IsConfiguration q.left a → IsConfiguration q.right b → ((v : List Value) (w : Trees) → Agrees v bs w → value w p.left ≡ tree_of v a) → ((v : List Value) (w : Trees) → Agrees v bs w → value w p.right ≡ tree_of v b) → IsPosed variables q p (record { condition = c; left = a; right = b })
  posed_is conditions left right means_left means_right = record {
    sorts = fresh.sorts;
    condition = conditions.condition;
    left = left;
    right = right;
    exact = λ w s t. (to w s t, from w s t);
  }
    where
      to : (w : Trees) (s t : Tree) → Relates q p w s t → (v : List Value) × (w ≡ trees v) × MeansPair variables (record { condition = c; left = a; right = b }) v s t
      to w s t r =
          let x = values_of p.vars variables w fresh.sorts r.holds.fits in
          let agree : Agrees x.values bs w = subst (Agrees x.values bs) (sym x.is) (agrees x.values) in (
            x.values,
            x.is,
            record {
              fits = x.fits;
              holds = (conditions.exact x.values w agree).1 r.holds.whens;
              left = sym (means_left x.values w agree) ∙ r.left;
              right = sym (means_right x.values w agree) ∙ r.right;
            },
          )

      from : (w : Trees) (s t : Tree) → ((v : List Value) × (w ≡ trees v) × MeansPair variables (record { condition = c; left = a; right = b }) v s t) → Relates q p w s t
      from w s t x =
          let v = x.0 in
          let m = x.2 in
          subst (λ u. Relates q p u s t) (sym x.1) (record {
            holds = record { fits = values_fit p.vars variables v fresh.sorts m.fits.values m.fits.sorted; whens = (conditions.exact v (trees v) (agrees v)).0 m.holds };
            left = means_left v (trees v) (agrees v) ∙ m.left;
            right = means_right v (trees v) (agrees v) ∙ m.right;
          })

-- the same point
pub posed_same : {N : Type 0} (q : Problem) (p : Point) (variables : List DataSort) (c d : Seen N) (a s b t : Term (Seen N)) → d ≡ c → s ≡ a → t ≡ b → IsPosed variables q p (record { condition = c; left = a; right = b }) → IsPosed variables q p (record { condition = d; left = s; right = t })
posed_same q p variables c d a s b t e f g is =
    subst (λ x. IsPosed variables q p (record { condition = x; left = s; right = t })) (sym e)
    (subst (λ x. IsPosed variables q p (record { condition = c; left = x; right = t })) (sym f)
    (subst (λ x. IsPosed variables q p (record { condition = c; left = a; right = x })) (sym g) is))
