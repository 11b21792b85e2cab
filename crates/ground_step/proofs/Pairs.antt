-- A point and a pair of states: what the walks over its terms say of the relation.
use Rattle.std.proofs.Common.{rules, arith, ◌≡◌, ℕ, zero, suc, ◌+◌, ◌<◌, ◌≤◌, true, false, IsTrue, List, [], ◌∷◌, ◌++◌, length, map, take, get_or, slice_get, Option, Some, None, IsSome, All, refl, sym, ap, ◌∙◌, subst, ◌⊎◌, inl, inr}
use Rattle.std.specs.Prelude.{replicate}
use Rattle.std.proofs.lemmas.Bool.{cases_lt, or_right}
use Rattle.std.proofs.lemmas.List.{length-map, length-replicate, map-append, take_more}
use Rattle.std.proofs.lemmas.List.Elements.{All-head, All-tail}
use Rattle.std.proofs.lemmas.Option.{slice_get_within, get_or_from_slice_get}
use Rattle.data_value.specs.declared.DataSort.{DataSort}
use Rattle.data_value.specs.declared.DataSort.TheVariants.{Bool as BoolSort}
use Rattle.data_value.specs.declared.Op.{Op}
use Rattle.data_value.specs.declared.Value.{Value}
use Rattle.data_value.specs.Ground.{ground_seen}
use Rattle.sort_term.specs.declared.ids.ConId.{ConId}
use Rattle.sort_term.specs.declared.term.Sort.{Sort}
use Rattle.sort_term.specs.declared.term.Sort.TheVariants.{Own, Plain}
use Rattle.sort_term.specs.declared.term.Term.TheVariants as term
use Rattle.sort_term.specs.declared.semantics.Con.{Con}
use Rattle.sort_term.specs.declared.points.Point.{Point}
use Rattle.sort_term.specs.declared.problem.Problem.{Problem}
use Rattle.sort_term.specs.declared.rule.Var.{Var}
use Rattle.sort_term.specs.declared.rule.RuleExpr.{RuleExpr}
use Rattle.sort_term.specs.declared.rule.RuleExpr.TheVariants as expr
use Rattle.sort_term.specs.Tree.{Tree, Trees, plain_of, tree_at, value}
use Rattle.sort_term.specs.Sorted.{applied_sort, var_sort, tree_sort, expr_sort, IsValuationOf}
use Rattle.sort_term.specs.Signature.{is_plain}
use Rattle.sort_term.specs.Stands.{is_argument, argument_of}
use Rattle.sort_term.specs.Step.{IsState}
use Rattle.sort_term.specs.Cuts.{AllTrue}
use Rattle.sort_term.specs.Problems.{IsPointOf}
use Rattle.sort_term.specs.Relation.{IsPoint, Relates, Related}
use Rattle.sort_term.specs.NodeTerms.{seen_sort}
use Rattle.sort_term.proofs.Agreeing.{fits_long}
use Rattle.sort_term.proofs.Each.{Each}
use Rattle.sort_term.proofs.Equations.{expr_sort-Var, expr_sort-Lit, expr_sort-Op, expr_sort-Con, tree_sort-Plain, tree_sort-Con, plain_of-Plain}
use Rattle.sort_term.proofs.GroundTerms.{ground_sort}
use Rattle.sort_term.proofs.Induction.{expr_ind, term_ind}
use Rattle.sort_term.proofs.Sorting.{expr_keeps}
use Rattle.ground_step.specs.GroundBinds.{ground_binds, AgreesGround, Restricts}
use Rattle.ground_step.specs.Ready.{IsKnown, IsEvaluable}
use Rattle.ground_step.specs.Fit.{ReadsWithin, Determines, IsValueBound, some_plain, plain_trees, IsOnlyFit, RelationIs}
use Rattle.ground_step.proofs.Bound.{tree_there, agrees_none, agrees_at, agrees_from, agrees_tail}
use Rattle.sort_term.proofs.Parts.{con_parts}
use Rattle.sort_term.proofs.PartSorts.{op_parts_of}
use Rattle.unify.specs.Binds.{AreBinds}
use Rattle.unify.proofs.Evaluated.{bound_seen}
use Rattle.sort_term.proofs.Declared.{declares, fits_each}
use Rattle.sort_term.proofs.Arguments.{either_true}
use Rattle.ground_step.proofs.Determined.{stays_known}

-- a tree of a sort of data is a value, and of that sort whatever the constructors
module _ (cons : List Con) where
  abbrev IsValueTree : Tree → Type 0
  IsValueTree t = (d : DataSort) → tree_sort cons t ≡ Some (Plain d) → (x : Value) × (t ≡ term.Plain x)

  value_con : (k : ConId) (ts : Trees) → IsValueTree (term.Con k ts)
  value_con k ts d h =
      let p = con_parts (slice_get cons k.0) (map (tree_sort cons) ts) (Plain d) (sym (tree_sort-Con cons k ts) ∙ h) in
      let e : Own p.con.sort ≡ Plain d = p.makes in
      absurd (cc)

  value_tree : (t : Tree) → IsValueTree t
  value_tree = term_ind Value IsValueTree (λ x d h. (x, refl)) (λ k ts e. value_con k ts)

  any_cons : (other : List Con) (t : Tree) (d : DataSort) → tree_sort cons t ≡ Some (Plain d) → tree_sort other t ≡ Some (Plain d)
  any_cons other t d h =
      let x = value_tree t d h in
      ap (tree_sort other) x.1 ∙ tree_sort-Plain other x.0 ∙ sym (tree_sort-Plain cons x.0) ∙ sym (ap (tree_sort cons) x.1) ∙ h

-- the sort of a variable of a point is one of data
plain_is : (s : Sort) → IsTrue (is_plain s) → (d : DataSort) × (s ≡ Plain d)
plain_is (Own a) h = absurd (cc)
plain_is (Plain d) h = (d, refl)

var_plain : (vars : List Var) (i : ℕ) → All (λ x. IsTrue (is_plain x.sort)) vars → i < length vars → (d : DataSort) × (var_sort vars i ≡ Some (Plain d))
var_plain [] i a l = absurd (omega arith)
var_plain (x ∷ vars) zero a l = let p = plain_is x.sort (All-head (λ y. IsTrue (is_plain y.sort)) x vars a) in (p.0, ap Some p.1)
var_plain (x ∷ vars) (suc i) a l = var_plain vars i (All-tail (λ y. IsTrue (is_plain y.sort)) x vars a) (omega arith)

self_there : (values : List Value) (i : ℕ) (x : Tree) → slice_get (map some_plain values) i ≡ Some (Some x) → tree_at (plain_trees values) i ≡ x
self_there [] i x h = absurd (cc)
self_there (y ∷ values) zero x h = cc
self_there (y ∷ values) (suc i) x h = self_there values i x h

pub agrees_self : (values : List Value) → AgreesGround (map some_plain values) (plain_trees values)
agrees_self values = agrees_from (map some_plain values) (plain_trees values) (self_there values)

agrees_only : (values : List Value) (v : Trees) → length v ≡ length values → AgreesGround (map some_plain values) v → v ≡ plain_trees values
agrees_only [] [] l a = refl
agrees_only [] (t ∷ v) l a = absurd (omega arith)
agrees_only (x ∷ values) [] l a = absurd (omega arith)
agrees_only (x ∷ values) (t ∷ v) l a =
    let e : term.Plain x ≡ t = agrees_at (map some_plain (x ∷ values)) (t ∷ v) 0 (term.Plain x) a refl in
    let f : v ≡ plain_trees values = agrees_only values v (omega arith) (agrees_tail (some_plain x) (map some_plain values) t v a) in
    cc

-- an expression over no variables is ready
pub ready_alone : (cons : List Con) (vars : List Var) (e : RuleExpr) (s : Sort) → expr_sort cons vars e ≡ Some s → vars ≡ [] → IsEvaluable cons [] e
ready_alone cons vars e s h none =
    let some : IsSome (expr_sort cons vars e) = subst IsSome (sym h) (search rules) in
    record {
      vars = vars;
      binds = record { long = sym (ap length none); sorted = λ i t q. absurd (cc) };
      sorted = some;
      known = λ i r. absurd (let l = declares cons vars e some i r in let z : length vars ≡ 0 = ap length none in omega arith);
    }

-- an expression that has a sort where no constructor is known has it whatever the constructors
module _ (cons : List Con) (vars : List Var) where
  abbrev SortStays : RuleExpr → Type 0
  SortStays e = (s : Sort) → expr_sort [] vars e ≡ Some s → expr_sort cons vars e ≡ Some s

  each_stays : (es : List RuleExpr) → Each SortStays es → (ds : List DataSort) → map (expr_sort [] vars) es ≡ map (λ d. Some (Plain d)) ds → map (expr_sort cons vars) es ≡ map (expr_sort [] vars) es
  each_stays [] k ds h = refl
  each_stays (e ∷ es) k [] h = absurd (cc)
  each_stays (e ∷ es) k (d ∷ ds) h =
      let q : expr_sort [] vars e ≡ Some (Plain d) = cc in
      let more : map (expr_sort [] vars) es ≡ map (λ x. Some (Plain x)) ds = cc in
      let here : expr_sort cons vars e ≡ expr_sort [] vars e = k.0 (Plain d) q ∙ sym q in
      let rest = each_stays es k.1 ds more in
      cc

  op_stays : (op : Op) (es : List RuleExpr) → Each SortStays es → SortStays (expr.Op op es)
  op_stays op es k s h =
      let p = op_parts_of [] vars op es s h in
      expr_sort-Op cons vars op es ∙ ap (applied_sort op) (each_stays es k p.args p.sorts) ∙ sym (expr_sort-Op [] vars op es) ∙ h

  con_stays : (k : ConId) (es : List RuleExpr) → SortStays (expr.Con k es)
  con_stays k es s h =
      let p = con_parts (slice_get [] k.0) (map (expr_sort [] vars) es) s (sym (expr_sort-Con [] vars k es) ∙ h) in
      let q : None ≡ Some p.con = p.is_con in
      absurd (cc)

  sort_stays : (e : RuleExpr) → SortStays e
  sort_stays = expr_ind SortStays
      (λ i s h. expr_sort-Var cons vars i ∙ sym (expr_sort-Var [] vars i) ∙ h)
      (λ x s h. expr_sort-Lit cons vars x ∙ sym (expr_sort-Lit [] vars x) ∙ h)
      op_stays
      (λ k es e. con_stays k es)

-- where each of some variables is bound to a tree of its sort, an expression over them is ready
module _ (vars : List Var) (bound : List (Option Tree)) (as_many : length bound ≡ length vars) (known : (cons : List Con) (i : ℕ) → i < length vars → IsKnown cons vars bound i) where
  all_known : (cons : List Con) → AreBinds cons vars (ground_binds bound)
  all_known cons = record {
    long = length-map bound _ ∙ as_many;
    sorted = λ i t h.
        let u = tree_there bound i t h in
        let k = known cons i (let m = slice_get_within bound i (Some u.0) u.1 in subst (λ n. i < n) as_many m) in
        let found : Some (Some u.0) ≡ Some (Some k.tree) = sym u.1 ∙ k.there in
        let is : u.0 ≡ k.tree = cc in
        ap (seen_sort cons) u.2 ∙ ground_sort cons u.0 ∙ ap (tree_sort cons) is ∙ k.sorted;
  }

  pub ready_where : (cons : List Con) (e : RuleExpr) → IsSome (expr_sort cons vars e) → IsEvaluable cons bound e
  ready_where cons e h = record {
    vars = vars;
    binds = all_known cons;
    sorted = h;
    known = λ i x. let k = known cons i (declares cons vars e h i x) in subst IsSome (sym (bound_seen ground_seen bound i k.tree k.there)) refl;
  }

-- each variable that is bound to a value of its sort is bound to a tree of it
known_values : (cons : List Con) (vars : List Var) (values : List Value) → IsValuationOf [] vars (plain_trees values) → (i : ℕ) → i < length vars → IsKnown cons vars (map some_plain values) i
known_values cons [] values fit i l = absurd (omega arith)
known_values cons (x ∷ vars) [] fit i l = absurd (cc)
known_values cons (x ∷ vars) (y ∷ values) fit zero l =
    let here : tree_sort [] (term.Plain y) ≡ Some x.sort = cc in
    record { tree = term.Plain y; there = refl; sorted = tree_sort-Plain cons y ∙ sym (tree_sort-Plain [] y) ∙ here }
known_values cons (x ∷ vars) (y ∷ values) fit (suc i) l =
    let rest : map (tree_sort []) (plain_trees values) ≡ map (λ z. Some z.sort) vars = cc in
    let k = known_values cons vars values rest i (omega arith) in
    record { tree = k.tree; there = k.there; sorted = k.sorted }

-- an expression that has a sort over variables is ready where they are bound to values of their sorts
pub ready_under : (cons : List Con) (vars : List Var) (values : List Value) (e : RuleExpr) (s : Sort) → IsValuationOf [] vars (plain_trees values) → expr_sort cons vars e ≡ Some s → IsEvaluable cons (map some_plain values) e
ready_under cons vars values e s fit is =
    let as_many : length (map some_plain values) ≡ length vars = length-map values some_plain ∙ sym (length-map values term.Plain) ∙ fits_long [] vars (plain_trees values) fit in
    ready_where vars (map some_plain values) as_many (λ other i l. known_values other vars values fit i l) cons e (subst IsSome (sym is) (search rules))

-- values of the sorts of data are so whatever the constructors, so an expression's value is of its sort
fits_any : (cons : List Con) (vars : List Var) (values : List Value) → IsValuationOf [] vars (plain_trees values) → IsValuationOf cons vars (plain_trees values)
fits_any cons vars values fit = same values ∙ fit
  where
    same : (xs : List Value) → map (tree_sort cons) (plain_trees xs) ≡ map (tree_sort []) (plain_trees xs)
    same [] = refl
    same (x ∷ xs) =
        let here : tree_sort cons (term.Plain x) ≡ tree_sort [] (term.Plain x) = tree_sort-Plain cons x ∙ sym (tree_sort-Plain [] x) in
        let rest = same xs in
        cc

pub value_sorted_under : (cons : List Con) (vars : List Var) (values : List Value) (e : RuleExpr) (s : Sort) → IsValuationOf [] vars (plain_trees values) → expr_sort cons vars e ≡ Some s → tree_sort cons (value (plain_trees values) e) ≡ Some s
value_sorted_under cons vars values e s fit is = expr_keeps cons vars (plain_trees values) (fits_any cons vars values fit) e s is

module _ (q : Problem) (p : Point) (a b : Tree) (checked : IsPointOf q.left q.right p) (sa : IsState q.left a) (sb : IsState q.right b) where
  left_sorted : IsSome (expr_sort q.left.cons p.vars p.left)
  left_sorted = subst IsSome (sym checked.left_term.is) (search rules)

  right_sorted : IsSome (expr_sort q.right.cons p.vars p.right)
  right_sorted = subst IsSome (sym checked.right_term.is) (search rules)

  abbrev None_bound : List (Option Tree)
  None_bound = replicate (length p.vars) None

  pub left_within : (bs : List (Option Tree)) → length bs ≡ length p.vars → ReadsWithin (length bs) p.left
  left_within bs e = record { below = λ i h. subst (λ n. i < n) (sym e) (declares q.left.cons p.vars p.left left_sorted i h) }

  pub right_within : (bs : List (Option Tree)) → length bs ≡ length p.vars → ReadsWithin (length bs) p.right
  right_within bs e = record { below = λ i h. subst (λ n. i < n) (sym e) (declares q.right.cons p.vars p.right right_sorted i h) }

  starts : (v : Trees) → Relates q p v a b → AgreesGround None_bound v
  starts v x = agrees_none (length p.vars) v

  pub left_apart : (mid : List (Option Tree)) → Determines None_bound mid false p.left a → (v : Trees) → ¬ Relates q p v a b
  left_apart mid d v x = let h : false ≡ true = (d.complete v (starts v x) x.left).0 in absurd (cc)

  module _ (mid : List (Option Tree)) (dl : Determines None_bound mid true p.left a) where
    pub right_apart : (new : List (Option Tree)) → Determines mid new false p.right b → (v : Trees) → ¬ Relates q p v a b
    right_apart new d v x = let h : false ≡ true = (d.complete v (dl.complete v (starts v x) x.left).1 x.right).0 in absurd (cc)

    module _ (new : List (Option Tree)) (dr : Determines mid new true p.right b) where
      pub as_many : length new ≡ length p.vars
      as_many = dr.keeps ∙ dl.keeps ∙ length-replicate (length p.vars) None

      agrees : (v : Trees) → Relates q p v a b → AgreesGround new v
      agrees v x = (dr.complete v (dl.complete v (starts v x) x.left).1 x.right).1

      to_any : (cons other : List Con) (i : ℕ) → i < length p.vars → IsKnown cons p.vars new i → IsKnown other p.vars new i
      to_any cons other i m k =
          let d = var_plain p.vars i checked.vars.sorts m in
          record { tree = k.tree; there = k.there; sorted = any_cons cons other k.tree d.0 (k.sorted ∙ d.1) ∙ sym d.1 }

      pub known : (cons : List Con) (i : ℕ) → i < length p.vars → IsKnown cons p.vars new i
      known cons i m = go (either_true (is_argument i p.left) (is_argument i p.right) (checked.determined.each i m))
        where
          go : IsTrue (is_argument i p.left) ⊎ IsTrue (is_argument i p.right) → IsKnown cons p.vars new i
          go (inl h) =
              to_any q.left.cons cons i m (stays_known q.left.cons p.vars mid new i dr.keeps (λ v x. dr.sound v x refl) (dl.known refl q.left.cons p.vars (Own q.left.config) checked.left_term.is sa.is i (or_right (argument_of i p.left).0 (argument_of i p.left).1 h)))
          go (inr h) = to_any q.right.cons cons i m (dr.known refl q.right.cons p.vars (Own q.right.config) checked.right_term.is sb.is i (or_right (argument_of i p.right).0 (argument_of i p.right).1 h))

      ready : (cons : List Con) (e : RuleExpr) → IsSome (expr_sort cons p.vars e) → IsEvaluable cons new e
      ready = ready_where p.vars new as_many known

      pub left_ready : IsEvaluable q.left.cons new p.left
      left_ready = ready q.left.cons p.left left_sorted

      pub right_ready : IsEvaluable q.right.cons new p.right
      right_ready = ready q.right.cons p.right right_sorted

      pub whens_ready : All (IsEvaluable q.left.cons new) p.whens
      whens_ready k d m =
          let is = sort_stays q.left.cons p.vars (get_or p.whens k d) (Plain BoolSort) (checked.whens.sorted k d m).is in
          ready q.left.cons (get_or p.whens k d) (subst IsSome (sym is) (search rules))

      pub values_bound : All IsValueBound new
      values_bound i d m =
          let j : i < length p.vars = subst (λ n. i < n) as_many m in
          let k = known [] i j in
          let s = var_plain p.vars i checked.vars.sorts j in
          let x = value_tree [] k.tree s.0 (k.sorted ∙ s.1) in
          (x.0, get_or_from_slice_get new i (Some k.tree) d k.there ∙ ap Some x.1)

      -- what a related pair has, no answer no can deny
      pub pair_apart : (P : Trees → Type 0) → Restricts new new false P → ((v : Trees) → Relates q p v a b → P v) → (v : Trees) → ¬ Relates q p v a b
      pair_apart P n h v x = let no : false ≡ true = (n.complete v (agrees v x) (h v x)).0 in absurd (cc)

      pub only_fit : (values : List Value) → map some_plain values ≡ new → Restricts new new true (λ v. value v p.left ≡ a) → Restricts new new true (λ v. value v p.right ≡ b) → Restricts new new true (λ v. AllTrue v p.whens) → IsOnlyFit q p a b values
      only_fit values e nl nr nw =
          let v = plain_trees values in
          let as_values : length values ≡ length p.vars = sym (length-map values some_plain) ∙ ap length e ∙ as_many in
          let g : AgreesGround new v = subst (λ bs. AgreesGround bs v) e (agrees_self values) in
          record {
            relates = record {
              holds = record {
                fits = fits_each [] p.vars v (length-map values term.Plain ∙ as_values) (λ i j. let k = known [] i j in subst (λ t. tree_sort [] t ≡ var_sort p.vars i) (agrees_at new v i k.tree g k.there) k.sorted);
                whens = (nw.sound v g refl).1;
              };
              left = (nl.sound v g refl).1;
              right = (nr.sound v g refl).1;
            };
            only = λ w x. agrees_only values w (fits_long [] p.vars w x.holds.fits ∙ sym as_values) (subst (λ bs. AgreesGround bs w) (sym e) (agrees w x));
          }

pub relation_none : (q : Problem) (n : ℕ) (p : Point) (a b : Tree) → IsPoint q n p → ((v : Trees) → ¬ Relates q p v a b) → RelationIs q n a b None
relation_none q n p a b there h = record { point = p; there = there; fits = λ values e. absurd (cc); some = λ v x. absurd (h v x) }

pub relation_some : (q : Problem) (n : ℕ) (p : Point) (a b : Tree) (values : List Value) → IsPoint q n p → IsOnlyFit q p a b values → RelationIs q n a b (Some values)
relation_some q n p a b values there f = record {
  point = p;
  there = there;
  fits = λ found e. let same : values ≡ found = cc in subst (IsOnlyFit q p a b) same f;
  some = λ v x. (values, refl);
}

-- none of the first points relates the pair
pub record NoneRelatesBefore (q : Problem) (a b : Tree) (n : ℕ) : Type 0 where
  pub none : (j : ℕ) (p : Point) (v : Trees) → j < n → IsPoint q j p → ¬ Relates q p v a b

pub none_more : (q : Problem) (a b : Tree) (n : ℕ) → NoneRelatesBefore q a b n → RelationIs q n a b None → NoneRelatesBefore q a b (n + 1)
none_more q a b n before is = record { none = λ j p v l there x. go j p v l there x (cases_lt j n) }
  where
    go : (j : ℕ) (p : Point) (v : Trees) → j < n + 1 → IsPoint q j p → Relates q p v a b → (j < n) ⊎ (n ≤ j) → ⊥
    go j p v l there x (inl m) = before.none j p v m there x
    go j p v l there x (inr m) =
        let e : j ≡ n = omega arith in
        let both : Some p ≡ Some is.point = sym (subst (λ k. IsPoint q k p) e there) ∙ is.there in
        let same : p ≡ is.point = cc in
        let s = is.some v (subst (λ y. Relates q y v a b) same x) in
        let none : None ≡ Some s.0 = s.1 in
        cc

pub none_at_all : (q : Problem) (a b : Tree) (n : ℕ) → length q.points.points ≤ n → NoneRelatesBefore q a b n → ¬ Related q a b
none_at_all q a b n l before x = before.none x.place x.point x.valuation (let m = slice_get_within q.points.points x.place x.point x.there in omega arith) x.there x.relates

-- the value that a variable is bound to
pub value_of_bound : (o : Option Tree) (t : Tree) → IsValueBound o → o ≡ Some t → some_plain (plain_of t) ≡ o
value_of_bound o t v e =
    let q : Some (term.Plain v.0) ≡ Some t = sym v.1 ∙ e in
    let is : t ≡ term.Plain v.0 = cc in
    ap some_plain (ap plain_of is ∙ plain_of-Plain v.0) ∙ sym v.1

pub values_more : (olds news : List Value) (bs : List (Option Tree)) (i : ℕ) (o : Option Tree) (x : Value) → news ≡ olds ++ x ∷ [] → map some_plain olds ≡ take i bs → some_plain x ≡ o → i < length bs → o ≡ get_or bs i o → map some_plain news ≡ take (i + 1) bs
values_more olds news bs i o x e h s l is =
    let pushed : map some_plain news ≡ map some_plain olds ++ some_plain x ∷ [] = ap (map some_plain) e ∙ map-append some_plain olds (x ∷ []) in
    let at : take (i + 1) bs ≡ take i bs ++ o ∷ [] = take_more bs i o l ∙ ap (λ z. take i bs ++ z ∷ []) (sym is) in
    cc
