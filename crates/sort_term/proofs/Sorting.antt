-- Under a valuation that fits, values are of their sorts.
use Rattle.std.proofs.Common.{◌≡◌, ℕ, zero, suc, Bool, true, false, ◌&&◌, List, [], ◌∷◌, map, slice_get, Option, Some, None, All, refl, sym, ap, ◌∙◌, subst}
use Rattle.std.specs.Prelude.{if◌then◌else◌, option_map}
use Rattle.std.proofs.lemmas.List.Elements.{All-nil, All-cons}
use Rattle.data_value.specs.declared.DataSort.{DataSort}
use Rattle.data_value.specs.declared.Op.{Op}
use Rattle.data_value.specs.declared.Scalar.{Scalar}
use Rattle.data_value.specs.declared.Value.{Value}
use Rattle.data_value.specs.declared.Value.TheVariants.{One}
use Rattle.data_value.specs.Sorts.{op_sort}
use Rattle.data_value.specs.Values.{value_sort, IsValue, IsValueOf, is_value}
use Rattle.data_value.specs.Ops.{op_value}
use Rattle.data_value.proofs.TestLemmas.{decides_value}
use Rattle.data_value.proofs.OpLemmas.{operator_keeps_sort}
use Rattle.sort_term.specs.declared.ids.ConId.{ConId}
use Rattle.sort_term.specs.declared.term.Sort.{Sort}
use Rattle.sort_term.specs.declared.term.Sort.TheVariants.{Own, Plain}
use Rattle.sort_term.specs.declared.semantics.Con.{Con}
use Rattle.sort_term.specs.declared.rule.Var.{Var}
use Rattle.sort_term.specs.declared.rule.Pattern.{Pattern}
use Rattle.sort_term.specs.declared.rule.Pattern.TheVariants as pattern
use Rattle.sort_term.specs.declared.rule.RuleExpr.{RuleExpr}
use Rattle.sort_term.specs.declared.rule.RuleExpr.TheVariants as expr
use Rattle.sort_term.specs.Tree.{Tree, Trees, tree_at, plain_of, pattern_value, value}
use Rattle.sort_term.specs.Sorted.{has_sort, have_sorts, con_sort, in_front, all_there, data_part, fitted_sort, applied_sort, leaf_sort, var_sort, tree_sort, pattern_sort, expr_sort, IsValuationOf}
use Rattle.sort_term.proofs.Each.{Each}
use Rattle.sort_term.proofs.Equations.{value-Var, value-Lit, value-Op, value-Con, expr_sort-Var, expr_sort-Lit, expr_sort-Op, expr_sort-Con, pattern_value-Bind, pattern_value-Exact, pattern_value-Con, pattern_sort-Bind, pattern_sort-Exact, pattern_sort-Con, tree_sort-Plain, tree_sort-Con, plain_of-Plain}
use Rattle.sort_term.proofs.Induction.{pattern_ind, expr_ind, term_ind}
use Rattle.sort_term.proofs.LeafSorts.{leaf-value}

both_true : (a b : Bool) → (a && b) ≡ true → (a ≡ true) × (b ≡ true)
both_true true b h = (refl, h)
both_true false b h = absurd (cc)

and_true : (a b : Bool) → a ≡ true → b ≡ true → (a && b) ≡ true
and_true a b h k = ap (λ x. x && b) h ∙ k

-- a variable's tree is of the variable's sort
pub var_fits : (cons : List Con) (vars : List Var) (v : Trees) (i : ℕ) (a : Sort) → IsValuationOf cons vars v → var_sort vars i ≡ Some a → tree_sort cons (tree_at v i) ≡ Some a
var_fits cons [] v i a f h = absurd (cc)
var_fits cons (x ∷ vars) [] i a f h = absurd (cc)
var_fits cons (x ∷ vars) (t ∷ v) zero a f h =
    let e : tree_sort cons t ≡ Some x.sort = cc in
    let g : Some x.sort ≡ Some a = h in
    e ∙ g
var_fits cons (x ∷ vars) (t ∷ v) (suc i) a f h =
    let g : map (tree_sort cons) v ≡ map (λ (y : Var). Some y.sort) vars = cc in
    var_fits cons vars v i a g h

module _ {A : Type 0} (f g : A → Option Sort) where
  -- where g gives every part a sort that f gives it, parts keep the sorts that they have
  abbrev pub Keeps : A → Type 0
  Keeps e = (a : Sort) → f e ≡ Some a → g e ≡ Some a

  has-keep : (e : A) (b : Sort) (o : Option Sort) → f e ≡ o → Keeps e → has_sort o b ≡ true → has_sort (g e) b ≡ true
  has-keep e b None h k m = absurd (cc)
  has-keep e b (Some a) h k m = ap (λ p. has_sort p b) (k a h) ∙ m

  have-keep : (es : List A) (bs : List Sort) → Each Keeps es → have_sorts (map f es) bs ≡ true → have_sorts (map g es) bs ≡ true
  have-keep [] [] k h = refl
  have-keep [] (b ∷ bs) k h = absurd (cc)
  have-keep (e ∷ es) [] k h = absurd (cc)
  have-keep (e ∷ es) (b ∷ bs) k h =
      let p = both_true (has_sort (f e) b) (have_sorts (map f es) bs) h in
      and_true (has_sort (g e) b) (have_sorts (map g es) bs) (has-keep e b (f e) refl k.0 p.0) (have-keep es bs k.1 p.1)

  con-keep : (c : Option Con) (es : List A) (a : Sort) → Each Keeps es → con_sort c (map f es) ≡ Some a → con_sort c (map g es) ≡ Some a
  con-keep None es a k h = absurd (cc)
  con-keep (Some c) es a k h = go (have_sorts (map f es) c.args) refl h
    where
      go : (b : Bool) → have_sorts (map f es) c.args ≡ b → (if b then Some (Own c.sort) else None) ≡ Some a → con_sort (Some c) (map g es) ≡ Some a
      go true e m = ap (λ b. if b then Some (Own c.sort) else None) (have-keep es c.args k e) ∙ m
      go false e m = absurd (cc)

  part-keep : (e : A) (o : Option Sort) (d : DataSort) → f e ≡ o → Keeps e → data_part o ≡ Some d → data_part (g e) ≡ Some d
  part-keep e None d h k m = absurd (cc)
  part-keep e (Some a) d h k m = ap data_part (k a h) ∙ m

  front-keep : (e : A) (es : List A) (args : List DataSort) (o : Option DataSort) (p : Option (List DataSort)) → data_part (f e) ≡ o → in_front o p ≡ Some args → Keeps e → ((more : List DataSort) → p ≡ Some more → all_there (map data_part (map g es)) ≡ Some more) → in_front (data_part (g e)) (all_there (map data_part (map g es))) ≡ Some args
  front-keep e es args None p m n k rest = absurd (cc)
  front-keep e es args (Some d) None m n k rest = absurd (cc)
  front-keep e es args (Some d) (Some more) m n k rest =
      ap (λ o. in_front o (all_there (map data_part (map g es)))) (part-keep e (f e) d refl k m) ∙ ap (in_front (Some d)) (rest more refl) ∙ n

  there-keep : (es : List A) (args : List DataSort) → Each Keeps es → all_there (map data_part (map f es)) ≡ Some args → all_there (map data_part (map g es)) ≡ Some args
  there-keep [] args k h = h
  there-keep (e ∷ es) args k h =
      front-keep e es args (data_part (f e)) (all_there (map data_part (map f es))) refl h k.0 (λ more m. there-keep es more k.1 m)

  fitted-keep : (op : Op) (es : List A) (a : Sort) (o : Option (List DataSort)) → Each Keeps es → all_there (map data_part (map f es)) ≡ o → fitted_sort op o ≡ Some a → applied_sort op (map g es) ≡ Some a
  fitted-keep op es a None k h m = absurd (cc)
  fitted-keep op es a (Some args) k h m = ap (fitted_sort op) (there-keep es args k h) ∙ m

-- a lawful value of a sort, by the sort of its leaf
pub leaf-is : (x : Value) (d : DataSort) → leaf_sort x ≡ Some (Plain d) → IsValueOf d x
leaf-is x d h = go (is_value x) refl h
  where
    go : (b : Bool) → is_value x ≡ b → (if b then Some (Plain (value_sort x)) else None) ≡ Some (Plain d) → IsValueOf d x
    go true e m = record { value = (decides_value x).0 e; sort = cc }
    go false e m = absurd (cc)

pub leaf-of : (x : Value) (d : DataSort) → IsValueOf d x → leaf_sort x ≡ Some (Plain d)
leaf-of x d h = leaf-value x h.value ∙ ap (λ s. Some (Plain s)) h.sort

own-plain : (c : Option Con) (parts : List (Option Sort)) (d : DataSort) → con_sort c parts ≡ Some (Plain d) → ⊥
own-plain None parts d h = cc
own-plain (Some c) parts d h = go (have_sorts parts c.args) h
  where
    go : (b : Bool) → (if b then Some (Own c.sort) else None) ≡ Some (Plain d) → ⊥
    go true m = cc
    go false m = cc

-- a tree of a sort of data is a value of it
pub plain-tree : (cons : List Con) (d : DataSort) (t : Tree) → tree_sort cons t ≡ Some (Plain d) → IsValueOf d (plain_of t)
plain-tree cons d = term_ind Value (λ t. tree_sort cons t ≡ Some (Plain d) → IsValueOf d (plain_of t))
    (λ x h. subst (IsValueOf d) (sym (plain_of-Plain x)) (leaf-is x d (sym (tree_sort-Plain cons x) ∙ h)))
    (λ k ts e h. absurd (own-plain (slice_get cons k.0) (map (tree_sort cons) ts) d (sym (tree_sort-Con cons k ts) ∙ h)))

-- the values of parts that are all of sorts of data
record AreData {A : Type 0} (x : A → Value) (es : List A) (args : List DataSort) : Type 0 where
  lawful : All IsValue (map x es)
  sorts : map value_sort (map x es) ≡ args

module _ {A : Type 0} (f : A → Option Sort) (x : A → Value) (is_data : (e : A) (d : DataSort) → f e ≡ Some (Plain d) → IsValueOf d (x e)) where
  data-part : (e : A) (o : Option Sort) (d : DataSort) → f e ≡ o → data_part o ≡ Some d → IsValueOf d (x e)
  data-part e None d h m = absurd (cc)
  data-part e (Some (Own a)) d h m = absurd (cc)
  data-part e (Some (Plain a)) d h m = is_data e d (h ∙ ap (λ b. Some (Plain b)) (let n : a ≡ d = cc in n))

  data-more : (e : A) (es : List A) (args : List DataSort) (o : Option DataSort) (p : Option (List DataSort)) → data_part (f e) ≡ o → in_front o p ≡ Some args → ((more : List DataSort) → p ≡ Some more → AreData x es more) → AreData x (e ∷ es) args
  data-more e es args None p m k rest = absurd (cc)
  data-more e es args (Some d) None m k rest = absurd (cc)
  data-more e es args (Some d) (Some more) m k rest =
      let r = rest more refl in
      let h = data-part e (f e) d refl m in
      let q : d ∷ more ≡ args = cc in
      record {
        lawful = All-cons IsValue (x e) (map x es) h.value r.lawful;
        sorts = ap (λ s. s ∷ map value_sort (map x es)) h.sort ∙ ap (λ ss. d ∷ ss) r.sorts ∙ q;
      }

  data-all : (es : List A) (args : List DataSort) → all_there (map data_part (map f es)) ≡ Some args → AreData x es args
  data-all [] args h = record { lawful = All-nil IsValue; sorts = let n : [] ≡ args = cc in n }
  data-all (e ∷ es) args h = data-more e es args (data_part (f e)) (all_there (map data_part (map f es))) refl h (data-all es)

  -- an operator at parts of the sorts that it takes
  applied-keeps : (op : Op) (es : List A) (a : Sort) → applied_sort op (map f es) ≡ Some a → leaf_sort (op_value op (map x es)) ≡ Some a
  applied-keeps op es a h = fitted (all_there (map data_part (map f es))) refl h
    where
      given : (args : List DataSort) (o : Option DataSort) → all_there (map data_part (map f es)) ≡ Some args → op_sort op args ≡ o → option_map Plain o ≡ Some a → leaf_sort (op_value op (map x es)) ≡ Some a
      given args None t e m = absurd (cc)
      given args (Some d) t e m =
          let r = data-all es args t in
          leaf-of (op_value op (map x es)) d (operator_keeps_sort op (map x es) d r.lawful (ap (op_sort op) r.sorts ∙ e)) ∙ m

      fitted : (o : Option (List DataSort)) → all_there (map data_part (map f es)) ≡ o → fitted_sort op o ≡ Some a → leaf_sort (op_value op (map x es)) ≡ Some a
      fitted None t m = absurd (cc)
      fitted (Some args) t m = given args (op_sort op args) t refl m

module _ (cons : List Con) (vars : List Var) (v : Trees) (fits : IsValuationOf cons vars v) where
  abbrev KeepsExpr : RuleExpr → Type 0
  KeepsExpr = Keeps (expr_sort cons vars) (λ e. tree_sort cons (value v e))

  abbrev KeepsPattern : Pattern → Type 0
  KeepsPattern = Keeps (pattern_sort cons vars) (λ p. tree_sort cons (pattern_value v p))

  expr_var : (i : ℕ) → KeepsExpr (expr.Var i)
  expr_var i a h = ap (tree_sort cons) (value-Var v i) ∙ var_fits cons vars v i a fits (sym (expr_sort-Var cons vars i) ∙ h)

  expr_lit : (x : Value) → KeepsExpr (expr.Lit x)
  expr_lit x a h = ap (tree_sort cons) (value-Lit v x) ∙ tree_sort-Plain cons x ∙ sym (expr_sort-Lit cons vars x) ∙ h

  map-map : {A B C : Type 0} (g : B → C) (f : A → B) (xs : List A) → map g (map f xs) ≡ map (λ x. g (f x)) xs
  map-map g f [] = refl
  map-map g f (x ∷ xs) = ap (λ ys. g (f x) ∷ ys) (map-map g f xs)

  expr_con : (k : ConId) (es : List RuleExpr) → Each KeepsExpr es → KeepsExpr (expr.Con k es)
  expr_con k es e a h =
      let parts = con-keep (expr_sort cons vars) (λ x. tree_sort cons (value v x)) (slice_get cons k.0) es a e (sym (expr_sort-Con cons vars k es) ∙ h) in
      ap (tree_sort cons) (value-Con v k es) ∙ tree_sort-Con cons k (map (value v) es) ∙ ap (con_sort (slice_get cons k.0)) (map-map (tree_sort cons) (value v) es) ∙ parts

  expr_op : (op : Op) (es : List RuleExpr) → Each KeepsExpr es → KeepsExpr (expr.Op op es)
  expr_op op es e a h =
      let kept = fitted-keep (expr_sort cons vars) (λ x. tree_sort cons (value v x)) op es a (all_there (map data_part (map (expr_sort cons vars) es))) e refl (sym (expr_sort-Op cons vars op es) ∙ h) in
      let leaf = applied-keeps (λ x. tree_sort cons (value v x)) (λ x. plain_of (value v x)) (λ x d m. plain-tree cons d (value v x) m) op es a kept in
      ap (tree_sort cons) (value-Op v op es) ∙ tree_sort-Plain cons _ ∙ ap (λ xs. leaf_sort (op_value op xs)) (map-map plain_of (value v) es) ∙ leaf

  pub expr_keeps : (e : RuleExpr) → KeepsExpr e
  expr_keeps = expr_ind KeepsExpr expr_var expr_lit expr_op expr_con

  pattern_bind : (i : ℕ) → KeepsPattern (pattern.Bind i)
  pattern_bind i a h = ap (tree_sort cons) (pattern_value-Bind v i) ∙ var_fits cons vars v i a fits (sym (pattern_sort-Bind cons vars i) ∙ h)

  pattern_exact : (x : Scalar) → KeepsPattern (pattern.Exact x)
  pattern_exact x a h = ap (tree_sort cons) (pattern_value-Exact v x) ∙ tree_sort-Plain cons (One x) ∙ sym (pattern_sort-Exact cons vars x) ∙ h

  pattern_con : (k : ConId) (ps : List Pattern) → Each KeepsPattern ps → KeepsPattern (pattern.Con k ps)
  pattern_con k ps e a h =
      let parts = con-keep (pattern_sort cons vars) (λ x. tree_sort cons (pattern_value v x)) (slice_get cons k.0) ps a e (sym (pattern_sort-Con cons vars k ps) ∙ h) in
      ap (tree_sort cons) (pattern_value-Con v k ps) ∙ tree_sort-Con cons k (map (pattern_value v) ps) ∙ ap (con_sort (slice_get cons k.0)) (map-map (tree_sort cons) (pattern_value v) ps) ∙ parts

  pub pattern_keeps : (p : Pattern) → KeepsPattern p
  pattern_keeps = pattern_ind KeepsPattern pattern_bind pattern_exact pattern_con
