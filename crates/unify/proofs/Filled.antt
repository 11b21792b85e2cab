-- Valuations that bound variables give, and expressions that read bound variables.
use Rattle.std.proofs.Common.{◌≡◌, ℕ, zero, suc, ◌<◌, Bool, true, false, ◌||◌, IsTrue, List, [], ◌∷◌, length, map, slice_get, Option, Some, None, IsSome, refl, sym, ap, ◌∙◌}
use Rattle.std.specs.Prelude.{option_map, option_and_then}
use Rattle.std.specs.List.{list_any}
use Rattle.std.proofs.lemmas.List.{length-map}
use Rattle.std.proofs.lemmas.Bool.Decides.{Decides-eqb}
use Rattle.data_value.specs.declared.DataSort.{DataSort}
use Rattle.data_value.specs.declared.Op.{Op}
use Rattle.data_value.specs.declared.Value.{Value}
use Rattle.data_value.specs.Nodes.{Seen, IsLawful, IsValuation}
use Rattle.sort_term.specs.declared.ids.ConId.{ConId}
use Rattle.sort_term.specs.declared.term.Sort.{Sort}
use Rattle.sort_term.specs.declared.term.Term.{Term}
use Rattle.sort_term.specs.declared.semantics.Con.{Con}
use Rattle.sort_term.specs.declared.rule.Var.{Var}
use Rattle.sort_term.specs.declared.rule.RuleExpr.{RuleExpr}
use Rattle.sort_term.specs.declared.rule.RuleExpr.TheVariants as expr
use Rattle.sort_term.specs.Tree.{Tree, Trees, no_tree, tree_at}
use Rattle.sort_term.specs.Sorted.{var_sort, con_sort, applied_sort, tree_sort, expr_sort, expr_sort_where, IsValuationOf}
use Rattle.sort_term.specs.Stands.{reads}
use Rattle.sort_term.specs.NodeTerms.{seen_term, seen_sort, tree_of}
use Rattle.sort_term.proofs.Each.{Each}
use Rattle.sort_term.proofs.Equations.{where-Var, where-Lit, where-Op, where-Con, reads-Var, reads-Op, reads-Con}
use Rattle.sort_term.proofs.Induction.{expr_ind}
use Rattle.sort_term.proofs.Declared.{fits_each}
use Rattle.sort_term.proofs.NodeTerming.{means_sort}
use Rattle.unify.specs.Binds.{Bound, seen_binds, bound_at, bound_sort, IsBound, AreBinds, Agrees}
use Rattle.unify.proofs.Binding.{var_there}

-- a term that is there
pub bound_there : {X : Type 0} (o : Option X) → IsSome o → (x : X) × (o ≡ Some x)
bound_there None h = absurd (cc)
bound_there (Some x) h = (x, refl)

-- the trees of bound variables, and one more for those that aren't bound
abbrev pub filled_at : {N : Type 0} → List Value → Option (Term (Seen N)) → Tree
filled_at v None = no_tree
filled_at v (Some t) = tree_of v t

abbrev pub filled : {N : Type 0} → List Value → Bound N → Trees
filled v bs = map (filled_at v) bs

filled_tree : {N : Type 0} (v : List Value) (bs : Bound N) (i : ℕ) → tree_at (filled v bs) i ≡ filled_at v (bound_at bs i)
filled_tree v [] i = refl
filled_tree v (b ∷ bs) zero = refl
filled_tree v (b ∷ bs) (suc i) = filled_tree v bs i

pub filled_agrees : {N : Type 0} (v : List Value) (bs : Bound N) → Agrees v bs (filled v bs)
filled_agrees v bs = record { at = λ i t h. filled_tree v bs i ∙ ap (filled_at v) h }

-- a term that a variable is bound to, from the term over what its nodes are
pub bound_from : {N : Type 0} (f : N → Seen N) (bs : List (Option (Term N))) (i : ℕ) (t : Term (Seen N)) → bound_at (seen_binds f bs) i ≡ Some t → (u : Term N) × (t ≡ seen_term f u)
bound_from f [] i t h = absurd (cc)
bound_from f (None ∷ bs) zero t h = absurd (cc)
bound_from f (Some u ∷ bs) zero t h = (u, cc)
bound_from f (b ∷ bs) (suc i) t h = bound_from f bs i t h

pub filled_long : {N : Type 0} (v : List Value) (bs : Bound N) → length (filled v bs) ≡ length bs
filled_long v bs = length-map bs (filled_at v)

-- where all variables are bound, as many trees that agree with their terms are a valuation of them
pub agreeing_fits : {N : Type 0} (f : N → Seen N) (variables : List DataSort) (cons : List Con) (vars : List Var) (bs : List (Option (Term N))) → IsLawful f variables → AreBinds cons vars (seen_binds f bs) → ((i : ℕ) → i < length vars → IsBound (seen_binds f bs) i) → (v : List Value) → IsValuation variables v → (w : Trees) → length w ≡ length (seen_binds f bs) → Agrees v (seen_binds f bs) w → IsValuationOf cons vars w
agreeing_fits {N} f variables cons vars bs laws lawful all v fits w long agrees = fits_each cons vars w (long ∙ lawful.long) sorted
  where
    sorted : (i : ℕ) → i < length vars → tree_sort cons (tree_at w i) ≡ var_sort vars i
    sorted i l =
        let t = bound_there (bound_at (seen_binds f bs) i) (all i l) in
        let u = bound_from f bs i t.0 t.1 in
        let x = var_there vars i l in
        let is : var_sort vars i ≡ Some x.0.sort = ap (option_map (λ (y : Var). y.sort)) x.1 in
        let s : seen_sort cons (seen_term f u.0) ≡ Some x.0.sort = ap (seen_sort cons) (sym u.1) ∙ lawful.sorted i t.0 t.1 ∙ is in
        ap (tree_sort cons) (agrees.at i t.0 t.1 ∙ ap (tree_of v) u.1) ∙ means_sort cons f variables laws v fits u.0 x.0.sort s ∙ sym is

-- an expression's sort depends on the sorts of the variables that it reads
module _ (cons : List Con) (a b : ℕ → Option Sort) where
  abbrev Follows : RuleExpr → Type 0
  Follows e = ((i : ℕ) → IsTrue (reads i e) → a i ≡ b i) → expr_sort_where cons a e ≡ expr_sort_where cons b e

  second : (x y : Bool) → y ≡ true → (x || y) ≡ true
  second true y h = refl
  second false y h = h

  each_follows : (es : List RuleExpr) → Each Follows es → ((i : ℕ) → IsTrue (list_any (λ part. part) (map (reads i) es)) → a i ≡ b i) → map (expr_sort_where cons a) es ≡ map (expr_sort_where cons b) es
  each_follows [] f h = refl
  each_follows (e ∷ es) f h =
      let first : expr_sort_where cons a e ≡ expr_sort_where cons b e = f.0 (λ i r. h i (ap (λ y. y || list_any (λ part. part) (map (reads i) es)) r)) in
      let rest : map (expr_sort_where cons a) es ≡ map (expr_sort_where cons b) es = each_follows es f.1 (λ i r. h i (second (reads i e) (list_any (λ part. part) (map (reads i) es)) r)) in
      cc

  follows_var : (j : ℕ) → Follows (expr.Var j)
  follows_var j h = where-Var cons a j ∙ h j (reads-Var j j ∙ (Decides-eqb j j).1 refl) ∙ sym (where-Var cons b j)

  follows_op : (op : Op) (es : List RuleExpr) → Each Follows es → Follows (expr.Op op es)
  follows_op op es f h = where-Op cons a op es ∙ ap (applied_sort op) (each_follows es f (λ i r. h i (reads-Op i op es ∙ r))) ∙ sym (where-Op cons b op es)

  follows_con : (k : ConId) (es : List RuleExpr) → Each Follows es → Follows (expr.Con k es)
  follows_con k es f h = where-Con cons a k es ∙ ap (con_sort (slice_get cons k.0)) (each_follows es f (λ i r. h i (reads-Con i k es ∙ r))) ∙ sym (where-Con cons b k es)

  pub sort_follows : (e : RuleExpr) → Follows e
  sort_follows = expr_ind Follows follows_var (λ x h. where-Lit cons a x ∙ sym (where-Lit cons b x)) follows_op follows_con

-- the sort of an expression that reads bound variables alone
pub sort_bound : {N : Type 0} (cons : List Con) (vars : List Var) (bs : Bound N) (e : RuleExpr) → AreBinds cons vars bs → ((i : ℕ) → IsTrue (reads i e) → IsBound bs i) → expr_sort_where cons (bound_sort cons bs) e ≡ expr_sort cons vars e
sort_bound cons vars bs e lawful all =
    sort_follows cons (bound_sort cons bs) (var_sort vars) e (λ i r. let t = bound_there (bound_at bs i) (all i r) in ap (option_and_then (seen_sort cons)) t.1 ∙ lawful.sorted i t.0 t.1)
