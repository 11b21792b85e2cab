-- Variables that are direct arguments of constructors: what an expression's value tells of them.
use Rattle.std.proofs.Common.{◌≡◌, ℕ, Bool, true, false, ◌||◌, IsTrue, List, [], ◌∷◌, map, slice_get, Some, refl, sym, ap, ◌∙◌, subst, ◌⊎◌, inl, inr}
use Rattle.std.specs.List.{list_any}
use Rattle.std.proofs.lemmas.Bool.Decides.{Decides-eqb}
use Rattle.std.proofs.lemmas.Option.{slice_get_within, get_or_from_slice_get}
use Rattle.data_value.specs.declared.DataSort.{DataSort}
use Rattle.data_value.specs.declared.Op.{Op}
use Rattle.data_value.specs.declared.Value.{Value}
use Rattle.sort_term.specs.declared.ids.ConId.{ConId}
use Rattle.sort_term.specs.declared.term.Sort.{Sort}
use Rattle.sort_term.specs.declared.term.Sort.TheVariants.{Own, Plain}
use Rattle.sort_term.specs.declared.semantics.Con.{Con}
use Rattle.sort_term.specs.declared.rule.Var.{Var}
use Rattle.sort_term.specs.declared.rule.RuleExpr.{RuleExpr}
use Rattle.sort_term.specs.declared.rule.RuleExpr.TheVariants as expr
use Rattle.sort_term.specs.Tree.{Trees, value}
use Rattle.sort_term.specs.Sorted.{expr_sort}
use Rattle.sort_term.specs.Stands.{argument_of, is_argument}
use Rattle.sort_term.specs.Problems.{IsPointOf}
use Rattle.sort_term.specs.RelationLaws.{OneRelation}
use Rattle.sort_term.proofs.Each.{Each}
use Rattle.sort_term.proofs.Agreeing.{AgreeAt, con_same, same_trees}
use Rattle.sort_term.proofs.Equations.{value-Var, value-Con, expr_sort-Con, argument_of-Var, argument_of-Lit, argument_of-Op, argument_of-Con}
use Rattle.sort_term.proofs.Induction.{expr_ind}
use Rattle.sort_term.proofs.Parts.{con_parts}
use Rattle.sort_term.proofs.PartSorts.{op_parts_of}

pub either_true : (a b : Bool) → IsTrue (a || b) → IsTrue a ⊎ IsTrue b
either_true true b h = inl refl
either_true false b h = inr h

module _ (cons : List Con) (vars : List Var) (i : ℕ) where
  -- an expression of a sort of data has no constructor, so no argument of one
  abbrev NoArgument : RuleExpr → Type 0
  NoArgument e = (d : DataSort) → expr_sort cons vars e ≡ Some (Plain d) → (argument_of i e).1 ≡ false

  each_no : (es : List RuleExpr) → Each NoArgument es → (ds : List DataSort) → map (expr_sort cons vars) es ≡ map (λ d. Some (Plain d)) ds → list_any (λ part. part.1) (map (argument_of i) es) ≡ false
  each_no [] n ds h = refl
  each_no (e ∷ es) n [] h = absurd (cc)
  each_no (e ∷ es) n (d ∷ ds) h =
      let q : expr_sort cons vars e ≡ Some (Plain d) = cc in
      let q' : map (expr_sort cons vars) es ≡ map (λ x. Some (Plain x)) ds = cc in
      ap (λ b. b || list_any (λ part. part.1) (map (argument_of i) es)) (n.0 d q) ∙ each_no es n.1 ds q'

  no_con : (k : ConId) (es : List RuleExpr) → NoArgument (expr.Con k es)
  no_con k es d h =
      let p = con_parts (slice_get cons k.0) (map (expr_sort cons vars) es) (Plain d) (sym (expr_sort-Con cons vars k es) ∙ h) in
      let e : Own p.con.sort ≡ Plain d = p.makes in
      absurd (cc)

  no_op : (op : Op) (es : List RuleExpr) → Each NoArgument es → (s : Sort) → expr_sort cons vars (expr.Op op es) ≡ Some s → (argument_of i (expr.Op op es)).1 ≡ false
  no_op op es n s h =
      let p = op_parts_of cons vars op es s h in
      ap (λ (x : Bool × Bool). x.1) (argument_of-Op i op es) ∙ each_no es n p.args p.sorts

  no_argument : (e : RuleExpr) → NoArgument e
  no_argument = expr_ind NoArgument
      (λ j d h. ap (λ (x : Bool × Bool). x.1) (argument_of-Var i j))
      (λ x d h. ap (λ (y : Bool × Bool). y.1) (argument_of-Lit i x))
      (λ op es n d h. no_op op es n (Plain d) h)
      (λ k es n. no_con k es)

  each_no_argument : (es : List RuleExpr) → Each NoArgument es
  each_no_argument [] = tt
  each_no_argument (e ∷ es) = (no_argument e, each_no_argument es)

  -- a variable under an operator is no argument of a constructor
  pub op_no_argument : (op : Op) (es : List RuleExpr) (s : Sort) → expr_sort cons vars (expr.Op op es) ≡ Some s → (argument_of i (expr.Op op es)).1 ≡ false
  op_no_argument op es s h = no_op op es (each_no_argument es) s h

-- where two valuations give an expression one value, they agree on the variables that are the expression, or direct arguments of constructors in it
module _ (cons : List Con) (vars : List Var) (v w : Trees) (i : ℕ) where
  abbrev AgreesOn : RuleExpr → Type 0
  AgreesOn e = (s : Sort) → expr_sort cons vars e ≡ Some s → value v e ≡ value w e → IsTrue (argument_of i e).0 ⊎ IsTrue (argument_of i e).1 → AgreeAt v w i

  parts_agree : (es : List RuleExpr) → Each AgreesOn es → (ss : List Sort) → map (expr_sort cons vars) es ≡ map Some ss → map (value v) es ≡ map (value w) es → IsTrue (list_any (λ part. part.0 || part.1) (map (argument_of i) es)) → AgreeAt v w i
  parts_agree [] k ss h e t = absurd (cc)
  parts_agree (x ∷ es) k [] h e t = absurd (cc)
  parts_agree (x ∷ es) k (s ∷ ss) h e t =
      let sort : expr_sort cons vars x ≡ Some s = cc in
      let sorts : map (expr_sort cons vars) es ≡ map Some ss = cc in
      let same : value v x ≡ value w x = cc in
      let more : map (value v) es ≡ map (value w) es = cc in
      elim (either_true ((argument_of i x).0 || (argument_of i x).1) (list_any (λ part. part.0 || part.1) (map (argument_of i) es)) t) [
        | inl first ↦ k.0 s sort same (either_true (argument_of i x).0 (argument_of i x).1 first)
        | inr later ↦ parts_agree es k.1 ss sorts more later
      ]

  agrees_var : (j : ℕ) → AgreesOn (expr.Var j)
  agrees_var j s h e t = go t
    where
      go : IsTrue (argument_of i (expr.Var j)).0 ⊎ IsTrue (argument_of i (expr.Var j)).1 → AgreeAt v w i
      go (inl y) =
          let is : i ≡ j = (Decides-eqb i j).0 (sym (ap (λ (x : Bool × Bool). x.0) (argument_of-Var i j)) ∙ y) in
          subst (AgreeAt v w) (sym is) (sym (value-Var v j) ∙ e ∙ value-Var w j)
      go (inr y) = let q : false ≡ true = sym (ap (λ (x : Bool × Bool). x.1) (argument_of-Var i j)) ∙ y in absurd (cc)

  agrees_lit : (x : Value) → AgreesOn (expr.Lit x)
  agrees_lit x s h e (inl y) = let q : false ≡ true = sym (ap (λ (p : Bool × Bool). p.0) (argument_of-Lit i x)) ∙ y in absurd (cc)
  agrees_lit x s h e (inr y) = let q : false ≡ true = sym (ap (λ (p : Bool × Bool). p.1) (argument_of-Lit i x)) ∙ y in absurd (cc)

  agrees_op : (op : Op) (es : List RuleExpr) → AgreesOn (expr.Op op es)
  agrees_op op es s h e (inl y) = let q : false ≡ true = sym (ap (λ (p : Bool × Bool). p.0) (argument_of-Op i op es)) ∙ y in absurd (cc)
  agrees_op op es s h e (inr y) = let q : false ≡ true = sym (op_no_argument cons vars i op es s h) ∙ y in absurd (cc)

  agrees_con : (k : ConId) (es : List RuleExpr) → Each AgreesOn es → AgreesOn (expr.Con k es)
  agrees_con k es a s h e (inl y) = let q : false ≡ true = sym (ap (λ (p : Bool × Bool). p.0) (argument_of-Con i k es)) ∙ y in absurd (cc)
  agrees_con k es a s h e (inr y) =
      let p = con_parts (slice_get cons k.0) (map (expr_sort cons vars) es) s (sym (expr_sort-Con cons vars k es) ∙ h) in
      let same = con_same k (map (value v) es) (map (value w) es) (sym (value-Con v k es) ∙ e ∙ value-Con w k es) in
      parts_agree es a p.con.args p.sorts same (sym (ap (λ (x : Bool × Bool). x.1) (argument_of-Con i k es)) ∙ y)

  pub agrees_on : (e : RuleExpr) → AgreesOn e
  agrees_on = expr_ind AgreesOn agrees_var agrees_lit (λ op es a. agrees_op op es) agrees_con

-- a point of a problem relates a pair under one valuation
pub one_relation : OneRelation
one_relation q k p there v w a b x y =
    same_trees [] p.vars v w x.holds.fits y.holds.fits (λ i l. at i (checked.determined.each i l))
  where
    checked : IsPointOf q.left q.right p
    checked = subst (IsPointOf q.left q.right) (get_or_from_slice_get q.points.points k p p there) (q.fits.fitting_points.each k p (slice_get_within q.points.points k p there))

    at : (i : ℕ) → IsTrue (is_argument i p.left || is_argument i p.right) → AgreeAt v w i
    at i h = go (either_true (is_argument i p.left) (is_argument i p.right) h)
      where
        go : IsTrue (is_argument i p.left) ⊎ IsTrue (is_argument i p.right) → AgreeAt v w i
        go (inl t) = agrees_on q.left.cons p.vars v w i p.left _ checked.left_term.is (x.left ∙ sym y.left) (inr t)
        go (inr t) = agrees_on q.right.cons p.vars v w i p.right _ checked.right_term.is (x.right ∙ sym y.right) (inr t)
