-- Sorts of parts, and of values under valuations that give the variables trees of their sorts.
use Rattle.std.proofs.Common.{◌≡◌, ℕ, Bool, true, false, ◌||◌, IsTrue, List, [], ◌∷◌, map, slice_get, Some, None, IsSome, All, refl, sym, ap, ◌∙◌, subst}
use Rattle.std.specs.Prelude.{if◌then◌else◌}
use Rattle.std.specs.List.{list_any}
use Rattle.std.proofs.lemmas.Bool.Decides.{Decides-eqb}
use Rattle.std.proofs.lemmas.List.Elements.{All-nil, All-cons}
use Rattle.data_value.specs.declared.DataSort.{DataSort}
use Rattle.data_value.specs.declared.Op.{Op}
use Rattle.data_value.specs.declared.Value.{Value}
use Rattle.data_value.specs.Sorts.{op_sort}
use Rattle.data_value.specs.Ops.{op_value}
use Rattle.data_value.specs.Values.{IsValue, is_value, value_sort}
use Rattle.data_value.proofs.OpLemmas.{operator_keeps_sort}
use Rattle.data_value.proofs.TestLemmas.{decides_value}
use Rattle.sort_term.specs.declared.ids.ConId.{ConId}
use Rattle.sort_term.specs.declared.term.Sort.{Sort}
use Rattle.sort_term.specs.declared.term.Sort.TheVariants.{Own, Plain}
use Rattle.sort_term.specs.declared.semantics.Con.{Con}
use Rattle.sort_term.specs.declared.rule.Var.{Var}
use Rattle.sort_term.specs.declared.term.Term.TheVariants as term
use Rattle.sort_term.specs.declared.rule.RuleExpr.{RuleExpr}
use Rattle.sort_term.specs.declared.rule.RuleExpr.TheVariants as expr
use Rattle.sort_term.specs.Tree.{Tree, Trees, plain_of, tree_at, value}
use Rattle.sort_term.specs.Sorted.{con_sort, leaf_sort, var_sort, tree_sort, expr_sort}
use Rattle.sort_term.specs.Stands.{reads}
use Rattle.sort_term.proofs.Each.{Each}
use Rattle.sort_term.proofs.Equations.{value-Var, value-Lit, value-Op, value-Con, expr_sort-Var, expr_sort-Lit, expr_sort-Op, expr_sort-Con, tree_sort-Plain, tree_sort-Con, plain_of-Plain, reads-Var, reads-Op, reads-Con}
use Rattle.sort_term.proofs.Induction.{expr_ind, term_ind}
use Rattle.sort_term.proofs.LeafSorts.{leaf-value}
use Rattle.sort_term.proofs.Parts.{OpParts, all_plain, all_some, applied_parts, con_parts, some_of}

pub con_parts_sorted : (cons : List Con) (vars : List Var) (k : ConId) (es : List RuleExpr) → IsSome (expr_sort cons vars (expr.Con k es)) → All (λ e. IsSome (expr_sort cons vars e)) es
con_parts_sorted cons vars k es h =
    let s = some_of (expr_sort cons vars (expr.Con k es)) h in
    let p = con_parts (slice_get cons k.0) (map (expr_sort cons vars) es) s.0 (sym (expr_sort-Con cons vars k es) ∙ s.1) in
    all_some (expr_sort cons vars) es p.con.args p.sorts

pub op_parts_of : (cons : List Con) (vars : List Var) (op : Op) (es : List RuleExpr) (s : Sort) → expr_sort cons vars (expr.Op op es) ≡ Some s → OpParts op (map (expr_sort cons vars) es) s
op_parts_of cons vars op es s h = applied_parts op (map (expr_sort cons vars) es) s (sym (expr_sort-Op cons vars op es) ∙ h)

pub op_parts : (cons : List Con) (vars : List Var) (op : Op) (es : List RuleExpr) → IsSome (expr_sort cons vars (expr.Op op es)) → All (λ e. IsSome (expr_sort cons vars e)) es
op_parts cons vars op es h =
    let s = some_of (expr_sort cons vars (expr.Op op es)) h in
    let p = op_parts_of cons vars op es s.0 s.1 in
    all_plain (expr_sort cons vars) es p.args p.sorts

-- a tree of a sort of data is a value of it
leaf_is : (x : Value) (d : DataSort) → leaf_sort x ≡ Some (Plain d) → IsValue x × (value_sort x ≡ d)
leaf_is x d h = go (is_value x) refl
  where
    go : (b : Bool) → is_value x ≡ b → IsValue x × (value_sort x ≡ d)
    go true e =
        let q : Some (Plain (value_sort x)) ≡ Some (Plain d) = sym (ap (λ b. if b then Some (Plain (value_sort x)) else None) e) ∙ h in
        ((decides_value x).0 e, cc)
    go false e =
        let q : None ≡ Some (Plain d) = sym (ap (λ b. if b then Some (Plain (value_sort x)) else None) e) ∙ h in
        absurd (cc)

module _ (cons : List Con) where
  abbrev PlainIs : Tree → Type 0
  PlainIs t = (d : DataSort) → tree_sort cons t ≡ Some (Plain d) → IsValue (plain_of t) × (value_sort (plain_of t) ≡ d)

  plain_value_is : (x : Value) → PlainIs (term.Plain x)
  plain_value_is x d h =
      let r = leaf_is x d (sym (tree_sort-Plain cons x) ∙ h) in
      subst (λ y. IsValue y × (value_sort y ≡ d)) (sym (plain_of-Plain x)) r

  plain_con_is : (k : ConId) (ts : Trees) → PlainIs (term.Con k ts)
  plain_con_is k ts d h =
      let p = con_parts (slice_get cons k.0) (map (tree_sort cons) ts) (Plain d) (sym (tree_sort-Con cons k ts) ∙ h) in
      let e : Own p.con.sort ≡ Plain d = p.makes in
      absurd (cc)

  pub plain_is : (t : Tree) → PlainIs t
  plain_is = term_ind Value PlainIs plain_value_is (λ k ts e. plain_con_is k ts)

  plains_are : (ts : Trees) (ds : List DataSort) → map (tree_sort cons) ts ≡ map (λ d. Some (Plain d)) ds → All IsValue (map plain_of ts) × (map value_sort (map plain_of ts) ≡ ds)
  plains_are [] [] h = (All-nil IsValue, refl)
  plains_are [] (d ∷ ds) h = absurd (cc)
  plains_are (t ∷ ts) [] h = absurd (cc)
  plains_are (t ∷ ts) (d ∷ ds) h =
      let q : tree_sort cons t ≡ Some (Plain d) = cc in
      let q' : map (tree_sort cons) ts ≡ map (λ x. Some (Plain x)) ds = cc in
      let r = plain_is t d q in
      let rs = plains_are ts ds q' in
      let e : value_sort (plain_of t) ≡ d = r.1 in
      let f : map value_sort (map plain_of ts) ≡ ds = rs.1 in
      (All-cons IsValue (plain_of t) (map plain_of ts) r.0 rs.0, cc)

  module _ (vars : List Var) (v : Trees) where
    -- the valuation gives the variable a tree of its sort
    abbrev pub Sorts : ℕ → Type 0
    Sorts i = tree_sort cons (tree_at v i) ≡ var_sort vars i

    -- the value of a well-sorted expression has its sort where each variable that it reads has a tree of its sort
    abbrev Keeps : RuleExpr → Type 0
    Keeps e = ((i : ℕ) → IsTrue (reads i e) → Sorts i) → (s : Sort) → expr_sort cons vars e ≡ Some s → tree_sort cons (value v e) ≡ Some s

    second_true : (a b : Bool) → b ≡ true → (a || b) ≡ true
    second_true true b h = refl
    second_true false b h = h

    each_keeps : (es : List RuleExpr) → Each Keeps es → ((i : ℕ) → IsTrue (list_any (λ part. part) (map (reads i) es)) → Sorts i) → (ss : List Sort) → map (expr_sort cons vars) es ≡ map Some ss → map (tree_sort cons) (map (value v) es) ≡ map Some ss
    each_keeps [] k a [] h = refl
    each_keeps [] k a (s ∷ ss) h = absurd (cc)
    each_keeps (e ∷ es) k a [] h = absurd (cc)
    each_keeps (e ∷ es) k a (s ∷ ss) h =
        let q : expr_sort cons vars e ≡ Some s = cc in
        let q' : map (expr_sort cons vars) es ≡ map Some ss = cc in
        let first : tree_sort cons (value v e) ≡ Some s = k.0 (λ i r. a i (ap (λ b. b || list_any (λ part. part) (map (reads i) es)) r)) s q in
        let rest : map (tree_sort cons) (map (value v) es) ≡ map Some ss = each_keeps es k.1 (λ i r. a i (second_true (reads i e) (list_any (λ part. part) (map (reads i) es)) r)) ss q' in
        cc

    keeps_var : (i : ℕ) → Keeps (expr.Var i)
    keeps_var i a s h = ap (tree_sort cons) (value-Var v i) ∙ a i (reads-Var i i ∙ (Decides-eqb i i).1 refl) ∙ sym (expr_sort-Var cons vars i) ∙ h

    keeps_lit : (x : Value) → Keeps (expr.Lit x)
    keeps_lit x a s h = ap (tree_sort cons) (value-Lit v x) ∙ tree_sort-Plain cons x ∙ sym (expr_sort-Lit cons vars x) ∙ h

    map_plain : (ds : List DataSort) → map (λ d. Some (Plain d)) ds ≡ map Some (map Plain ds)
    map_plain [] = refl
    map_plain (d ∷ ds) = ap (λ xs. Some (Plain d) ∷ xs) (map_plain ds)

    -- the values of an operator's arguments are values of the sorts that it takes
    pub op_args : (op : Op) (es : List RuleExpr) (s : Sort) → Each Keeps es → ((i : ℕ) → IsTrue (reads i (expr.Op op es)) → Sorts i) → (p : OpParts op (map (expr_sort cons vars) es) s) → All IsValue (map plain_of (map (value v) es)) × (map value_sort (map plain_of (map (value v) es)) ≡ p.args)
    op_args op es s k a p =
        let same = each_keeps es k (λ i r. a i (reads-Op i op es ∙ r)) (map Plain p.args) (p.sorts ∙ map_plain p.args) in
        plains_are (map (value v) es) p.args (same ∙ sym (map_plain p.args))

    keeps_op : (op : Op) (es : List RuleExpr) → Each Keeps es → Keeps (expr.Op op es)
    keeps_op op es k a s h =
        let p = op_parts_of cons vars op es s h in
        let r = op_args op es s k a p in
        let xs = map plain_of (map (value v) es) in
        let o = operator_keeps_sort op xs p.gives r.0 (ap (op_sort op) r.1 ∙ p.fits) in
        ap (tree_sort cons) (value-Op v op es) ∙ tree_sort-Plain cons (op_value op xs) ∙ leaf-value (op_value op xs) o.value ∙ ap (λ d. Some (Plain d)) o.sort ∙ ap Some (sym p.is)

    keeps_con : (k : ConId) (es : List RuleExpr) → Each Keeps es → Keeps (expr.Con k es)
    keeps_con k es e a s h =
        let h' = sym (expr_sort-Con cons vars k es) ∙ h in
        let p = con_parts (slice_get cons k.0) (map (expr_sort cons vars) es) s h' in
        let same = each_keeps es e (λ i r. a i (reads-Con i k es ∙ r)) p.con.args p.sorts in
        ap (tree_sort cons) (value-Con v k es) ∙ tree_sort-Con cons k (map (value v) es) ∙ ap (con_sort (slice_get cons k.0)) (same ∙ sym p.sorts) ∙ h'

    pub keeps_sort : (e : RuleExpr) → Keeps e
    keeps_sort = expr_ind Keeps keeps_var keeps_lit keeps_op keeps_con

    pub each_all : (es : List RuleExpr) → Each Keeps es
    each_all [] = tt
    each_all (e ∷ es) = (keeps_sort e, each_all es)
