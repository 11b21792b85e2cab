-- How the term of an expression comes from the terms of its parts.
use Rattle.std.proofs.Common.{◌≡◌, ℕ, zero, suc, ◌+◌, ◌<◌, Bool, true, false, IsTrue, List, [], ◌∷◌, ◌++◌, length, map, take, get_or, slice_get, Option, Some, None, IsSome, All, refl, sym, ap, ◌∙◌, subst}
use Rattle.std.specs.Prelude.{if◌then◌else◌, option_map, option_and_then}
use Rattle.std.specs.List.{list_all}
use Rattle.std.proofs.lemmas.Bool.{and_from}
use Rattle.std.proofs.lemmas.List.{take_more, map-append}
use Rattle.std.proofs.lemmas.List.Elements.{All-head, All-tail, All-map, All-take}
use Rattle.data_value.specs.declared.Op.{Op}
use Rattle.data_value.specs.declared.Value.{Value}
use Rattle.data_value.specs.Sorts.{op_sort}
use Rattle.data_value.specs.Values.{IsValue, is_value, value_sort}
use Rattle.data_value.specs.Ops.{op_value}
use Rattle.data_value.specs.Nodes.{Seen, Extends, AllValid, sorts_of, IsConstant, IsApplied}
use Rattle.data_value.proofs.TestLemmas.{decides_value}
use Rattle.sort_term.specs.declared.ids.ConId.{ConId}
use Rattle.sort_term.specs.declared.term.Sort.{Sort}
use Rattle.sort_term.specs.declared.term.Sort.TheVariants as sort
use Rattle.sort_term.specs.declared.semantics.Con.{Con}
use Rattle.sort_term.specs.declared.term.Term.{Term}
use Rattle.sort_term.specs.declared.term.Term.TheVariants as term
use Rattle.sort_term.specs.declared.rule.RuleExpr.{RuleExpr}
use Rattle.sort_term.specs.declared.rule.RuleExpr.TheVariants as expr
use Rattle.sort_term.specs.Tree.{plain_of, value}
use Rattle.sort_term.specs.Sorted.{leaf_sort, con_sort, expr_sort_where}
use Rattle.sort_term.specs.NodeTerms.{seen_term, is_valid_term, seen_sort, tree_of}
use Rattle.sort_term.proofs.Equations.{where-Var, where-Lit, where-Op, where-Con, value-Var, value-Lit, value-Op, value-Con}
use Rattle.sort_term.proofs.LeafSorts.{leaf-value}
use Rattle.sort_term.proofs.NodeTerming.{seen-Con, tree_of-Con, seen_sort-Con, node_of, term_stays, terms_stay, sorted_valid}
use Rattle.sort_term.proofs.Parts.{some_of, con_parts, all_some, OpParts, applied_parts, all_plain}
use Rattle.unify.specs.Binds.{Bound, seen_binds, bound_at, IsBound, bound_sort, AreValid, IsNode, Gives, GiveAll}
use Rattle.unify.proofs.Nodes.{data_nodes, nodes_sorted, plain_sort, plain_tree, plain_trees}

-- a lawful value by its sort
pub leaf_value : (x : Value) → IsSome (leaf_sort x) → IsValue x
leaf_value x h = go (is_value x) refl h
  where
    go : (b : Bool) → is_value x ≡ b → IsSome (if b then Some (sort.Plain (value_sort x)) else None) → IsValue x
    go true e m = (decides_value x).0 e
    go false e m = absurd (cc)

bound_by_sort : {N : Type 0} (cons : List Con) (o : Option (Term (Seen N))) → IsSome (option_and_then (seen_sort cons) o) → IsSome o
bound_by_sort cons None h = h
bound_by_sort cons (Some t) h = refl

module _ {N : Type 0} (cons : List Con) (bs : Bound N) where
  abbrev pub SortOf : RuleExpr → Option Sort
  SortOf = expr_sort_where cons (bound_sort cons bs)

  pub var_bound : (e : RuleExpr) (i : ℕ) → e ≡ expr.Var i → IsSome (SortOf e) → IsBound bs i
  var_bound e i is h = bound_by_sort cons (bound_at bs i) (subst IsSome (ap SortOf is ∙ where-Var cons (bound_sort cons bs) i) h)

  pub lit_value : (e : RuleExpr) (x : Value) → e ≡ expr.Lit x → IsSome (SortOf e) → IsValue x
  lit_value e x is h = leaf_value x (subst IsSome (ap SortOf is ∙ where-Lit cons (bound_sort cons bs) x) h)

  op_parts : (e : RuleExpr) (op : Op) (es : List RuleExpr) → e ≡ expr.Op op es → IsSome (SortOf e) → (s : Sort) × (SortOf e ≡ Some s) × OpParts op (map SortOf es) s
  op_parts e op es is h =
      let s = some_of (SortOf e) h in
      (s.0, s.1, applied_parts op (map SortOf es) s.0 (sym (ap SortOf is ∙ where-Op cons (bound_sort cons bs) op es) ∙ s.1))

  pub op_sorted : (e : RuleExpr) (op : Op) (es xs : List RuleExpr) → e ≡ expr.Op op es → xs ≡ es → IsSome (SortOf e) → All (λ x. IsSome (SortOf x)) xs
  op_sorted e op es xs is same h =
      let p = (op_parts e op es is h).2 in
      subst (All (λ x. IsSome (SortOf x))) (sym same) (all_plain SortOf es p.args p.sorts)

  pub con_sorted : (e : RuleExpr) (k : ConId) (es xs : List RuleExpr) → e ≡ expr.Con k es → xs ≡ es → IsSome (SortOf e) → All (λ x. IsSome (SortOf x)) xs
  con_sorted e k es xs is same h =
      let s = some_of (SortOf e) h in
      let p = con_parts (slice_get cons k.0) (map SortOf es) s.0 (sym (ap SortOf is ∙ where-Con cons (bound_sort cons bs) k es) ∙ s.1) in
      subst (All (λ x. IsSome (SortOf x))) (sym same) (all_some SortOf es p.con.args p.sorts)

  pub var_gives : (e : RuleExpr) (i : ℕ) (t : Term (Seen N)) → e ≡ expr.Var i → bound_at bs i ≡ Some t → Gives cons bs e t
  var_gives e i t is there = record {
    sorted = sym (ap SortOf is ∙ where-Var cons (bound_sort cons bs) i ∙ ap (option_and_then (seen_sort cons)) there);
    means = λ v w a. ap (value w) is ∙ value-Var w i ∙ a.at i t there;
  }

  pub lit_gives : (f : N → Seen N) (e : RuleExpr) (x : Value) (n : N) → e ≡ expr.Lit x → IsSome (SortOf e) → IsConstant f x n → Gives cons bs e (seen_term f (term.Plain n))
  lit_gives f e x n is h made = record {
    sorted = plain_sort cons f n ∙ node_of (f n) (value_sort x) made.valid made.sort ∙ sym (leaf-value x (lit_value e x is h)) ∙ sym (ap SortOf is ∙ where-Lit cons (bound_sort cons bs) x);
    means = λ v w a. ap (value w) is ∙ value-Lit w x ∙ ap term.Plain (sym (made.means v)) ∙ sym (plain_tree f v n);
  }

  pub con_gives : (f : N → Seen N) (e : RuleExpr) (k : ConId) (es xs : List RuleExpr) (ts us : List (Term N)) → e ≡ expr.Con k es → xs ≡ es → us ≡ ts → GiveAll cons bs xs (map (seen_term f) ts) → Gives cons bs e (seen_term f (term.Con k us))
  con_gives f e k es xs ts us is same kept made =
      let vs = map (seen_term f) ts in
      let whole : seen_term f (term.Con k us) ≡ term.Con k vs = seen-Con f k us ∙ ap (λ ys. term.Con k (map (seen_term f) ys)) kept in
      record {
        sorted =
            ap (seen_sort cons) whole ∙ seen_sort-Con cons k vs ∙ ap (con_sort (slice_get cons k.0)) (made.sorted ∙ ap (map SortOf) same)
            ∙ sym (ap SortOf is ∙ where-Con cons (bound_sort cons bs) k es);
        means = λ v w a.
            ap (value w) is ∙ value-Con w k es ∙ ap (term.Con k) (ap (map (value w)) (sym same) ∙ made.mean v w a) ∙ sym (ap (tree_of v) whole ∙ tree_of-Con v k vs);
      }

  -- an operator at the terms of its arguments, which are nodes
  module _ (f : N → Seen N) (e : RuleExpr) (op : Op) (es xs : List RuleExpr) (ts : List (Term N)) (is : e ≡ expr.Op op es) (same : xs ≡ es) (made : GiveAll cons bs xs (map (seen_term f) ts)) (h : IsSome (SortOf e)) where
    parts : (s : Sort) × (SortOf e ≡ Some s) × OpParts op (map SortOf es) s
    parts = op_parts e op es is h

    sorts_are : map (seen_sort cons) (map (seen_term f) ts) ≡ map (λ d. Some (sort.Plain d)) parts.2.args
    sorts_are = made.sorted ∙ ap (map SortOf) same ∙ parts.2.sorts

    pub args_nodes : All IsNode ts
    args_nodes = data_nodes cons f ts parts.2.args sorts_are

    module _ (ns : List N) (nodes : ts ≡ map term.Plain ns) where
      nodes_are : AllValid f ns × (sorts_of f ns ≡ parts.2.args)
      nodes_are = nodes_sorted cons f ns parts.2.args (ap (λ us. map (seen_sort cons) (map (seen_term f) us)) (sym nodes) ∙ sorts_are)

      pub args_valid : AllValid f ns
      args_valid = nodes_are.0

      pub args_fit : IsSome (op_sort op (sorts_of f ns))
      args_fit = subst IsSome (sym (ap (op_sort op) nodes_are.1 ∙ parts.2.fits)) refl

      pub op_gives : (g : N → Seen N) (n : N) → IsApplied f g op ns n → Gives cons bs e (seen_term g (term.Plain n))
      op_gives g n applied =
          let gives : Some (g n).sort ≡ Some parts.2.gives = sym applied.sort ∙ ap (op_sort op) nodes_are.1 ∙ parts.2.fits in
          let sort_is : (g n).sort ≡ parts.2.gives = cc in
          record {
            sorted = plain_sort cons g n ∙ node_of (g n) parts.2.gives applied.valid sort_is ∙ ap Some (sym parts.2.is) ∙ sym parts.1;
            means = λ v w a.
                ap (value w) is ∙ value-Op w op es
                ∙ ap (λ l. term.Plain (op_value op (map plain_of l))) (ap (map (value w)) (sym same) ∙ made.mean v w a ∙ ap (λ us. map (tree_of v) (map (seen_term f) us)) nodes)
                ∙ ap (λ l. term.Plain (op_value op l)) (plain_trees f v ns) ∙ ap term.Plain (sym (applied.means v)) ∙ sym (plain_tree g v n);
          }

  pub none_give : GiveAll cons bs [] []
  none_give = record { sorted = refl; mean = λ v w a. refl }

-- bound terms of valid nodes stay as they are where the domain grows
module _ {N : Type 0} (f g : N → Seen N) (x : Extends f g) where
  pub binds_stay : (bs : List (Option (Term N))) → AreValid (seen_binds f bs) → seen_binds g bs ≡ seen_binds f bs
  binds_stay [] a = refl
  binds_stay (b ∷ bs) a = both b a.at (binds_stay bs (record { at = λ i t h. a.at (suc i) t h }))
    where
      both : (b : Option (Term N)) → ((i : ℕ) (t : Term (Seen N)) → bound_at (seen_binds f (b ∷ bs)) i ≡ Some t → IsTrue (is_valid_term t)) → seen_binds g bs ≡ seen_binds f bs → seen_binds g (b ∷ bs) ≡ seen_binds f (b ∷ bs)
      both None h rest = ap (λ cs. None ∷ cs) rest
      both (Some t) h rest =
          let here : seen_term g t ≡ seen_term f t = term_stays f g x t (h 0 (seen_term f t) refl) in
          ap (λ u. Some u ∷ seen_binds g bs) here ∙ ap (λ cs. Some (seen_term f t) ∷ cs) rest

  pub valid_stay : (bs : List (Option (Term N))) → AreValid (seen_binds f bs) → AreValid (seen_binds g bs)
  valid_stay bs a = subst AreValid (sym (binds_stay bs a)) a

-- the term of a variable
pub bound_seen : {N : Type 0} (f : N → Seen N) (bs : List (Option (Term N))) (i : ℕ) (t : Term N) → slice_get bs i ≡ Some (Some t) → bound_at (seen_binds f bs) i ≡ Some (seen_term f t)
bound_seen f [] i t h = absurd (cc)
bound_seen f (b ∷ bs) zero t h = let e : b ≡ Some t = cc in ap (option_map (seen_term f)) e
bound_seen f (b ∷ bs) (suc i) t h = bound_seen f bs i t h

pub free_seen : {N : Type 0} (f : N → Seen N) (bs : List (Option (Term N))) (i : ℕ) → slice_get bs i ≡ Some None → bound_at (seen_binds f bs) i ≡ None
free_seen f [] i h = refl
free_seen f (b ∷ bs) zero h = let e : b ≡ None = cc in ap (option_map (seen_term f)) e
free_seen f (b ∷ bs) (suc i) h = free_seen f bs i h

pub past_seen : {N : Type 0} (f : N → Seen N) (bs : List (Option (Term N))) (i : ℕ) → slice_get bs i ≡ None → bound_at (seen_binds f bs) i ≡ None
past_seen f [] i h = refl
past_seen f (b ∷ bs) zero h = absurd (cc)
past_seen f (b ∷ bs) (suc i) h = past_seen f bs i h

pub not_bound : {X : Type 0} (bs : List (Option X)) (i : ℕ) → bound_at bs i ≡ None → IsBound bs i → ⊥
not_bound {X} bs i e h = let none : IsSome {T = X} None = subst IsSome e h in cc

-- terms that all have sorts are valid
pub sorted_all_valid : {N : Type 0} (cons : List Con) (us : List (Term (Seen N))) (os : List (Option Sort)) → map (seen_sort cons) us ≡ os → All IsSome os → IsTrue (list_all is_valid_term us)
sorted_all_valid cons [] os e a = refl
sorted_all_valid cons (u ∷ us) [] e a = absurd (cc)
sorted_all_valid cons (u ∷ us) (o ∷ os) e a =
    let p : seen_sort cons u ≡ o = cc in
    let q : map (seen_sort cons) us ≡ os = cc in
    let s = some_of o (All-head IsSome o os a) in
    and_from (is_valid_term u) (list_all is_valid_term us) (sorted_valid cons u s.0 (p ∙ s.1)) (sorted_all_valid cons us os q (All-tail IsSome o os a))

-- one expression more
module _ {N : Type 0} (cons : List Con) (f₀ f g : N → Seen N) (binds : List (Option (Term N))) (xs : List RuleExpr) (i : ℕ) (e : RuleExpr) (ts us : List (Term N)) (t : Term N) (ok : AreValid (seen_binds f₀ binds)) (sorted : All (λ y. IsSome (expr_sort_where cons (bound_sort cons (seen_binds f₀ binds)) y)) xs) (grown : Extends f₀ f) (growing : Extends f g) (lt : i < length xs) (is : e ≡ get_or xs i e) (pushed : us ≡ ts ++ t ∷ []) where
  pub more_give : GiveAll cons (seen_binds f₀ binds) (take i xs) (map (seen_term f) ts) → Gives cons (seen_binds f binds) e (seen_term g t) → GiveAll cons (seen_binds f₀ binds) (take (i + 1) xs) (map (seen_term g) us)
  more_give so_far here =
      let bs = seen_binds f₀ binds in
      let sort_of = expr_sort_where cons (bound_sort cons bs) in
      let there : All IsSome (map sort_of (take i xs)) = All-map IsSome sort_of (take i xs) (All-take (λ y. IsSome (sort_of y)) i xs sorted) in
      let kept : map (seen_term g) ts ≡ map (seen_term f) ts = terms_stay f g growing ts (sorted_all_valid cons (map (seen_term f) ts) (map sort_of (take i xs)) so_far.sorted there) in
      let all : map (seen_term g) us ≡ map (seen_term f) ts ++ seen_term g t ∷ [] = ap (map (seen_term g)) pushed ∙ map-append (seen_term g) ts (t ∷ []) ∙ ap (λ ys. ys ++ seen_term g t ∷ []) kept in
      let more : take (i + 1) xs ≡ take i xs ++ e ∷ [] = take_more xs i e lt ∙ ap (λ y. take i xs ++ y ∷ []) (sym is) in
      let now : Gives cons bs e (seen_term g t) = subst (λ cs. Gives cons cs e (seen_term g t)) (binds_stay f₀ f grown binds ok) here in
      record {
        sorted =
            ap (map (seen_sort cons)) all ∙ map-append (seen_sort cons) (map (seen_term f) ts) (seen_term g t ∷ [])
            ∙ ap (λ os. os ++ seen_sort cons (seen_term g t) ∷ []) so_far.sorted ∙ ap (λ o. map sort_of (take i xs) ++ o ∷ []) now.sorted
            ∙ sym (ap (map sort_of) more ∙ map-append sort_of (take i xs) (e ∷ []));
        mean = λ v w a.
            ap (map (value w)) more ∙ map-append (value w) (take i xs) (e ∷ [])
            ∙ ap (λ ys. ys ++ value w e ∷ []) (so_far.mean v w a) ∙ ap (λ y. map (tree_of v) (map (seen_term f) ts) ++ y ∷ []) (now.means v w a)
            ∙ sym (ap (map (tree_of v)) all ∙ map-append (tree_of v) (map (seen_term f) ts) (seen_term g t ∷ []));
      }
