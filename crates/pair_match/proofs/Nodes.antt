-- Variables that are bound to nodes.
use Rattle.std.proofs.Common.{arith, ◌≡◌, ℕ, zero, suc, ◌<◌, IsTrue, List, [], ◌∷◌, length, map, get_or, slice_get, Option, Some, None, IsSome, All, refl, sym, ap, ◌∙◌, subst}
use Rattle.std.specs.Prelude.{option_map, option_and_then}
use Rattle.std.proofs.lemmas.Option.{get_or_from_slice_get, slice_get_within}
use Rattle.std.proofs.lemmas.List.Elements.{All-cons}
use Rattle.data_value.specs.declared.DataSort.{DataSort}
use Rattle.data_value.specs.declared.Op.{Op}
use Rattle.data_value.specs.declared.Value.{Value}
use Rattle.data_value.specs.Values.{value_sort}
use Rattle.data_value.specs.Nodes.{Seen, Extends}
use Rattle.sort_term.specs.declared.ids.ConId.{ConId}
use Rattle.sort_term.specs.declared.term.Sort.{Sort}
use Rattle.sort_term.specs.declared.term.Sort.TheVariants as sort
use Rattle.sort_term.specs.declared.term.Term.{Term}
use Rattle.sort_term.specs.declared.term.Term.TheVariants as term
use Rattle.sort_term.specs.declared.semantics.Con.{Con}
use Rattle.sort_term.specs.declared.rule.Var.{Var}
use Rattle.sort_term.specs.declared.rule.RuleExpr.{RuleExpr}
use Rattle.sort_term.specs.declared.rule.RuleExpr.TheVariants as expr
use Rattle.sort_term.specs.Tree.{Trees, tree_at}
use Rattle.sort_term.specs.System.{System}
use Rattle.sort_term.specs.Problems.{IsConfigExpr}
use Rattle.sort_term.specs.Signature.{is_plain}
use Rattle.sort_term.specs.Sorted.{expr_sort, expr_sort_where}
use Rattle.sort_term.specs.NodeTerms.{is_valid_term, seen_sort, tree_of}
use Rattle.sort_term.proofs.Declared.{declares}
use Rattle.sort_term.proofs.Equations.{where-Var, where-Lit, where-Op}
use Rattle.sort_term.proofs.Induction.{expr_ind, term_ind}
use Rattle.sort_term.proofs.LeafSorts.{leaf-value}
use Rattle.sort_term.proofs.NodeTerming.{node_is, node_of, valid-Plain, seen_sort-Plain, seen_sort-Con, tree_of-Plain}
use Rattle.sort_term.proofs.Parts.{con_parts, applied_parts, some_of}
use Rattle.sort_term.proofs.Standing.{get-is, get-some}
use Rattle.unify.specs.Binds.{Bound, seen_binds, bound_at, bound_sort, IsBound, AreBinds, AreValid, Agrees}
use Rattle.unify.proofs.Binding.{var_there}
use Rattle.unify.proofs.Evaluated.{leaf_value, binds_stay}
use Rattle.unify.proofs.Filled.{sort_bound}
use Rattle.unify.proofs.Nodes.{plain_same}
use Rattle.pair_match.specs.Bound.{IsData, AreNodes, AreAllBound, IsBoundToNode, bound_to}
use Rattle.pair_match.specs.Matches.{AreNodesOf, trees_of}

-- variables that are bound to nodes are bound to valid terms
pub nodes_valid : {N : Type 0} (bs : Bound N) → AreNodes bs → AreValid bs
nodes_valid bs a = record { at = λ i t h. let s = a.at i t h in ap is_valid_term s.1 ∙ valid-Plain s.0 ∙ s.2 }

-- an expression over them that is no constructor is of a sort of data
module _ {N : Type 0} (cons : List Con) (bs : Bound N) (nodes : AreNodes bs) where
  abbrev SortOf : RuleExpr → Option Sort
  SortOf = expr_sort_where cons (bound_sort cons bs)

  abbrev LeafData : RuleExpr → Type 0
  LeafData e = ((c : ConId) (es : List RuleExpr) → e ≡ expr.Con c es → ⊥) → IsSome (SortOf e) → IsData (SortOf e)

  var_data : (i : ℕ) → LeafData (expr.Var i)
  var_data i other h = go (bound_at bs i) refl (subst IsSome (where-Var cons (bound_sort cons bs) i) h)
    where
      go : (o : Option (Term (Seen N))) → bound_at bs i ≡ o → IsSome (option_and_then (seen_sort cons) (bound_at bs i)) → IsData (SortOf (expr.Var i))
      go None e k = absurd (let none : IsSome {T = Sort} None = subst IsSome (ap (option_and_then (seen_sort cons)) e) k in cc)
      go (Some t) e k =
          let s = nodes.at i t e in
          (s.0.sort, where-Var cons (bound_sort cons bs) i ∙ ap (option_and_then (seen_sort cons)) e ∙ ap (seen_sort cons) s.1 ∙ seen_sort-Plain cons s.0 ∙ node_of s.0 s.0.sort s.2 refl)

  lit_data : (x : Value) → LeafData (expr.Lit x)
  lit_data x other h =
      let e = where-Lit cons (bound_sort cons bs) x in
      (value_sort x, e ∙ leaf-value x (leaf_value x (subst IsSome e h)))

  op_data : (op : Op) (es : List RuleExpr) → LeafData (expr.Op op es)
  op_data op es other h =
      let s = some_of (SortOf (expr.Op op es)) h in
      let p = applied_parts op (map SortOf es) s.0 (sym (where-Op cons (bound_sort cons bs) op es) ∙ s.1) in
      (p.gives, s.1 ∙ ap Some p.is)

  pub leaf_data : (e : RuleExpr) → LeafData e
  leaf_data = expr_ind LeafData var_data lit_data (λ op es k. op_data op es) (λ c es k other h. absurd (other c es refl))

-- a term of a sort of data is a node of it
module _ {N : Type 0} (cons : List Con) where
  abbrev DataIsNode : Term (Seen N) → Type 0
  DataIsNode t = (d : DataSort) → seen_sort cons t ≡ Some (sort.Plain d) → (s : Seen N) × (t ≡ term.Plain s) × IsTrue s.valid × (d ≡ s.sort)

  plain_node : (s : Seen N) → DataIsNode (term.Plain s)
  plain_node s d h =
      let is = node_is s (sort.Plain d) (sym (seen_sort-Plain cons s) ∙ h) in
      let q : sort.Plain d ≡ sort.Plain s.sort = is.1 in
      (s, refl, is.0, cc)

  con_node : (k : ConId) (ts : List (Term (Seen N))) → DataIsNode (term.Con k ts)
  con_node k ts d h =
      let p = con_parts (slice_get cons k.0) (map (seen_sort cons) ts) (sort.Plain d) (sym (seen_sort-Con cons k ts) ∙ h) in
      let q : sort.Own p.con.sort ≡ sort.Plain d = p.makes in
      absurd (cc)

  pub data_is_node : (t : Term (Seen N)) → DataIsNode t
  data_is_node = term_ind (Seen N) DataIsNode plain_node (λ k ts e. con_node k ts)

-- the sort of a variable of a point is one of data
plain_is : (s : Sort) → IsTrue (is_plain s) → (d : DataSort) × (s ≡ sort.Plain d)
plain_is (sort.Own a) h = absurd (cc)
plain_is (sort.Plain d) h = (d, refl)

pub var_plain : (vars : List Var) (i : ℕ) (x : Var) → All (λ y. IsTrue (is_plain y.sort)) vars → slice_get vars i ≡ Some x → (d : DataSort) × (x.sort ≡ sort.Plain d)
var_plain vars i x a h = plain_is x.sort (subst (λ (y : Var). IsTrue (is_plain y.sort)) (get_or_from_slice_get vars i x x h) (a i x (slice_get_within vars i x h)))

-- the place of a bound variable
pub below : {X : Type 0} (bs : List (Option X)) (i : ℕ) (t : X) → bound_at bs i ≡ Some t → i < length bs
below [] i t h = absurd (cc)
below (b ∷ bs) zero t h = omega arith
below (b ∷ bs) (suc i) t h = let l = below bs i t h in omega arith

module _ {N : Type 0} (vars : List Var) (bs : Bound N) (all : AreAllBound vars bs) where
  -- a bound variable is one of the variables
  var_of : (i : ℕ) (t : Term (Seen N)) → bound_at bs i ≡ Some t → (x : Var) × (slice_get vars i ≡ Some x)
  var_of i t h = var_there vars i (subst (λ n. i < n) all.long (below bs i t h))

  -- each is bound to a node, which is valid and of its sort, whatever the constructors
  pub all_nodes : AreNodes bs
  all_nodes = record {
    at = λ i t h.
        let x = var_of i t h in
        let s = all.each i x.0 x.1 in
        let e : Some t ≡ Some (term.Plain s.0) = sym h ∙ s.1 in
        let is : t ≡ term.Plain s.0 = cc in
        (s.0, is, s.2);
  }

  pub all_binds : (cons : List Con) → AreBinds cons vars bs
  all_binds cons = record {
    long = all.long;
    sorted = λ i t h.
        let x = var_of i t h in
        let s = all.each i x.0 x.1 in
        let e : Some t ≡ Some (term.Plain s.0) = sym h ∙ s.1 in
        let is : t ≡ term.Plain s.0 = cc in
        ap (seen_sort cons) is ∙ seen_sort-Plain cons s.0 ∙ node_of s.0 s.0.sort s.2 refl ∙ ap Some (sym s.3) ∙ sym (ap (option_map (λ (y : Var). y.sort)) x.1);
  }

  pub all_bound : (i : ℕ) → i < length vars → IsBound bs i
  all_bound i l =
      let x = var_there vars i l in
      let s = all.each i x.0 x.1 in
      subst IsSome (sym s.1) refl

  pub all_to_node : All IsBoundToNode bs
  all_to_node k d l =
      let x = var_there vars k (subst (λ n. k < n) all.long l) in
      let s = all.each k x.0 x.1 in
      (s.0, get-is bs k (get_or bs k None) d (get-some bs k None l) ∙ s.1, s.2)

  -- what has a sort over the variables has it where each has the sort of its node
  pub sort_all_bound : (cons : List Con) (e : RuleExpr) → IsSome (expr_sort cons vars e) → expr_sort_where cons (bound_sort cons bs) e ≡ expr_sort cons vars e
  sort_all_bound cons e some = sort_bound cons vars bs e (all_binds cons) (λ i r. all_bound i (declares cons vars e some i r))

  -- the terms of a point are of the configuration sort
  pub config_sorted : (sys : System) (e : RuleExpr) → IsConfigExpr sys vars e → expr_sort_where sys.cons (bound_sort sys.cons bs) e ≡ Some (sort.Own sys.config)
  config_sorted sys e is = sort_all_bound sys.cons e (subst IsSome (sym is.is) refl) ∙ is.is

-- variables that are bound to nodes stay so where the domain grows
module _ {N : Type 0} (f g : N → Seen N) (x : Extends f g) (vars : List Var) (binds : List (Option (Term N))) (all : AreAllBound vars (seen_binds f binds)) where
  pub bound_stay : seen_binds g binds ≡ seen_binds f binds
  bound_stay = binds_stay f g x binds (nodes_valid (seen_binds f binds) (all_nodes vars (seen_binds f binds) all))

  pub all_bound_stay : AreAllBound vars (seen_binds g binds)
  all_bound_stay = subst (AreAllBound vars) (sym bound_stay) all

-- variables that are bound to nodes, one each
pub nodes_of : {N : Type 0} (vars : List Var) (ss : List (Seen N)) → AreAllBound vars (bound_to ss) → AreNodesOf vars ss
nodes_of [] [] a = record { valid = λ k d l. absurd (omega arith); sorted = refl }
nodes_of [] (s ∷ ss) a = absurd (let l = a.long in omega arith)
nodes_of (x ∷ vars) [] a = absurd (let l = a.long in omega arith)
nodes_of {N} (x ∷ vars) (s ∷ ss) a =
    let long = a.long in
    let rest = nodes_of vars ss (record { long = omega arith; each = λ i y h. a.each (suc i) y h }) in
    let here = a.each 0 x refl in
    let e : Some (term.Plain s) ≡ Some (term.Plain here.0) = here.1 in
    let f : term.Plain s ≡ term.Plain here.0 = cc in
    let is : s ≡ here.0 = plain_same s here.0 f in
    let first : sort.Plain s.sort ≡ x.sort = ap (λ (u : Seen N). sort.Plain u.sort) is ∙ sym here.3 in
    let others : map (λ u. sort.Plain u.sort) ss ≡ map (λ y. y.sort) vars = rest.sorted in
    record {
      valid = All-cons (λ u. IsTrue u.valid) s ss (ap (λ (u : Seen N). u.valid) is ∙ here.2) rest.valid;
      sorted = cc;
    }

-- exactly what they mean agrees with them
agrees_there : {N : Type 0} (v : List Value) (ss : List (Seen N)) (i : ℕ) (t : Term (Seen N)) → bound_at (bound_to ss) i ≡ Some t → tree_at (trees_of v ss) i ≡ tree_of v t
agrees_there v [] i t h = absurd (cc)
agrees_there v (s ∷ ss) zero t h = let e : term.Plain s ≡ t = cc in sym (tree_of-Plain v s) ∙ ap (tree_of v) e
agrees_there v (s ∷ ss) (suc i) t h = agrees_there v ss i t h

pub agrees_self : {N : Type 0} (v : List Value) (ss : List (Seen N)) → Agrees v (bound_to ss) (trees_of v ss)
agrees_self v ss = record { at = agrees_there v ss }

pub agrees_only : {N : Type 0} (v : List Value) (ss : List (Seen N)) (w : Trees) → length w ≡ length ss → Agrees v (bound_to ss) w → w ≡ trees_of v ss
agrees_only v [] [] l a = refl
agrees_only v [] (t ∷ w) l a = absurd (omega arith)
agrees_only v (s ∷ ss) [] l a = absurd (omega arith)
agrees_only v (s ∷ ss) (t ∷ w) l a =
    let e : t ≡ term.Plain (s.meaning v) = a.at 0 (term.Plain s) refl ∙ tree_of-Plain v s in
    let f : w ≡ trees_of v ss = agrees_only v ss w (omega arith) (record { at = λ i u h. a.at (suc i) u h }) in
    cc
