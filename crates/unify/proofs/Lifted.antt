-- Terms of constants.
use Rattle.std.proofs.Common.{◌≡◌, ℕ, ◌+◌, ◌<◌, List, [], ◌∷◌, ◌++◌, length, map, take, get_or, slice_get, IsSome, All, refl, sym, ap, ◌∙◌, subst}
use Rattle.std.proofs.lemmas.List.{map-append, take_more}
use Rattle.std.proofs.lemmas.List.Elements.{All-take, All-map}
use Rattle.data_value.specs.declared.Value.{Value}
use Rattle.data_value.specs.Nodes.{Seen, Extends, IsConstant}
use Rattle.data_value.specs.Values.{IsValue, value_sort}
use Rattle.sort_term.specs.declared.ids.ConId.{ConId}
use Rattle.sort_term.specs.declared.semantics.Con.{Con}
use Rattle.sort_term.specs.declared.term.Term.{Term}
use Rattle.sort_term.specs.declared.term.Term.TheVariants as term
use Rattle.sort_term.specs.Tree.{Tree, Trees}
use Rattle.sort_term.specs.Sorted.{con_sort, tree_sort}
use Rattle.sort_term.specs.NodeTerms.{seen_term, seen_sort, tree_of}
use Rattle.sort_term.proofs.Equations.{tree_sort-Plain, tree_sort-Con}
use Rattle.sort_term.proofs.LeafSorts.{leaf-value}
use Rattle.sort_term.proofs.Parts.{con_parts, some_of, all_some}
use Rattle.sort_term.proofs.NodeTerming.{seen-Con, seen_sort-Con, tree_of-Con, node_of, terms_stay}
use Rattle.unify.specs.Constants.{IsTreeTerm, AreTreeTerms}
use Rattle.unify.proofs.Nodes.{plain_sort, plain_tree}
use Rattle.unify.proofs.Evaluated.{sorted_all_valid}

module _ (cons : List Con) where
  -- the value that a well-sorted tree is
  pub leaf_value : (t : Tree) (x : Value) → t ≡ term.Plain x → IsSome (tree_sort cons t) → IsValue x
  leaf_value t x e h = Rattle.unify.proofs.Evaluated.leaf_value x (subst IsSome (ap (tree_sort cons) e ∙ tree_sort-Plain cons x) h)

  pub parts_sorted : (t : Tree) (k : ConId) (ts us : Trees) → t ≡ term.Con k ts → us ≡ ts → IsSome (tree_sort cons t) → All (λ u. IsSome (tree_sort cons u)) us
  parts_sorted t k ts us e d h =
      let s = some_of (tree_sort cons t) h in
      let p = con_parts (slice_get cons k.0) (map (tree_sort cons) ts) s.0 (sym (ap (tree_sort cons) e ∙ tree_sort-Con cons k ts) ∙ s.1) in
      subst (All (λ u. IsSome (tree_sort cons u))) (sym d) (all_some (tree_sort cons) ts p.con.args p.sorts)

  module _ {N : Type 0} (f : N → Seen N) where
    pub leaf_term : (t : Tree) (x : Value) (n : N) → t ≡ term.Plain x → IsSome (tree_sort cons t) → IsConstant f x n → IsTreeTerm cons t (seen_term f (term.Plain n))
    leaf_term t x n e h c = record {
      sorted = plain_sort cons f n ∙ node_of (f n) (value_sort x) c.valid c.sort ∙ sym (leaf-value x (leaf_value t x e h)) ∙ sym (ap (tree_sort cons) e ∙ tree_sort-Plain cons x);
      means = λ v. plain_tree f v n ∙ ap term.Plain (c.means v) ∙ sym e;
    }

    pub con_term : (t : Tree) (k : ConId) (ts us : Trees) (xs : List (Term N)) → t ≡ term.Con k ts → us ≡ ts → AreTreeTerms cons us (map (seen_term f) xs) → IsTreeTerm cons t (seen_term f (term.Con k xs))
    con_term t k ts us xs e d a = record {
      sorted =
          ap (seen_sort cons) (seen-Con f k xs) ∙ seen_sort-Con cons k (map (seen_term f) xs) ∙ ap (con_sort (slice_get cons k.0)) (a.sorted ∙ ap (map (tree_sort cons)) d)
          ∙ sym (ap (tree_sort cons) e ∙ tree_sort-Con cons k ts);
      means = λ v. ap (tree_of v) (seen-Con f k xs) ∙ tree_of-Con v k (map (seen_term f) xs) ∙ ap (term.Con k) (a.mean v ∙ d) ∙ sym e;
    }

  pub none_terms : {N : Type 0} → AreTreeTerms {N = N} cons [] []
  none_terms = record { sorted = refl; mean = λ v. refl }

  -- one term more
  pub more_terms : {N : Type 0} (f g : N → Seen N) → Extends f g → (trees : Trees) (i : ℕ) (t : Tree) (xs new : List (Term N)) (x : Term N) → All (λ u. IsSome (tree_sort cons u)) trees → i < length trees → t ≡ get_or trees i t → new ≡ xs ++ x ∷ [] →
      AreTreeTerms cons (take i trees) (map (seen_term f) xs) → IsTreeTerm cons t (seen_term g x) → AreTreeTerms cons (take (i + 1) trees) (map (seen_term g) new)
  more_terms f g grown trees i t xs new x ok l e pushed a b =
      let there : All IsSome (map (tree_sort cons) (take i trees)) = All-map IsSome (tree_sort cons) (take i trees) (All-take (λ u. IsSome (tree_sort cons u)) i trees ok) in
      let kept : map (seen_term g) xs ≡ map (seen_term f) xs = terms_stay f g grown xs (sorted_all_valid cons (map (seen_term f) xs) (map (tree_sort cons) (take i trees)) a.sorted there) in
      let all : map (seen_term g) new ≡ map (seen_term f) xs ++ seen_term g x ∷ [] = ap (map (seen_term g)) pushed ∙ map-append (seen_term g) xs (x ∷ []) ∙ ap (λ ys. ys ++ seen_term g x ∷ []) kept in
      let more : take (i + 1) trees ≡ take i trees ++ t ∷ [] = take_more trees i t l ∙ ap (λ y. take i trees ++ y ∷ []) (sym e) in
      record {
        sorted =
            ap (map (seen_sort cons)) all ∙ map-append (seen_sort cons) (map (seen_term f) xs) (seen_term g x ∷ []) ∙ ap (λ os. os ++ seen_sort cons (seen_term g x) ∷ []) a.sorted
            ∙ ap (λ o. map (tree_sort cons) (take i trees) ++ o ∷ []) b.sorted ∙ sym (map-append (tree_sort cons) (take i trees) (t ∷ [])) ∙ sym (ap (map (tree_sort cons)) more);
        mean = λ v.
            ap (map (tree_of v)) all ∙ map-append (tree_of v) (map (seen_term f) xs) (seen_term g x ∷ []) ∙ ap (λ os. os ++ tree_of v (seen_term g x) ∷ []) (a.mean v) ∙ ap (λ o. take i trees ++ o ∷ []) (b.means v) ∙ sym more;
      }
