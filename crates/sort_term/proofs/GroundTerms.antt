-- Terms over values as nodes are trees.
use Rattle.std.proofs.Common.{◌≡◌, List, [], ◌∷◌, map, slice_get, refl, sym, ap, ◌∙◌}
use Rattle.data_value.specs.declared.Value.{Value}
use Rattle.data_value.specs.Ground.{ground_seen}
use Rattle.sort_term.specs.declared.ids.ConId.{ConId}
use Rattle.sort_term.specs.declared.semantics.Con.{Con}
use Rattle.sort_term.specs.declared.term.Term.TheVariants as term
use Rattle.sort_term.specs.Tree.{Tree, Trees}
use Rattle.sort_term.specs.Sorted.{con_sort, tree_sort}
use Rattle.sort_term.specs.NodeTerms.{seen_term, seen_sort, tree_of}
use Rattle.sort_term.proofs.Each.{Each}
use Rattle.sort_term.proofs.Equations.{tree_sort-Plain, tree_sort-Con}
use Rattle.sort_term.proofs.Induction.{term_ind}
use Rattle.sort_term.proofs.NodeTerming.{seen-Plain, seen-Con, seen_sort-Plain, seen_sort-Con, tree_of-Plain, tree_of-Con}

module _ (cons : List Con) where
  abbrev SameSort : Tree → Type 0
  SameSort t = seen_sort cons (seen_term ground_seen t) ≡ tree_sort cons t

  same_sorts : (ts : Trees) → Each SameSort ts → map (seen_sort cons) (map (seen_term ground_seen) ts) ≡ map (tree_sort cons) ts
  same_sorts [] e = refl
  same_sorts (t ∷ ts) e =
      let here : seen_sort cons (seen_term ground_seen t) ≡ tree_sort cons t = e.0 in
      let rest : map (seen_sort cons) (map (seen_term ground_seen) ts) ≡ map (tree_sort cons) ts = same_sorts ts e.1 in
      cc

  plain_sort : (x : Value) → SameSort (term.Plain x)
  plain_sort x = ap (seen_sort cons) (seen-Plain ground_seen x) ∙ seen_sort-Plain cons (ground_seen x) ∙ sym (tree_sort-Plain cons x)

  con_sorts : (k : ConId) (ts : Trees) → Each SameSort ts → SameSort (term.Con k ts)
  con_sorts k ts e =
      ap (seen_sort cons) (seen-Con ground_seen k ts) ∙ seen_sort-Con cons k (map (seen_term ground_seen) ts) ∙ ap (con_sort (slice_get cons k.0)) (same_sorts ts e) ∙ sym (tree_sort-Con cons k ts)

  pub ground_sort : (t : Tree) → SameSort t
  ground_sort = term_ind Value SameSort plain_sort con_sorts

module _ (v : List Value) where
  abbrev MeansItself : Tree → Type 0
  MeansItself t = tree_of v (seen_term ground_seen t) ≡ t

  all_themselves : (ts : Trees) → Each MeansItself ts → map (tree_of v) (map (seen_term ground_seen) ts) ≡ ts
  all_themselves [] e = refl
  all_themselves (t ∷ ts) e =
      let here : tree_of v (seen_term ground_seen t) ≡ t = e.0 in
      let rest : map (tree_of v) (map (seen_term ground_seen) ts) ≡ ts = all_themselves ts e.1 in
      cc

  con_itself : (k : ConId) (ts : Trees) → Each MeansItself ts → MeansItself (term.Con k ts)
  con_itself k ts e = ap (tree_of v) (seen-Con ground_seen k ts) ∙ tree_of-Con v k (map (seen_term ground_seen) ts) ∙ ap (term.Con k) (all_themselves ts e)

  pub ground_tree : (t : Tree) → MeansItself t
  ground_tree = term_ind Value MeansItself (λ x. ap (tree_of v) (seen-Plain ground_seen x) ∙ tree_of-Plain v (ground_seen x)) con_itself
