-- Terms over simpler nodes.
use Rattle.std.proofs.Common.{◌≡◌, ◌+◌, ◌<◌, ℕ, IsTrue, List, [], ◌∷◌, ◌++◌, length, map, take, get_or, slice_get, refl, sym, ap, subst, ◌∙◌}
use Rattle.std.specs.List.{list_all}
use Rattle.std.proofs.lemmas.Bool.{and_parts, and_from}
use Rattle.std.proofs.lemmas.List.{take_more, map-append}
use Rattle.data_value.specs.declared.DataSort.{DataSort}
use Rattle.data_value.specs.Nodes.{Seen, Extends}
use Rattle.simplify.specs.Simpler.{IsSimpler}
use Rattle.sort_term.specs.declared.ids.ConId.{ConId}
use Rattle.sort_term.specs.declared.term.Term.{Term}
use Rattle.sort_term.specs.declared.term.Term.TheVariants as term
use Rattle.sort_term.specs.Sorted.{con_sort}
use Rattle.sort_term.specs.NodeTerms.{seen_term, is_valid_term, seen_sort, tree_of}
use Rattle.sort_term.proofs.NodeTerming.{valid-Plain, valid-Con, seen-Plain, seen-Con, tree_of-Plain, tree_of-Con, seen_sort-Plain, seen_sort-Con, node_of, term_stays, terms_stay}
use Rattle.unify.proofs.Lists.{test_at}
use Rattle.cut_search.specs.Simpler.{IsSimplerTerm, AreSimplerTerms}

-- a simpler node in the place of a node
pub simpler_plain : {N : Type 0} (variables : List DataSort) (f g : N → Seen N) (t : Term N) (n m : N) → t ≡ term.Plain n → IsTrue (f n).valid → IsSimpler variables (f n) (g m) → IsSimplerTerm variables (seen_term f t) (seen_term g (term.Plain m))
simpler_plain variables f g t n m is valid simpler =
    let old : seen_term f t ≡ term.Plain (f n) = ap (seen_term f) is ∙ seen-Plain f n in
    let new = seen-Plain g m in
    record {
      valid = subst IsTrue (sym (ap is_valid_term new ∙ valid-Plain (g m))) simpler.valid;
      sorted = λ cons.
          ap (seen_sort cons) new ∙ seen_sort-Plain cons (g m) ∙ node_of (g m) (f n).sort simpler.valid simpler.sort
          ∙ sym (ap (seen_sort cons) old ∙ seen_sort-Plain cons (f n) ∙ node_of (f n) (f n).sort valid refl);
      means = λ v fits. ap (tree_of v) new ∙ tree_of-Plain v (g m) ∙ ap term.Plain (simpler.means v fits) ∙ sym (ap (tree_of v) old ∙ tree_of-Plain v (f n));
    }

-- a constructor at simpler terms
pub simpler_con : {N : Type 0} (variables : List DataSort) (f g : N → Seen N) (t : Term N) (k : ConId) (ts xs us vs : List (Term N)) → t ≡ term.Con k ts → xs ≡ ts → us ≡ vs → AreSimplerTerms variables (map (seen_term f) xs) (map (seen_term g) vs) → IsSimplerTerm variables (seen_term f t) (seen_term g (term.Con k us))
simpler_con variables f g t k ts xs us vs is same made simpler =
    let old : seen_term f t ≡ term.Con k (map (seen_term f) xs) = ap (seen_term f) is ∙ seen-Con f k ts ∙ ap (λ ys. term.Con k (map (seen_term f) ys)) (sym same) in
    let new : seen_term g (term.Con k us) ≡ term.Con k (map (seen_term g) vs) = seen-Con g k us ∙ ap (λ ys. term.Con k (map (seen_term g) ys)) made in
    record {
      valid = subst IsTrue (sym (ap is_valid_term new ∙ valid-Con k (map (seen_term g) vs))) simpler.valid;
      sorted = λ cons.
          ap (seen_sort cons) new ∙ seen_sort-Con cons k (map (seen_term g) vs) ∙ ap (con_sort (slice_get cons k.0)) (simpler.sorted cons)
          ∙ sym (ap (seen_sort cons) old ∙ seen_sort-Con cons k (map (seen_term f) xs));
      means = λ v fits. ap (tree_of v) new ∙ tree_of-Con v k (map (seen_term g) vs) ∙ ap (term.Con k) (simpler.mean v fits) ∙ sym (ap (tree_of v) old ∙ tree_of-Con v k (map (seen_term f) xs));
    }

-- no terms, and one term more
pub simpler_none : {N : Type 0} (variables : List DataSort) → AreSimplerTerms {N = N} variables [] []
simpler_none variables = record { valid = refl; sorted = λ cons. refl; mean = λ v fits. refl }

valid_push : {N : Type 0} (ts : List (Term (Seen N))) (t : Term (Seen N)) → IsTrue (list_all is_valid_term ts) → IsTrue (is_valid_term t) → IsTrue (list_all is_valid_term (ts ++ t ∷ []))
valid_push {N} [] t h k = and_from (is_valid_term t) (list_all (is_valid_term {N = N}) []) k refl
valid_push (x ∷ ts) t h k = let both = and_parts (is_valid_term x) (list_all is_valid_term ts) h in and_from (is_valid_term x) (list_all is_valid_term (ts ++ t ∷ [])) both.0 (valid_push ts t both.1 k)

simpler_push : {N : Type 0} (variables : List DataSort) (ts us : List (Term (Seen N))) (t u : Term (Seen N)) → AreSimplerTerms variables ts us → IsSimplerTerm variables t u → AreSimplerTerms variables (ts ++ t ∷ []) (us ++ u ∷ [])
simpler_push variables ts us t u all one = record {
  valid = valid_push us u all.valid one.valid;
  sorted = λ cons.
      map-append (seen_sort cons) us (u ∷ []) ∙ ap (λ os. os ++ seen_sort cons u ∷ []) (all.sorted cons) ∙ ap (λ o. map (seen_sort cons) ts ++ o ∷ []) (one.sorted cons)
      ∙ sym (map-append (seen_sort cons) ts (t ∷ []));
  mean = λ v fits.
      map-append (tree_of v) us (u ∷ []) ∙ ap (λ ys. ys ++ tree_of v u ∷ []) (all.mean v fits) ∙ ap (λ y. map (tree_of v) ts ++ y ∷ []) (one.means v fits)
      ∙ sym (map-append (tree_of v) ts (t ∷ []));
}

-- a term of a list stays valid where the domain grows
pub term_now : {N : Type 0} (f₀ f : N → Seen N) (xs : List (Term N)) (i : ℕ) (x : Term N) → IsTrue (list_all is_valid_term (map (seen_term f₀) xs)) → Extends f₀ f → i < length xs → x ≡ get_or xs i x → IsTrue (is_valid_term (seen_term f x))
term_now f₀ f xs i x ok grown lt is =
    let first = test_at (seen_term f₀) is_valid_term xs i x lt is ok in
    subst (λ u. IsTrue (is_valid_term u)) (sym (term_stays f₀ f grown x first)) first

-- and the terms so far are followed by it
pub simpler_more : {N : Type 0} (variables : List DataSort) (f₀ f g : N → Seen N) (xs : List (Term N)) (i : ℕ) (x : Term N) (ts us : List (Term N)) (t : Term N) → IsTrue (list_all is_valid_term (map (seen_term f₀) xs)) → Extends f₀ f → Extends f g → i < length xs → x ≡ get_or xs i x → us ≡ ts ++ t ∷ [] →
    AreSimplerTerms variables (map (seen_term f₀) (take i xs)) (map (seen_term f) ts) → IsSimplerTerm variables (seen_term f x) (seen_term g t) → AreSimplerTerms variables (map (seen_term f₀) (take (i + 1) xs)) (map (seen_term g) us)
simpler_more variables f₀ f g xs i x ts us t ok grown growing lt is pushed so_far here =
    let first = test_at (seen_term f₀) is_valid_term xs i x lt is ok in
    let kept : map (seen_term g) ts ≡ map (seen_term f) ts = terms_stay f g growing ts so_far.valid in
    let new : map (seen_term g) us ≡ map (seen_term f) ts ++ seen_term g t ∷ [] = ap (map (seen_term g)) pushed ∙ map-append (seen_term g) ts (t ∷ []) ∙ ap (λ ys. ys ++ seen_term g t ∷ []) kept in
    let old : map (seen_term f₀) (take (i + 1) xs) ≡ map (seen_term f₀) (take i xs) ++ seen_term f₀ x ∷ [] =
    ap (map (seen_term f₀)) (take_more xs i x lt ∙ ap (λ y. take i xs ++ y ∷ []) (sym is)) ∙ map-append (seen_term f₀) (take i xs) (x ∷ []) in
    let one : IsSimplerTerm variables (seen_term f₀ x) (seen_term g t) = subst (λ u. IsSimplerTerm variables u (seen_term g t)) (term_stays f₀ f grown x first) here in
    subst (λ xs. AreSimplerTerms variables xs (map (seen_term g) us)) (sym old)
    (subst (λ ys. AreSimplerTerms variables (map (seen_term f₀) (take i xs) ++ seen_term f₀ x ∷ []) ys) (sym new)
    (simpler_push variables (map (seen_term f₀) (take i xs)) (map (seen_term f) ts) (seen_term f₀ x) (seen_term g t) so_far one))

-- where the domain's variables are the same
pub simpler_now : {N : Type 0} (variables now : List DataSort) → now ≡ variables → (t u : Term (Seen N)) → IsSimplerTerm now t u → IsSimplerTerm variables t u
simpler_now variables now e t u h = subst (λ vs. IsSimplerTerm vs t u) e h
