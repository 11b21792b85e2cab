-- Terms that are nodes, and terms of constructors.
use Rattle.std.proofs.Common.{◌≡◌, IsTrue, List, [], ◌∷◌, map, slice_get, Some, All, refl, sym, ap, ◌∙◌}
use Rattle.std.proofs.lemmas.List.Elements.{All-nil, All-cons}
use Rattle.data_value.specs.declared.DataSort.{DataSort}
use Rattle.data_value.specs.declared.Value.{Value}
use Rattle.data_value.specs.Nodes.{Seen, AllValid, sorts_of, meanings_of}
use Rattle.sort_term.specs.declared.ids.ConId.{ConId}
use Rattle.sort_term.specs.declared.term.Sort.TheVariants as sort
use Rattle.sort_term.specs.declared.semantics.Con.{Con}
use Rattle.sort_term.specs.declared.term.Term.{Term}
use Rattle.sort_term.specs.declared.term.Term.TheOpen.{Term-F}
use Rattle.sort_term.specs.declared.term.Term.TheViews.{out-Term, out-roll-Term}
use Rattle.sort_term.specs.declared.term.Term.TheVariants as term
use Rattle.sort_term.specs.Tree.{plain_of}
use Rattle.sort_term.specs.NodeTerms.{seen_term, node_sort, seen_sort, tree_of}
use Rattle.sort_term.proofs.Equations.{plain_of-Plain}
use Rattle.sort_term.proofs.Induction.{term_ind}
use Rattle.sort_term.proofs.NodeTerming.{node_is, seen-Plain, seen-Con, seen_sort-Plain, seen_sort-Con, tree_of-Plain}
use Rattle.sort_term.proofs.Parts.{con_parts}
use Rattle.unify.specs.Binds.{IsNode}

-- what a term is, at its head
pub out-Con : {N : Type 0} (k : ConId) (ts : List (Term N)) → out-Term N (term.Con k ts) ≡ Term-F.Con k ts
out-Con {N} k ts = ap (λ (t : Term N). out-Term N t) (sym (term.rolls-Con k ts)) ∙ out-roll-Term N (Term-F.Con k ts)

pub out-Plain : {N : Type 0} (n : N) → out-Term N (term.Plain n) ≡ Term-F.Plain n
out-Plain {N} n = ap (λ (t : Term N). out-Term N t) (sym (term.rolls-Plain n)) ∙ out-roll-Term N (Term-F.Plain n)

-- a term of constructors is no node
pub plain_con : {N : Type 0} (t : Term N) (k : ConId) (ts : List (Term N)) → t ≡ term.Con k ts → IsNode t → ⊥
plain_con {N} t k ts e h =
    let q : ◌≡◌ {A = Term-F N (Term N)} (Term-F.Con k ts) (Term-F.Plain h.0) = sym (out-Con k ts) ∙ ap (λ (u : Term N). out-Term N u) (sym e ∙ h.1) ∙ out-Plain h.0 in
    cc

-- two nodes as terms, and two terms of constructors
pub plain_same : {N : Type 0} (m n : N) → term.Plain m ≡ term.Plain n → m ≡ n
plain_same {N} m n e =
    let q : ◌≡◌ {A = Term-F N (Term N)} (Term-F.Plain m) (Term-F.Plain n) = sym (out-Plain m) ∙ ap (λ (u : Term N). out-Term N u) e ∙ out-Plain n in
    cc

pub cons_same : {N : Type 0} (c d : ConId) (ts us : List (Term N)) → term.Con c ts ≡ term.Con d us → (c ≡ d) × (ts ≡ us)
cons_same {N} c d ts us e =
    let q : ◌≡◌ {A = Term-F N (Term N)} (Term-F.Con c ts) (Term-F.Con d us) = sym (out-Con c ts) ∙ ap (λ (u : Term N). out-Term N u) e ∙ out-Con d us in
    (cc, cc)

module _ {N : Type 0} (cons : List Con) (f : N → Seen N) where
  -- a term of a sort of data is a node
  abbrev IsData : Term N → Type 0
  IsData t = (d : DataSort) → seen_sort cons (seen_term f t) ≡ Some (sort.Plain d) → IsNode t

  data_con : (k : ConId) (ts : List (Term N)) → IsData (term.Con k ts)
  data_con k ts d h =
      let p = con_parts (slice_get cons k.0) (map (seen_sort cons) (map (seen_term f) ts)) (sort.Plain d) (sym (ap (seen_sort cons) (seen-Con f k ts) ∙ seen_sort-Con cons k (map (seen_term f) ts)) ∙ h) in
      let q : sort.Own p.con.sort ≡ sort.Plain d = p.makes in
      absurd (cc)

  pub data_node : (t : Term N) → IsData t
  data_node = term_ind N IsData (λ n d h. (n, refl)) (λ k ts e. data_con k ts)

  pub data_nodes : (ts : List (Term N)) (ds : List DataSort) → map (seen_sort cons) (map (seen_term f) ts) ≡ map (λ d. Some (sort.Plain d)) ds → All IsNode ts
  data_nodes [] ds h = All-nil IsNode
  data_nodes (t ∷ ts) [] h = absurd (cc)
  data_nodes (t ∷ ts) (d ∷ ds) h =
      let p : seen_sort cons (seen_term f t) ≡ Some (sort.Plain d) = cc in
      let q : map (seen_sort cons) (map (seen_term f) ts) ≡ map (λ s. Some (sort.Plain s)) ds = cc in
      All-cons IsNode t ts (data_node t d p) (data_nodes ts ds q)

  -- a node by the sort of its term
  pub plain_sort : (n : N) → seen_sort cons (seen_term f (term.Plain n)) ≡ node_sort (f n)
  plain_sort n = ap (seen_sort cons) (seen-Plain f n) ∙ seen_sort-Plain cons (f n)

  pub node_sorted : (n : N) (d : DataSort) → seen_sort cons (seen_term f (term.Plain n)) ≡ Some (sort.Plain d) → IsTrue (f n).valid × ((f n).sort ≡ d)
  node_sorted n d h =
      let is = node_is (f n) (sort.Plain d) (sym (plain_sort n) ∙ h) in
      let q : sort.Plain d ≡ sort.Plain (f n).sort = is.1 in
      (is.0, cc)

  -- nodes by the sorts of their terms
  pub nodes_sorted : (ns : List N) (ds : List DataSort) → map (seen_sort cons) (map (seen_term f) (map term.Plain ns)) ≡ map (λ d. Some (sort.Plain d)) ds → AllValid f ns × (sorts_of f ns ≡ ds)
  nodes_sorted [] [] h = (All-nil (λ n. IsTrue (f n).valid), refl)
  nodes_sorted [] (d ∷ ds) h = absurd (cc)
  nodes_sorted (n ∷ ns) [] h = absurd (cc)
  nodes_sorted (n ∷ ns) (d ∷ ds) h =
      let p : seen_sort cons (seen_term f (term.Plain n)) ≡ Some (sort.Plain d) = cc in
      let q : map (seen_sort cons) (map (seen_term f) (map term.Plain ns)) ≡ map (λ s. Some (sort.Plain s)) ds = cc in
      let here = node_sorted n d p in
      let rest = nodes_sorted ns ds q in
      let e : (f n).sort ≡ d = here.1 in
      let es : sorts_of f ns ≡ ds = rest.1 in
      (All-cons (λ m. IsTrue (f m).valid) n ns here.0 rest.0, cc)

module _ {N : Type 0} (f : N → Seen N) (v : List Value) where
  pub plain_tree : (n : N) → tree_of v (seen_term f (term.Plain n)) ≡ term.Plain ((f n).meaning v)
  plain_tree n = ap (tree_of v) (seen-Plain f n) ∙ tree_of-Plain v (f n)

  pub plain_trees : (ns : List N) → map plain_of (map (tree_of v) (map (seen_term f) (map term.Plain ns))) ≡ meanings_of f v ns
  plain_trees [] = refl
  plain_trees (n ∷ ns) =
      let e : plain_of (tree_of v (seen_term f (term.Plain n))) ≡ (f n).meaning v = ap plain_of (plain_tree n) ∙ plain_of-Plain ((f n).meaning v) in
      let es : map plain_of (map (tree_of v) (map (seen_term f) (map term.Plain ns))) ≡ meanings_of f v ns = plain_trees ns in
      cc
