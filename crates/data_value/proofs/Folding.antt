-- What an operator gives nodes of a domain.
use Rattle.std.proofs.Common.{◌≡◌, ℕ, ◌+◌, ◌&&◌, true, nat_lt, List, [], ◌∷◌, map, All, Option, Some, None, is_some, IsSome, IsTrue, arith, refl, sym, ap, ◌∙◌, subst}
use Rattle.std.specs.List.{list_all}
use Rattle.std.proofs.lemmas.Bool.{and_from}
use Rattle.std.proofs.lemmas.List.Elements.{All-nil, All-cons, All-head, All-tail}
use Rattle.std.proofs.lemmas.List.Sums.{sum_by-cons}
use Rattle.data_value.specs.declared.DataSort.{DataSort}
use Rattle.data_value.specs.declared.Scalar.{Scalar}
use Rattle.data_value.specs.declared.Value.{Value}
use Rattle.data_value.specs.declared.Value.TheVariants.{One}
use Rattle.data_value.specs.declared.Op.{Op}
use Rattle.data_value.specs.Sorts.{op_sort, is_sort_of}
use Rattle.data_value.specs.Values.{IsScalar, scalar_sort}
use Rattle.data_value.specs.Ops.{op_value, scalar_value}
use Rattle.data_value.specs.Nodes.{Seen, Constant, Apply, Extends, AllValid, AllKnown, IsLawful, IsApplied, sorts_of, meanings_of, sizes_of}
use Rattle.data_value.specs.Views.{IsShown, shown_sort, shown_value, shown_known, shown_size}
use Rattle.data_value.proofs.OpLemmas.{scalar_op_value, scalar_keeps_sort}
use Rattle.data_value.proofs.TestLemmas.{decides_sort}
use Rattle.data_value.proofs.NodeLemmas.{means_known}
use Rattle.data_value.specs.Known.{AreKnown, IsFolded}

-- there is a sort where there is said to be one
there : (o : Option DataSort) → IsSome o → (s : DataSort) × (o ≡ Some s)
there None h = absurd (cc)
there (Some s) h = (s, refl)

-- nodes that are known as scalars are known
all_known : {N : Type 0} (f : N → Seen N) (ns : List N) (ss : List Scalar) → AreKnown f ns ss → AllKnown f ns
all_known f [] ss e = All-nil (λ n. IsSome (f n).known)
all_known f (n ∷ ns) [] e = cc
all_known f (n ∷ ns) (s ∷ ss) e =
    let here : (f n).known ≡ Some s = cc in
    let rest : AreKnown f ns ss = cc in
    All-cons (λ m. IsSome (f m).known) n ns (ap is_some here) (all_known f ns ss rest)

module _ {N : Type 0} (f : N → Seen N) (sorts : List DataSort) (laws : IsLawful f sorts) where
  known_scalars : (ns : List N) (ss : List Scalar) → AllValid f ns → AreKnown f ns ss → All IsScalar ss
  known_scalars [] [] ok e = All-nil IsScalar
  known_scalars [] (s ∷ ss) ok e = cc
  known_scalars (n ∷ ns) [] ok e = cc
  known_scalars (n ∷ ns) (s ∷ ss) ok e =
      let here : (f n).known ≡ Some s = cc in
      let rest : AreKnown f ns ss = cc in
      All-cons IsScalar s ss (means_known f sorts laws n (All-head (λ m. IsTrue (f m).valid) n ns ok) s here).0.value (known_scalars ns ss (All-tail (λ m. IsTrue (f m).valid) n ns ok) rest)

  known_sorts : (ns : List N) (ss : List Scalar) → AllValid f ns → AreKnown f ns ss → sorts_of f ns ≡ map scalar_sort ss
  known_sorts [] [] ok e = refl
  known_sorts [] (s ∷ ss) ok e = cc
  known_sorts (n ∷ ns) [] ok e = cc
  known_sorts (n ∷ ns) (s ∷ ss) ok e =
      let here : (f n).known ≡ Some s = cc in
      let rest : AreKnown f ns ss = cc in
      let sort = (means_known f sorts laws n (All-head (λ m. IsTrue (f m).valid) n ns ok) s here).0.sort in
      let more = known_sorts ns ss (All-tail (λ m. IsTrue (f m).valid) n ns ok) rest in
      λ i. sym sort i ∷ more i

  known_meanings : (v : List Value) (ns : List N) (ss : List Scalar) → AllValid f ns → AreKnown f ns ss → meanings_of f v ns ≡ map One ss
  known_meanings v [] [] ok e = refl
  known_meanings v [] (s ∷ ss) ok e = cc
  known_meanings v (n ∷ ns) [] ok e = cc
  known_meanings v (n ∷ ns) (s ∷ ss) ok e =
      let here : (f n).known ≡ Some s = cc in
      let rest : AreKnown f ns ss = cc in
      let mean = (means_known f sorts laws n (All-head (λ m. IsTrue (f m).valid) n ns ok) s here).1 v in
      let more = known_meanings v ns ss (All-tail (λ m. IsTrue (f m).valid) n ns ok) rest in
      λ i. mean i ∷ more i

  module _ (op : Op) (ns : List N) (ss : List Scalar) (ok : AllValid f ns) (sorted : IsSome (op_sort op (sorts_of f ns))) (known : AreKnown f ns ss) where
    pub fold_sorted : IsSome (op_sort op (map scalar_sort ss))
    fold_sorted = subst (λ l. IsSome (op_sort op l)) (known_sorts ns ss ok known) sorted

    pub fold_scalars : All IsScalar ss
    fold_scalars = known_scalars ns ss ok known

    pub folded : (c : Scalar) → c ≡ scalar_value op ss → IsFolded f op ns c
    folded c is =
        let s = there (op_sort op (map scalar_sort ss)) fold_sorted in
        let kept = scalar_keeps_sort op ss s.0 fold_scalars s.1 in
        record {
          known = all_known f ns ss known;
          scalar = subst IsScalar (sym is) kept.value;
          sort = ap (op_sort op) (known_sorts ns ss ok known) ∙ s.1 ∙ ap Some (sym (ap scalar_sort is ∙ kept.sort));
          means = λ v. ap (op_value op) (known_meanings v ns ss ok known) ∙ scalar_op_value op ss s.0 s.1 ∙ ap One (sym is);
        }

-- what nodes are in a domain that grew
module _ {N : Type 0} (f g : N → Seen N) (x : Extends f g) where
  pub sorts_kept : (ns : List N) → AllValid f ns → sorts_of g ns ≡ sorts_of f ns
  sorts_kept [] ok = refl
  sorts_kept (n ∷ ns) ok =
      let here = x.keeps n (All-head (λ m. IsTrue (f m).valid) n ns ok) in
      let rest = sorts_kept ns (All-tail (λ m. IsTrue (f m).valid) n ns ok) in
      λ i. (here i).sort ∷ rest i

  meanings_kept : (v : List Value) (ns : List N) → AllValid f ns → meanings_of g v ns ≡ meanings_of f v ns
  meanings_kept v [] ok = refl
  meanings_kept v (n ∷ ns) ok =
      let here = x.keeps n (All-head (λ m. IsTrue (f m).valid) n ns ok) in
      let rest = meanings_kept v ns (All-tail (λ m. IsTrue (f m).valid) n ns ok) in
      λ i. (here i).meaning v ∷ rest i

  sizes_kept : (ns : List N) → AllValid f ns → sizes_of g ns ≡ sizes_of f ns
  sizes_kept [] ok = refl
  sizes_kept (n ∷ ns) ok =
      let here = ap (λ s. s.size) (x.keeps n (All-head (λ m. IsTrue (f m).valid) n ns ok)) in
      let rest = sizes_kept ns (All-tail (λ m. IsTrue (f m).valid) n ns ok) in
      sum_by-cons (λ m. (g m).size) n ns ∙ ap (λ s. s + sizes_of g ns) here ∙ ap (λ s. (f n).size + s) rest ∙ sym (sum_by-cons (λ m. (f m).size) n ns)

  module _ (sorts : List DataSort) (op : Op) (ns : List N) (n : N) (ok : AllValid f ns) (valid : IsTrue (g n).valid) (is : IsShown g sorts n) where
    -- a node that shows an operator at nodes, which aren't all known
    pub applied_as_shown : (g n).shown ≡ Apply op ns → (AllKnown f ns → ⊥) → IsApplied f g op ns n
    applied_as_shown e unknown = record {
      valid = valid;
      sort = ap (op_sort op) (sym (sorts_kept ns ok)) ∙ ap (shown_sort g sorts) (sym e) ∙ is.sort;
      means = λ v. is.means v ∙ ap (shown_value g v) e ∙ ap (op_value op) (meanings_kept v ns ok);
      knows = λ scalar all. absurd (unknown all);
      small = let size : (g n).size ≡ 1 + sizes_of f ns = is.size ∙ ap (shown_size g) e ∙ ap (λ s. 1 + s) (sizes_kept ns ok) in omega arith;
    }

    -- a node that shows the scalar which an operator gives nodes
    pub applied_as_folded : (c : Scalar) → (g n).shown ≡ Constant (One c) → IsFolded f op ns c → IsApplied f g op ns n
    applied_as_folded c e folded = record {
      valid = valid;
      sort = folded.sort ∙ ap (shown_sort g sorts) (sym e) ∙ is.sort;
      means = λ v. is.means v ∙ ap (shown_value g v) e ∙ sym (folded.means v);
      knows = λ scalar all. ap is_some (is.known ∙ ap shown_known e);
      small = let size : (g n).size ≡ 1 = is.size ∙ ap (shown_size g) e in omega arith;
    }

-- an operator fits at nodes of sorts that it takes
pub fits_applied : (count : ℕ) (sort_of : List ℕ → List DataSort) (op : Op) (s : DataSort) (ms ns : List ℕ) → ms ≡ ns → list_all (λ n. nat_lt n count) ns ≡ true → Some s ≡ op_sort op (sort_of ns)
    → (list_all (λ n. nat_lt n count) ms && is_sort_of (op_sort op (sort_of ms)) s) ≡ true
fits_applied count sort_of op s ms ns same below sorted =
    ap (λ l. list_all (λ n. nat_lt n count) l && is_sort_of (op_sort op (sort_of l)) s) same
    ∙ and_from (list_all (λ n. nat_lt n count) ns) (is_sort_of (op_sort op (sort_of ns)) s) below (ap (λ o. is_sort_of o s) (sym sorted) ∙ (decides_sort s s).1 refl)
