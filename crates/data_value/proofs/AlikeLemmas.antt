-- Nodes that look the same are the same to an operator.
use Rattle.std.proofs.Common.{◌≡◌, ◌+◌, List, [], ◌∷◌, All, IsSome, refl, sym, ap, ◌∙◌, subst, arith}
use Rattle.std.proofs.lemmas.List.Elements.{All-nil, All-cons, All-head, All-tail}
use Rattle.std.proofs.lemmas.List.Sums.{sum_by-cons}
use Rattle.data_value.specs.declared.Value.{Value}
use Rattle.data_value.specs.declared.Op.{Op}
use Rattle.data_value.specs.Sorts.{op_sort}
use Rattle.data_value.specs.Ops.{op_value}
use Rattle.data_value.specs.Nodes.{Seen, IsApplied, sorts_of, meanings_of, sizes_of}
use Rattle.data_value.specs.Alike.{AreAlike}

module _ {N : Type 0} (f : N → Seen N) where
  pub sorts_alike : (ns ms : List N) → AreAlike f ns ms → sorts_of f ns ≡ sorts_of f ms
  sorts_alike [] [] e = refl
  sorts_alike [] (m ∷ ms) e = cc
  sorts_alike (n ∷ ns) [] e = cc
  sorts_alike (n ∷ ns) (m ∷ ms) e =
      let here : f n ≡ f m = cc in
      let rest : AreAlike f ns ms = cc in
      let more = sorts_alike ns ms rest in
      λ i. (here i).sort ∷ more i

  pub meanings_alike : (v : List Value) (ns ms : List N) → AreAlike f ns ms → meanings_of f v ns ≡ meanings_of f v ms
  meanings_alike v [] [] e = refl
  meanings_alike v [] (m ∷ ms) e = cc
  meanings_alike v (n ∷ ns) [] e = cc
  meanings_alike v (n ∷ ns) (m ∷ ms) e =
      let here : f n ≡ f m = cc in
      let rest : AreAlike f ns ms = cc in
      let more = meanings_alike v ns ms rest in
      λ i. (here i).meaning v ∷ more i

  pub sizes_alike : (ns ms : List N) → AreAlike f ns ms → sizes_of f ns ≡ sizes_of f ms
  sizes_alike [] [] e = refl
  sizes_alike [] (m ∷ ms) e = cc
  sizes_alike (n ∷ ns) [] e = cc
  sizes_alike (n ∷ ns) (m ∷ ms) e =
      let here : f n ≡ f m = cc in
      let rest : AreAlike f ns ms = cc in
      let more = sizes_alike ns ms rest in
      sum_by-cons (λ k. (f k).size) n ns ∙ ap (λ s. s.size + sizes_of f ns) here ∙ ap (λ k. (f m).size + k) more ∙ sym (sum_by-cons (λ k. (f k).size) m ms)

  -- what holds of the looks of nodes holds of those that look the same
  pub all_alike : (P : Seen N → Type 0) (ns ms : List N) → AreAlike f ns ms → All (λ n. P (f n)) ns → All (λ n. P (f n)) ms
  all_alike P [] [] e a = All-nil (λ n. P (f n))
  all_alike P [] (m ∷ ms) e a = cc
  all_alike P (n ∷ ns) [] e a = All-nil (λ n. P (f n))
  all_alike P (n ∷ ns) (m ∷ ms) e a =
      let here : f n ≡ f m = cc in
      let rest : AreAlike f ns ms = cc in
      All-cons (λ k. P (f k)) m ms (subst P here (All-head (λ k. P (f k)) n ns a)) (all_alike P ns ms rest (All-tail (λ k. P (f k)) n ns a))

  pub sorted_alike : (op : Op) (ns ms : List N) → AreAlike f ns ms → IsSome (op_sort op (sorts_of f ms)) → IsSome (op_sort op (sorts_of f ns))
  sorted_alike op ns ms e h = subst (λ ss. IsSome (op_sort op ss)) (sym (sorts_alike ns ms e)) h

  pub applied_alike : (g : N → Seen N) (op : Op) (ns ms : List N) (n : N) → AreAlike f ns ms → IsApplied f g op ns n → IsApplied f g op ms n
  applied_alike g op ns ms n e is = record {
    valid = is.valid;
    sort = ap (op_sort op) (sym (sorts_alike ns ms e)) ∙ is.sort;
    means = λ v. is.means v ∙ ap (op_value op) (meanings_alike v ns ms e);
    knows = λ scalar known. is.knows scalar (all_alike (λ s. IsSome s.known) ms ns (sym e) known);
    small = let size = sizes_alike ns ms e in let small = is.small in omega arith;
  }
