-- Nodes that are simpler than others, and operators at them.
use Rattle.std.proofs.Common.{arith, ◌≡◌, ◌+◌, ◌≤◌, IsTrue, IsSome, List, [], ◌∷◌, Some, refl, sym, ap, ◌∙◌, subst}
use Rattle.std.proofs.lemmas.List.Elements.{All-nil, All-cons}
use Rattle.std.proofs.lemmas.List.Sums.{sum_by-cons}
use Rattle.data_value.specs.declared.DataSort.{DataSort}
use Rattle.data_value.specs.declared.Value.{Value}
use Rattle.data_value.specs.declared.Op.{Op}
use Rattle.data_value.specs.Sorts.{op_sort}
use Rattle.data_value.specs.Ops.{op_value}
use Rattle.data_value.specs.Nodes.{Seen, Apply, AllValid, sorts_of, meanings_of, sizes_of}
use Rattle.data_value.specs.Views.{IsShown, shown_sort, shown_value, shown_size}
use Rattle.simplify.specs.Pairs.{Equated, AgreesOn, AreShorter}
use Rattle.simplify.specs.Simpler.{IsSimplerUnder, IsSimplerThan, AreSimpler}

module _ {N : Type 0} (vars : List DataSort) (pairs : List (Equated N)) where
  module _ (f : N → Seen N) where
    pub simpler_valid : (ms ns : List N) → AreSimpler vars pairs f ms ns → AllValid f ns
    simpler_valid [] [] h = All-nil (λ n. IsTrue (f n).valid)
    simpler_valid [] (n ∷ ns) h = absurd h
    simpler_valid (m ∷ ms) [] h = absurd h
    simpler_valid (m ∷ ms) (n ∷ ns) h = All-cons (λ k. IsTrue (f k).valid) n ns h.0.valid (simpler_valid ms ns h.1)

    simpler_sorts : (ms ns : List N) → AreSimpler vars pairs f ms ns → sorts_of f ns ≡ sorts_of f ms
    simpler_sorts [] [] h = refl
    simpler_sorts [] (n ∷ ns) h = absurd h
    simpler_sorts (m ∷ ms) [] h = absurd h
    simpler_sorts (m ∷ ms) (n ∷ ns) h = let here = h.0.sort in let rest = simpler_sorts ms ns h.1 in λ i. here i ∷ rest i

    simpler_meanings : (v : List Value) → AgreesOn vars pairs v → (ms ns : List N) → AreSimpler vars pairs f ms ns → meanings_of f v ns ≡ meanings_of f v ms
    simpler_meanings v fits [] [] h = refl
    simpler_meanings v fits [] (n ∷ ns) h = absurd h
    simpler_meanings v fits (m ∷ ms) [] h = absurd h
    simpler_meanings v fits (m ∷ ms) (n ∷ ns) h = let here = h.0.means v fits in let rest = simpler_meanings v fits ms ns h.1 in λ i. here i ∷ rest i

    simpler_sizes : AreShorter pairs → (ms ns : List N) → AreSimpler vars pairs f ms ns → sizes_of f ns ≤ sizes_of f ms
    simpler_sizes short [] [] h = omega arith
    simpler_sizes short [] (n ∷ ns) h = absurd h
    simpler_sizes short (m ∷ ms) [] h = absurd h
    simpler_sizes short (m ∷ ms) (n ∷ ns) h =
        let here = h.0.small short in
        let rest = simpler_sizes short ms ns h.1 in
        let a = sum_by-cons (λ k. (f k).size) m ms in
        let b = sum_by-cons (λ k. (f k).size) n ns in
        omega arith

    -- an operator takes simpler nodes where it takes the others
    pub simpler_sorted : (n : N) (op : Op) (args ns : List N) → IsShown f vars n → (f n).shown ≡ Apply op args → AreSimpler vars pairs f args ns → IsSome (op_sort op (sorts_of f ns))
    simpler_sorted n op args ns is e h =
        let s : op_sort op (sorts_of f ns) ≡ Some (f n).sort = ap (op_sort op) (simpler_sorts args ns h) ∙ ap (shown_sort f vars) (sym e) ∙ is.sort in
        subst IsSome (sym s) refl

    -- what is simpler than an operator at simpler nodes is simpler than the operator at the others
    pub simpler_operator : (n : N) (op : Op) (args ns : List N) (t : Seen N) → IsShown f vars n → (f n).shown ≡ Apply op args → AreSimpler vars pairs f args ns → IsSimplerThan vars f op ns t → IsSimplerUnder vars pairs (f n) t
    simpler_operator n op args ns t is e h than =
        let s : Some t.sort ≡ Some (f n).sort = sym than.sort ∙ ap (op_sort op) (simpler_sorts args ns h) ∙ ap (shown_sort f vars) (sym e) ∙ is.sort in
        record {
          valid = than.valid;
          sort = cc;
          means = λ v fits. than.means v fits.fits ∙ ap (op_value op) (simpler_meanings v fits args ns h) ∙ ap (shown_value f v) (sym e) ∙ sym (is.means v);
          small = λ short.
              let size : (f n).size ≡ 1 + sizes_of f args = is.size ∙ ap (shown_size f) e in
              let less = simpler_sizes short args ns h in
              let small = than.small in
              omega arith;
        }
