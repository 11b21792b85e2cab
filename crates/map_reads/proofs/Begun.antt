-- Drafts that begin.
use Rattle.std.proofs.Common.{◌≡◌, ℕ, zero, suc, ◌<◌, ◌≤◌, ◌+◌, inl, inr, true, List, [], ◌∷◌, ◌++◌, length, take, map, All, slice_get, get_or, Some, arith, refl, ap, sym, ◌∙◌, subst}
use Rattle.std.specs.List.{list_all}
use Rattle.std.specs.Cmp.{first_so, second_so}
use Rattle.std.proofs.lemmas.Bool.{cases_lt, and_from}
use Rattle.std.proofs.lemmas.List.{length-map, length-append, map_push, take_more, take_all}
use Rattle.std.proofs.lemmas.List.Elements.{All-nil, All-cons, All-head, All-tail}
use Rattle.std.proofs.lemmas.Option.{slice_get_within}
use Rattle.data_value.specs.declared.DataSort.{DataSort}
use Rattle.data_value.specs.declared.DataSort.TheVariants.{Bool as BoolSort, Bits as BitsSort, Map as MapSort}
use Rattle.data_value.specs.Sorts.{IsWidth, IsSort, is_sort}
use Rattle.data_value.proofs.TestLemmas.{decides_in_range}
use Rattle.node_list.proofs.Lines.{get_last}
use Rattle.map_reads.specs.declared.draft.Draft.{Draft}
use Rattle.map_reads.specs.declared.read.Read.{Read}
use Rattle.map_reads.specs.Tied.{input_width, AreReads}
use Rattle.map_reads.specs.Drafts.{IsBegun}
use Rattle.map_reads.proofs.Drafting.{get_begun}

-- the first variables have their inputs
pub record HaveInputs (sorts : List DataSort) (i : ℕ) (scalars widths : List ℕ) : Type 0 where
  pub count : length scalars ≡ i
  pub own : (j : ℕ) → j < i → slice_get scalars j ≡ Some j
  pub widths_are : widths ≡ map input_width (take i sorts)

pub inputs_none : (sorts : List DataSort) (scalars widths : List ℕ) → scalars ≡ [] → widths ≡ [] → HaveInputs sorts 0 scalars widths
inputs_none sorts scalars widths no_scalars no_widths = record { count = ap (λ xs. length xs) no_scalars; own = λ j l. absurd (omega arith); widths_are = no_widths }

pub inputs_more : (sorts : List DataSort) (i : ℕ) (d : DataSort) (scalars more widths wider : List ℕ) (input width : ℕ) → HaveInputs sorts i scalars widths → i < length sorts → more ≡ scalars ++ input ∷ [] → wider ≡ widths ++ width ∷ [] → input ≡ length widths → width ≡ input_width (get_or sorts i d) → HaveInputs sorts (i + 1) more wider
inputs_more sorts i d scalars more widths wider input width have l e f g h =
    let size : length widths ≡ i = ap (λ xs. length xs) have.widths_are ∙ length-map (take i sorts) input_width ∙ length_taken sorts i (omega arith) in
    record {
      count = ap (λ xs. length xs) e ∙ length-append scalars (input ∷ []) ∙ ap (λ n. n + 1) have.count;
      own = λ j m. elim (cases_lt j i) [
        | inl q ↦ get_begun scalars more j j (input ∷ [], e) (have.own j q)
        | inr q ↦
            let same : input ≡ j = omega arith in
            ap (λ xs. slice_get xs j) e ∙ ap (λ n. slice_get (scalars ++ input ∷ []) n) (let c = have.count in let at : j ≡ length scalars = omega arith in at) ∙ get_last scalars input ∙ ap Some same
      ];
      widths_are = f ∙ ap (λ (xs : List ℕ). xs ++ width ∷ []) have.widths_are ∙ ap (λ (x : ℕ). map input_width (take i sorts) ++ x ∷ []) h ∙ sym (map_push input_width (take i sorts) (get_or sorts i d)) ∙ ap (map input_width) (sym (take_more sorts i d l));
    }
  where
    length_taken : {X : Type 0} (xs : List X) (n : ℕ) → n ≤ length xs → length (take n xs) ≡ n
    length_taken xs zero le = refl
    length_taken [] (suc n) le = omega arith
    length_taken (x ∷ xs) (suc n) le = let h = length_taken xs n (omega arith) in omega arith

width_of_input : (s : DataSort) → IsSort s → IsWidth (input_width s)
width_of_input BoolSort is = (omega arith, omega arith)
width_of_input (BitsSort w) is = is
width_of_input (MapSort k w) is = (omega arith, omega arith)

widths_fit : (sorts : List DataSort) → list_all is_sort sorts ≡ true → All IsWidth (map input_width sorts)
widths_fit [] is = All-nil IsWidth
widths_fit (s ∷ ss) is = All-cons IsWidth (input_width s) (map input_width ss) (width_of_input s ((decides_in_range s).0 (first_so (is_sort s) (list_all is_sort ss) is))) (widths_fit ss (second_so (is_sort s) (list_all is_sort ss) is))

width_at : (sorts : List DataSort) (i : ℕ) (s : DataSort) → slice_get sorts i ≡ Some s → slice_get (map input_width sorts) i ≡ Some (input_width s)
width_at [] i s at = cc
width_at (r ∷ ss) zero s at = let same : r ≡ s = cc in ap (λ x. Some (input_width x)) same
width_at (r ∷ ss) (suc i) s at = width_at ss i s at

none_at : {X : Type 0} (xs : List X) (k : ℕ) (x : X) → xs ≡ [] → slice_get xs k ≡ Some x → ⊥
none_at [] k x e at = cc
none_at (y ∷ xs) k x e at = cc

-- all have them
pub begun : (sorts : List DataSort) (d : Draft) (i : ℕ) → list_all is_sort sorts ≡ true → HaveInputs sorts i d.scalars d.widths → i ≡ length sorts → d.sorts ≡ sorts → d.nodes ≡ [] → d.reads ≡ [] → IsBegun sorts d
begun sorts d i fit have all same no_nodes no_reads =
    let widths : d.widths ≡ map input_width sorts = have.widths_are ∙ ap (λ n. map input_width (take n sorts)) all ∙ ap (map input_width) (take_all (length sorts) sorts (omega arith)) in
    record {
      draft = record {
        widths_fit = subst (All IsWidth) (sym widths) (widths_fit sorts fit);
        nodes_fit = λ k n at. absurd (none_at d.nodes k n no_nodes at);
        reads_fit = subst (λ ss. AreReads ss d.scalars d.widths d.nodes d.reads) (sym same) (record {
          sorts_fit = fit;
          count = ap (λ xs. length xs) widths ∙ length-map sorts input_width ∙ (let none = ap (λ (xs : List Read). length xs) no_reads in omega arith);
          inputs = λ j s at. (have.own j (let l = slice_get_within sorts j s at in omega arith), ap (λ xs. slice_get xs j) widths ∙ width_at sorts j s at);
          each = λ k r at. absurd (none_at d.reads k r no_reads at);
        });
      };
      sorts = same;
    }

-- sorts in range pass the test
pub sorts_pass : (sorts : List DataSort) → All IsSort sorts → list_all is_sort sorts ≡ true
sorts_pass [] h = refl
sorts_pass (s ∷ ss) h = and_from (is_sort s) (list_all is_sort ss) ((decides_in_range s).1 (All-head IsSort s ss h)) (sorts_pass ss (All-tail IsSort s ss h))
