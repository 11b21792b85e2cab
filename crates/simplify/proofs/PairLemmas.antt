-- Pairs of nodes.
use Rattle.std.proofs.Common.{arith, ◌≡◌, ℕ, zero, suc, ◌+◌, ◌<◌, inl, inr, IsTrue, List, [], ◌∷◌, ◌≤◌, length, get_or, slice_get, All, Option, Some, None, refl, sym, ap, ◌∙◌, subst}
use Rattle.std.proofs.lemmas.Bool.{cases_eq}
use Rattle.std.proofs.lemmas.List.Elements.{All-head, All-tail}
use Rattle.std.proofs.lemmas.Option.{slice_get-get_or}
use Rattle.std.specs.Prelude.{MatchOption}
use Rattle.data_value.specs.declared.DataSort.{DataSort}
use Rattle.data_value.specs.declared.Value.{Value}
use Rattle.data_value.specs.Nodes.{Seen, Extends}
use Rattle.data_value.specs.Views.{IsViewed}
use Rattle.simplify.specs.declared.pair.Pair.{Pair}
use Rattle.simplify.specs.Pairs.{Equated, seen_pair, seen_pairs, IsPair, IsSecond, IsUnpaired}
use Rattle.simplify.specs.Simpler.{IsSimplerUnder}

module _ {N : Type 0} (f : N → Seen N) where
  -- what holds of all pairs holds of one
  pub pair_at : (P : Equated N → Type 0) (pairs : List (Pair N)) (k : ℕ) (p : Pair N) → slice_get pairs k ≡ Some p → All P (seen_pairs f pairs) → P (seen_pair f p)
  pair_at P [] k p e all = absurd (cc)
  pair_at P (q ∷ pairs) zero p e all = let is : q ≡ p = cc in subst (λ x. P (seen_pair f x)) is (All-head P (seen_pair f q) (seen_pairs f pairs) all)
  pair_at P (q ∷ pairs) (suc k) p e all = pair_at P pairs k p e (All-tail P (seen_pair f q) (seen_pairs f pairs) all)

  pub item_at : (pairs : List (Pair N)) (k : ℕ) (p : Pair N) → k < length pairs → p ≡ get_or pairs k p → slice_get pairs k ≡ Some p
  item_at pairs k p lt is = slice_get-get_or pairs k p lt ∙ ap Some (sym is)

  -- the second of a pair is as good as a node that is kept under the number of the first
  pub second_simpler : (vars : List DataSort) → IsViewed f vars → (pairs : List (Pair N)) → All IsPair (seen_pairs f pairs) → (n : N) (i : ℕ) (t : Seen N) → IsTrue (f n).valid → (f n).id ≡ Some i → IsSecond f pairs i t → IsSimplerUnder vars (seen_pairs f pairs) (f n) t
  second_simpler vars views pairs all n i t ok id second =
      let p = second.1 in
      let is = pair_at IsPair pairs second.0 p second.2 all in
      let same : f p.first ≡ f n = views.one_by_id p.first n i is.first ok second.3 id in
      let Same : List Value → Equated N → Type 0 = λ v q. q.1.meaning v ≡ q.0.meaning v in
      subst (IsSimplerUnder vars (seen_pairs f pairs) (f n)) second.4 (record {
        valid = is.second;
        sort = is.sort ∙ ap (λ s. s.sort) same;
        means = λ v agrees. pair_at (Same v) pairs second.0 p second.2 agrees.same ∙ ap (λ s. s.meaning v) same;
        small = λ short.
            let less = pair_at (λ q. q.1.size ≤ q.0.size) pairs second.0 p second.2 short in
            let size = ap (λ s. s.size) same in
            omega arith;
      })

-- pairs look the same in a domain that grew
pub pairs_kept : {N : Type 0} (f g : N → Seen N) → Extends f g → (pairs : List (Pair N)) → All IsPair (seen_pairs f pairs) → seen_pairs g pairs ≡ seen_pairs f pairs
pairs_kept f g x [] all = refl
pairs_kept f g x (p ∷ pairs) all =
    let is = All-head IsPair (seen_pair f p) (seen_pairs f pairs) all in
    let first = x.keeps p.first is.first in
    let second = x.keeps p.second is.second in
    let rest = pairs_kept f g x pairs (All-tail IsPair (seen_pair f p) (seen_pairs f pairs) all) in
    λ i. (first i, second i) ∷ rest i

-- one more pair whose first isn't kept under the number
pub unpaired_more : {N : Type 0} (f : N → Seen N) (pairs : List (Pair N)) (i id : ℕ) (q : Pair N) → slice_get pairs i ≡ Some q → ((f q.first).id ≡ Some id → ⊥) →
    ((k : ℕ) (p : Pair N) → k < i → slice_get pairs k ≡ Some p → (f p.first).id ≡ Some id → ⊥) → (k : ℕ) (p : Pair N) → k < i + 1 → slice_get pairs k ≡ Some p → (f p.first).id ≡ Some id → ⊥
unpaired_more {N} f pairs i id q here other below k p lt at own = elim (cases_eq k i) [
  | inl same ↦
      let there : Some p ≡ Some q = sym at ∙ ap (slice_get pairs) same ∙ here in
      let is : p ≡ q = cc in
      other (subst (λ (x : Pair N). (f x.first).id ≡ Some id) is own)
  | inr n ↦ below k p (let ne : k ≡ i → ⊥ = n in omega arith) at own
]

-- what the search for a second node says
module _ {N : Type 0} (f : N → Seen N) (pairs : List (Pair N)) (n : N) where
  abbrev Found : Option N → Type 0
  Found o = MatchOption o ((i : ℕ) → (f n).id ≡ Some i → IsUnpaired f pairs i) (λ m. (i : ℕ) × ((f n).id ≡ Some i) × IsSecond f pairs i (f m))

  pub second_of : (o : Option N) (m : N) → o ≡ Some m → Found o → (i : ℕ) × ((f n).id ≡ Some i) × IsSecond f pairs i (f m)
  second_of o m e h = subst Found e h

  pub unpaired_of : (o : Option N) → o ≡ None → Found o → (i : ℕ) → (f n).id ≡ Some i → IsUnpaired f pairs i
  unpaired_of o e h = subst Found e h

pub second_found : {N : Type 0} (f : N → Seen N) (vars : List DataSort) → IsViewed f vars → (pairs : List (Pair N)) → All IsPair (seen_pairs f pairs) → (n : N) (o : Option N) (m : N) → IsTrue (f n).valid → o ≡ Some m → MatchOption o ((i : ℕ) → (f n).id ≡ Some i → IsUnpaired f pairs i) (λ k. (i : ℕ) × ((f n).id ≡ Some i) × IsSecond f pairs i (f k)) → IsSimplerUnder vars (seen_pairs f pairs) (f n) (f m)
second_found f vars views pairs all n o m ok e h =
    let found = second_of f pairs n o m e h in
    second_simpler f vars views pairs all n found.0 (f m) ok found.1 found.2
