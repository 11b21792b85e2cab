-- Conditions that are joined again.
use Rattle.std.proofs.Common.{◌≡◌, ◌↔◌, ℕ, ◌+◌, ◌<◌, Bool, true, false, ◌&&◌, IsTrue, List, [], ◌∷◌, ◌++◌, length, take, get_or, All, Some, refl, sym, ap, ◌∙◌, subst}
use Rattle.std.proofs.lemmas.List.{take_more}
use Rattle.std.proofs.lemmas.List.Elements.{All-more, All-pop, All-map, All-weaker}
use Rattle.data_value.specs.declared.DataSort.{DataSort}
use Rattle.data_value.specs.declared.DataSort.TheVariants.{Map as MapSort}
use Rattle.data_value.specs.declared.Value.{Value}
use Rattle.data_value.specs.declared.Value.TheVariants.{One, Map}
use Rattle.data_value.specs.Sorts.{is_scalar_sort}
use Rattle.data_value.specs.Values.{IsValueOf, flag_of, scalar_of}
use Rattle.data_value.specs.Nodes.{Seen, Extends, IsLawful, IsValuation}
use Rattle.data_value.specs.Truth.{truth, mean_same, IsCondition, IsTruth}
use Rattle.data_value.proofs.TestLemmas.{decides_scalar}
use Rattle.simplify.specs.declared.pair.Pair.{Pair}
use Rattle.simplify.specs.Pairs.{seen_pair, seen_pairs, IsPair, AgreesOn}
use Rattle.simplify.specs.Simpler.{IsSimplerUnder}
use Rattle.prover.specs.Parts.{AreEqual, IsTrueNode, IsEquation, AreEquated, AreAllReplaced}

-- a value of a scalar sort is its scalar
scalar_is : (t : DataSort) (x : Value) → is_scalar_sort t ≡ true → IsValueOf t x → x ≡ One (scalar_of x)
scalar_is t (One c) scalar is = refl
scalar_is t (Map m) scalar is = absurd (let sort = is.sort in let no : is_scalar_sort (MapSort m.key_width m.word_width) ≡ true = ap is_scalar_sort sort ∙ scalar in cc)

pub and_parts : (x y : Bool) → (x && y) ≡ true → (x ≡ true) × (y ≡ true)
and_parts true y e = (refl, e)
and_parts false y e = absurd (cc)

-- one more of a list is joined by "and"
pub joined_more : {X : Type 0} (P : X → Type 0) (xs : List X) (i : ℕ) (x : X) (joined one next : Bool) → i < length xs → x ≡ get_or xs i x → next ≡ (joined && one)
    → ((joined ≡ true) ↔ All P (take i xs)) → ((one ≡ true) ↔ P x) → (next ≡ true) ↔ All P (take (i + 1) xs)
joined_more P xs i x joined one next lt is both before here = (
  λ h. let parts = and_parts joined one (sym both ∙ h) in All-more P xs i x lt (before.0 parts.0) (subst P is (here.0 parts.1)),
  λ all.
      let parted = All-pop P (take i xs ++ get_or xs i x ∷ []) (take i xs) (Some (get_or xs i x)) refl (subst (All P) (take_more xs i x lt) all) in
      both ∙ rw (before.1 parted.0, here.1 (subst P (sym is) parted.1)) refl,
)

module _ {N : Type 0} (f g : N → Seen N) (x : Extends f g) where
  -- an equation looks as before in a domain that grew
  pub equation_kept : (q : Pair N) → IsEquation f q → IsEquation g q
  equation_kept q is =
      let first = x.keeps q.first is.first in
      let second = x.keeps q.second is.second in
      record {
        first = subst (λ t. IsTrue t.valid) (sym first) is.first;
        second = subst (λ t. IsTrue t.valid) (sym second) is.second;
        scalar = ap (λ t. is_scalar_sort t.sort) first ∙ is.scalar;
        sort = ap (λ t. t.sort) second ∙ is.sort ∙ sym (ap (λ t. t.sort) first);
      }

  -- equations are pairs of nodes of one sort
  pub pairs_of : (pairs : List (Pair N)) → All (IsEquation f) pairs → All IsPair (seen_pairs g pairs)
  pairs_of pairs all = All-map IsPair (seen_pair g) pairs (All-weaker (IsEquation f) (λ q. IsPair (seen_pair g q)) (λ q is. let kept = equation_kept q is in record { first = kept.first; second = kept.second; sort = kept.sort }) pairs all)

  -- where the nodes of equations mean the same, they have one meaning
  pub agrees_on : (variables : List DataSort) → IsLawful f variables → (pairs : List (Pair N)) → All (IsEquation f) pairs → (v : List Value) → IsValuation variables v → All (AreEqual f v) pairs → AgreesOn variables (seen_pairs g pairs) v
  agrees_on variables laws pairs all v fits equal = record {
    fits = fits;
    same = All-map (λ p. p.1.meaning v ≡ p.0.meaning v) (seen_pair g) pairs (λ k d lt. one (get_or pairs k d) (all k d lt) (equal k d lt));
  }
    where
      one : (q : Pair N) → IsEquation f q → AreEqual f v q → (g q.second).meaning v ≡ (g q.first).meaning v
      one q is same =
          let first = scalar_is (f q.first).sort ((f q.first).meaning v) is.scalar (laws.sorted q.first is.first v fits) in
          let second = scalar_is (f q.second).sort ((f q.second).meaning v) (ap is_scalar_sort is.sort ∙ is.scalar) (laws.sorted q.second is.second v fits) in
          let scalars = (decides_scalar (scalar_of ((f q.first).meaning v)) (scalar_of ((f q.second).meaning v))).0 same in
          ap (λ t. t.meaning v) (x.keeps q.second is.second) ∙ second ∙ ap One (sym scalars) ∙ sym first ∙ sym (ap (λ t. t.meaning v) (x.keeps q.first is.first))

-- one more equation is joined
pub equated_more : {N : Type 0} (f g h : N → Seen N) (pairs : List (Pair N)) (i : ℕ) (q : Pair N) (joined equation next : Seen N) → Extends f g → i < length pairs → q ≡ get_or pairs i q → IsEquation f q
    → AreEquated f (take i pairs) joined → IsTruth equation (mean_same (g q.first) (g q.second)) → IsTruth next (λ v. truth joined v && truth equation v) → AreEquated f (take (i + 1) pairs) next
equated_more f g h pairs i q joined equation next x lt is equates before here both = record {
  condition = both.condition;
  means = λ v.
      let says : truth equation v ≡ mean_same (f q.first) (f q.second) v = here.means v ∙ rw (x.keeps q.first equates.first, x.keeps q.second equates.second) refl in
      joined_more (AreEqual f v) pairs i q (truth joined v) (truth equation v) (truth next v) lt is (both.means v) (before.means v) (λ e. sym says ∙ e, λ e. says ∙ e);
}

-- one more of the others is joined
pub replaced_more : {N : Type 0} (f g h : N → Seen N) (variables : List DataSort) (pairs : List (Pair N)) (conditions : List N) (i : ℕ) (n : N) (joined simpler next : Seen N) → Extends f g → IsLawful f variables → All (IsEquation f) pairs
    → i < length conditions → n ≡ get_or conditions i n → IsCondition (f n)
    → AreAllReplaced variables f pairs (take i conditions) joined → IsSimplerUnder variables (seen_pairs g pairs) (g n) simpler → IsTruth next (λ v. truth joined v && truth simpler v)
    → AreAllReplaced variables f pairs (take (i + 1) conditions) next
replaced_more f g h variables pairs conditions i n joined simpler next x laws equations lt is condition before here both = record {
  condition = both.condition;
  means = λ v fits equal.
      let agrees = agrees_on f g x variables laws pairs equations v fits equal in
      let says : truth simpler v ≡ truth (f n) v = ap (λ y. flag_of (scalar_of y)) (here.means v agrees) ∙ ap (λ t. truth t v) (x.keeps n condition.valid) in
      joined_more (IsTrueNode f v) conditions i n (truth joined v) (truth simpler v) (truth next v) lt is (both.means v) (before.means v fits equal) (λ e. sym says ∙ e, λ e. says ∙ e);
}
