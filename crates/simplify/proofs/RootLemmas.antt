-- The value of the last line.
use Rattle.std.proofs.Common.{arith, ◌≡◌, ◌+◌, true, false, IsTrue, ℕ, ◌<◌, List, [], ◌∷◌, length, get_or, slice_get, Option, Some, None, refl, sym, ap, ◌∙◌, subst}
use Rattle.data_value.specs.declared.DataSort.{DataSort}
use Rattle.std.specs.Prelude.{MatchOption, IfSome}
use Rattle.std.proofs.lemmas.Option.{slice_get-get_or}
use Rattle.data_value.specs.declared.Scalar.{Scalar}
use Rattle.data_value.specs.declared.Value.{Value}
use Rattle.data_value.specs.declared.Value.TheVariants.{One, Map}
use Rattle.data_value.specs.Maps.{Mapping}
use Rattle.data_value.specs.Sorts.{is_scalar_sort}
use Rattle.data_value.specs.Nodes.{Seen, Extends}
use Rattle.data_value.specs.Views.{IsShown}
use Rattle.node_list.specs.declared.line.Line.{Line}
use Rattle.node_list.specs.Listed.{AreLines, IsListed}
use Rattle.simplify.specs.Closed.{is_closed}
use Rattle.simplify.specs.Valued.{IsValued, IsWorth, AreValued}
use Rattle.simplify.proofs.ClosedLemmas.{closed_is}
use Rattle.simplify.proofs.ValuedLemmas.{valued_get}

module _ {N : Type 0} (f : N → Seen N) where
  pub valued_length : (ls : List (Line N)) (os : List (Option Value)) → AreValued f ls os → length os ≡ length ls
  valued_length [] [] b = refl
  valued_length [] (o ∷ os) b = absurd b
  valued_length (l ∷ ls) [] b = absurd b
  valued_length (l ∷ ls) (o ∷ os) b = let h = valued_length ls os b.1 in omega arith

  -- the value at the place of the last line
  pub valued_there : (ls : List (Line N)) (os : List (Option Value)) (k : ℕ) (o : Option Value) (s : Seen N) → AreValued f ls os → IsListed f s ls → length ls ≡ k + 1 → slice_get os k ≡ Some o → IsValued f s o
  valued_there ls os k o s b listed e there =
      let p = listed.last.0 in
      let line = listed.last.2 in
      let at = valued_get f ls os p line.0 b line.1 in
      let long = listed.last.1 in
      let place : p ≡ k = omega arith in
      let same : Some at.0 ≡ Some o = sym at.1 ∙ ap (slice_get os) place ∙ there in
      let is : at.0 ≡ o = cc in
      subst (λ t. IsValued f t o) line.2 (subst (IsValued f (f line.0.node)) is at.2)

  pub open_is : (vars : List DataSort) (shows : (n : N) → IsTrue (f n).valid → IsShown f vars n) (n : N) → IsTrue (f n).valid → IsValued f (f n) None → is_closed f n ≡ true → ⊥
  open_is vars shows n ok none closed = let bad : true ≡ false = sym closed ∙ closed_is f vars shows n ok ∙ none in cc

  pub map_is : (n : N) (m : Mapping) → IsValued f (f n) (Some (Map m)) → is_scalar_sort (f n).sort ≡ true → ⊥
  map_is n m is scalar = let bad : false ≡ true = ap is_scalar_sort is.0.sort ∙ scalar in cc

-- what a line is worth, in a domain that grew
module _ {N : Type 0} (f g : N → Seen N) (x : Extends f g) (ls : List (Line N)) (os : List (Option Value)) (i k : ℕ) (l : Line N) where
  worth_of : (o : Option Scalar) → ((c : Scalar) → slice_get os k ≡ Some (Some (One c)) → IsWorth (g l.node) (One c)) → MatchOption o ((c : Scalar) → slice_get os k ≡ Some (Some (One c)) → ⊥) (λ c. slice_get os k ≡ Some (Some (One c))) → IfSome o (λ c. IsWorth (g l.node) (One c))
  worth_of None each h = tt
  worth_of (Some c) each h = each c h

  pub worth_at : (o : Option Scalar) → AreLines f ls → AreValued f ls os → i < length ls → l ≡ get_or ls i l → k ≡ i → MatchOption o ((c : Scalar) → slice_get os k ≡ Some (Some (One c)) → ⊥) (λ c. slice_get os k ≡ Some (Some (One c))) → IfSome o (λ c. IsWorth (g l.node) (One c))
  worth_at o all b lt is same h = worth_of o (λ c there.
      let at : slice_get ls i ≡ Some l = slice_get-get_or ls i l lt ∙ ap Some (sym is) in
      let found = valued_get f ls os i l b at in
      let one : Some found.0 ≡ Some (Some (One c)) = sym found.1 ∙ ap (slice_get os) (sym same) ∙ there in
      let e : found.0 ≡ Some (One c) = cc in
      subst (λ s. IsWorth s (One c)) (sym (x.keeps l.node (all i l at).valid)) (subst (IsValued f (f l.node)) e found.2)) h

-- a closed node of a scalar sort has a scalar at the place of its line
pub closed_known : {N : Type 0} (f : N → Seen N) (vars : List DataSort) (shows : (n : N) → IsTrue (f n).valid → IsShown f vars n) (n : N) (ls : List (Line N)) (os : List (Option Value)) (k : ℕ) → IsTrue (f n).valid → AreValued f ls os → IsListed f (f n) ls → length ls ≡ k + 1 →
    ((c : Scalar) → slice_get os k ≡ Some (Some (One c)) → ⊥) → is_closed f n ≡ true → is_scalar_sort (f n).sort ≡ true → ⊥
closed_known f vars shows n ls os k ok b listed e none closed scalar =
    let p = listed.last.0 in
    let line = listed.last.2 in
    let at = valued_get f ls os p line.0 b line.1 in
    let long = listed.last.1 in
    let place : p ≡ k = omega arith in
    let there : slice_get os k ≡ Some at.0 = ap (slice_get os) (sym place) ∙ at.1 in
    by at.0 there (valued_there f ls os k at.0 (f n) b listed e there)
  where
    by : (o : Option Value) → slice_get os k ≡ Some o → IsValued f (f n) o → ⊥
    by None there is = open_is f vars shows n ok is closed
    by (Some (Map m)) there is = map_is f n m is scalar
    by (Some (One c)) there is = none c there
