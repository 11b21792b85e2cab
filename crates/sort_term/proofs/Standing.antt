-- How often a variable stands in the patterns of `let`s, one demand at a time.
use Rattle.std.proofs.Common.{arith, ◌≡◌, ℕ, zero, suc, ◌+◌, ◌<◌, List, [], ◌∷◌, ◌++◌, length, take, get_or, slice_get, Some, min, refl, sym, ap, ◌∙◌}
use Rattle.std.proofs.lemmas.List.{take_more}
use Rattle.std.proofs.lemmas.List.Elements.{filter_map-append}
use Rattle.std.proofs.lemmas.List.Sums.{sum_by-append}
use Rattle.sort_term.specs.declared.rule.Demand.{Demand}
use Rattle.sort_term.specs.Stands.{times, times_in, let_pattern, let_patterns}

pub lets-more : (i : ℕ) (ds : List Demand) (k : ℕ) (d : Demand) → k < length ds → d ≡ get_or ds k d → times_in i (let_patterns (take (k + 1) ds)) ≡ times_in i (let_patterns (take k ds)) + times_in i (let_patterns (d ∷ []))
lets-more i ds k d l e =
    let p : take (k + 1) ds ≡ take k ds ++ d ∷ [] = take_more ds k d l ∙ ap (λ z. take k ds ++ z ∷ []) (sym e) in
    ap (λ xs. times_in i (let_patterns xs)) p ∙ ap (times_in i) (filter_map-append let_pattern (take k ds) (d ∷ [])) ∙ sum_by-append (times i) (let_patterns (take k ds)) (let_patterns (d ∷ []))

-- a sum of two counts, each of which stops at 2
pub capped : (a b x y z : ℕ) → x ≡ min a 2 → y ≡ min b 2 → z ≡ min (x + y) 2 → z ≡ min (a + b) 2
capped a b x y z h k e = omega (arith, h, k, e)

-- what is there stands before the end
pub get-below : {X : Type 0} (xs : List X) (i : ℕ) (x : X) → slice_get xs i ≡ Some x → i < length xs
get-below [] i x h = absurd (cc)
get-below (y ∷ more) zero x h = omega arith
get-below (y ∷ more) (suc i) x h = let l : i < length more = get-below more i x h in omega arith

-- an item by its place, and by its place with one to fall back on
pub get-is : {X : Type 0} (xs : List X) (i : ℕ) (x d : X) → slice_get xs i ≡ Some x → get_or xs i d ≡ x
get-is [] i x d h = absurd (cc)
get-is (y ∷ more) zero x d h = cc
get-is (y ∷ more) (suc i) x d h = get-is more i x d h

pub get-some : {X : Type 0} (xs : List X) (i : ℕ) (d : X) → i < length xs → slice_get xs i ≡ Some (get_or xs i d)
get-some [] i d l = absurd (omega arith)
get-some (y ∷ more) zero d l = refl
get-some (y ∷ more) (suc i) d l = get-some more i d (omega arith)
