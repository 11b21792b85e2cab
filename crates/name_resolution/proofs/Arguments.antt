-- Arguments, one behind the other.
use Rattle.std.proofs.Common.{arith, ◌≡◌, ℕ, zero, suc, ◌+◌, ◌<◌, ◌≤◌, List, [], ◌∷◌, ◌++◌, map, length, take, get_or, slice_get, Option, None, Some, refl, sym, ap, ◌∙◌}
use Rattle.std.proofs.lemmas.List.{take_all}
use Rattle.sort_term.specs.declared.term.Sort.{Sort}
use Rattle.sort_term.specs.Sorted.{in_front}
use Rattle.name_resolution.specs.Reads.{Reading, Said, bare, whole, nothing, said, heard, argument, arguments}

module _ {X : Type 0} where
  -- one more value at the end, where all are there
  abbrev pub behind : Option (List X) → Option X → Option (List X)
  behind (Some more) (Some x) = Some (more ++ x ∷ [])
  behind _ _ = None

  pub one-behind : (o : Option X) → in_front o (Some []) ≡ behind (Some []) o
  one-behind None = refl
  one-behind (Some x) = refl

  pub front-behind : (o : Option X) (more : Option (List X)) (p : Option X) → in_front o (behind more p) ≡ behind (in_front o more) p
  front-behind None None None = refl
  front-behind None None (Some x) = refl
  front-behind None (Some more) None = refl
  front-behind None (Some more) (Some x) = refl
  front-behind (Some y) None None = refl
  front-behind (Some y) None (Some x) = refl
  front-behind (Some y) (Some more) None = refl
  front-behind (Some y) (Some more) (Some x) = refl

  pub front-none : (o : Option X) → in_front o None ≡ None
  front-none None = refl
  front-none (Some x) = refl

  pub none-front : (more : Option (List X)) → in_front None more ≡ None
  none-front None = refl
  none-front (Some more) = refl

module _ {X R : Type 0} (reading : Reading X) (says : R → Said X) where
  next : (sorts : List Sort) (raws : List R) (i : ℕ) (raw : R) → i < length raws → raw ≡ get_or raws i raw → arguments reading sorts (map says (take (suc i) raws)) ≡ behind (arguments reading sorts (map says (take i raws))) (argument reading (slice_get sorts i) (says raw))
  next sorts [] i raw within is = absurd (omega arith)
  next [] (r ∷ raws) zero raw within is = one-behind (argument reading None (says r)) ∙ ap (λ t. behind (Some []) (argument reading None (says t))) (sym is)
  next (a ∷ sorts) (r ∷ raws) zero raw within is = one-behind (argument reading (Some a) (says r)) ∙ ap (λ t. behind (Some []) (argument reading (Some a) (says t))) (sym is)
  next [] (r ∷ raws) (suc i) raw within is = ap (in_front (argument reading None (says r))) (next [] raws i raw (omega arith) is) ∙ front-behind (argument reading None (says r)) (arguments reading [] (map says (take i raws))) (argument reading None (says raw))
  next (a ∷ sorts) (r ∷ raws) (suc i) raw within is = ap (in_front (argument reading (Some a) (says r))) (next sorts raws i raw (omega arith) is) ∙ front-behind (argument reading (Some a) (says r)) (arguments reading sorts (map says (take i raws))) (argument reading (slice_get sorts i) (says raw))

  -- one more argument
  pub arguments-pushed : (sorts : List Sort) (raws : List R) (i : ℕ) (raw : R) (args more : List X) (x : X) → i < length raws → raw ≡ get_or raws i raw → arguments reading sorts (map says (take i raws)) ≡ Some args → argument reading (slice_get sorts i) (says raw) ≡ Some x → more ≡ args ++ x ∷ [] → arguments reading sorts (map says (take (i + 1) raws)) ≡ Some more
  arguments-pushed sorts raws i raw args more x within is so_far here pushed =
      let count : i + 1 ≡ suc i = omega arith in
      ap (λ n. arguments reading sorts (map says (take n raws))) count
      ∙ next sorts raws i raw within is
      ∙ ap (λ o. behind o (argument reading (slice_get sorts i) (says raw))) so_far
      ∙ ap (behind (Some args)) here
      ∙ ap Some (sym pushed)

  -- all arguments
  pub arguments-whole : (sorts : List Sort) (raws : List R) (i : ℕ) (args : List X) → length raws ≤ i → arguments reading sorts (map says (take i raws)) ≡ Some args → arguments reading sorts (map says raws) ≡ Some args
  arguments-whole sorts raws i args end so_far = ap (λ rs. arguments reading sorts (map says rs)) (sym (take_all i raws end)) ∙ so_far

  -- one that is nothing
  pub arguments-none : (sorts : List Sort) (raws : List R) (i : ℕ) (raw : R) → i < length raws → raw ≡ get_or raws i raw → argument reading (slice_get sorts i) (says raw) ≡ None → arguments reading sorts (map says raws) ≡ None
  arguments-none sorts [] i raw within is here = absurd (omega arith)
  arguments-none [] (r ∷ raws) zero raw within is here = ap (λ o. in_front o (arguments reading [] (map says raws))) (ap (λ t. argument reading None (says t)) (sym is) ∙ here) ∙ none-front (arguments reading [] (map says raws))
  arguments-none (a ∷ sorts) (r ∷ raws) zero raw within is here = ap (λ o. in_front o (arguments reading sorts (map says raws))) (ap (λ t. argument reading (Some a) (says t)) (sym is) ∙ here) ∙ none-front (arguments reading sorts (map says raws))
  arguments-none [] (r ∷ raws) (suc i) raw within is here = ap (in_front (argument reading None (says r))) (arguments-none [] raws i raw (omega arith) is here) ∙ front-none (argument reading None (says r))
  arguments-none (a ∷ sorts) (r ∷ raws) (suc i) raw within is here = ap (in_front (argument reading (Some a) (says r))) (arguments-none sorts raws i raw (omega arith) is here) ∙ front-none (argument reading (Some a) (says r))

-- the answer for an argument is that for its place
pub argument_is : {X : Type 0} (reading : Reading X) (told place : Option Sort) (part : Said X) (answer x : Option X) → told ≡ place → answer ≡ argument reading told part → answer ≡ x → argument reading place part ≡ x
argument_is reading told place part answer x same is here = ap (λ a. argument reading a part) (sym same) ∙ sym is ∙ here

-- what a tree is that stands where nothing tells a width is what it is as an argument there
pub heard-is : {X : Type 0} (reading : Reading X) (part : Said X) → heard part ≡ argument reading None part
heard-is reading (bare n) = refl
heard-is reading (whole x) = refl
heard-is reading nothing = refl

-- what is said by itself is the same in every place
pub said-is : {X : Type 0} (reading : Reading X) (place : Option Sort) (answer : Option X) → argument reading place (said answer) ≡ answer
said-is reading place None = refl
said-is reading place (Some x) = refl
