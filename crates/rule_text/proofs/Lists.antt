-- Lists of forms and what each of them writes, as loops make them.
use Rattle.std.proofs.Common.{◌≡◌, ℕ, zero, suc, ◌+◌, ◌≤◌, ◌<◌, List, [], ◌∷◌, ◌++◌, map, take, get_or, length, All, Result, Ok, Err, IsOkAnd, IfOk, Bool, true, ◌&&◌, sym, ◌∙◌, ap, subst, arith}
use Rattle.std.specs.List.{list_all, AllPass}
use Rattle.std.proofs.lemmas.List.{map_more, map-append, take_all}
use Rattle.std.proofs.lemmas.List.Elements.{All-push, All-head, All-tail}
use Rattle.std.proofs.lemmas.List.Sums.{AllPass-from_list_all, list_all-from_AllPass}
use Rattle.std.proofs.lemmas.List.Folds.{list_all-map}

pub and_true : (a b : Bool) → a ≡ true → b ≡ true → (a && b) ≡ true
and_true a b p q = ap (λ t. t && b) p ∙ q

-- one more value behind those of the forms so far
pub map_pushed : {X Y Z : Type 0} (f : X → Z) (g : Y → Z) (xs : List X) (i : ℕ) (x : X) (ys zs : List Y) (y : Y) → i < length xs → x ≡ get_or xs i x → map f (take i xs) ≡ map g ys → f x ≡ g y → zs ≡ ys ++ y ∷ [] → map f (take (i + 1) xs) ≡ map g zs
map_pushed f g xs i x ys zs y within is so_far here pushed =
    map_more f xs i x within
    ∙ ap (λ us. us ++ f (get_or xs i x) ∷ []) so_far
    ∙ ap (λ u. map g ys ++ u ∷ []) (ap f (sym is) ∙ here)
    ∙ sym (map-append g ys (y ∷ []))
    ∙ ap (map g) (sym pushed)

-- the loop has come to the end
pub map_whole : {X Y Z : Type 0} (f : X → Z) (g : Y → Z) (xs : List X) (i : ℕ) (ys : List Y) → length xs ≤ i → map f (take i xs) ≡ map g ys → map f xs ≡ map g ys
map_whole f g xs i ys end so_far = ap (map f) (sym (take_all i xs end)) ∙ so_far

-- one more value that is as all before it
pub All_pushed : {Y : Type 0} (P : Y → Type 0) (ys zs : List Y) (y : Y) → All P ys → P y → zs ≡ ys ++ y ∷ [] → All P zs
All_pushed P ys zs y so_far here pushed = subst (All P) (sym pushed) (All-push P ys y so_far here)

-- the value that stands at the place of an element
pub value_at : {X Y Z : Type 0} (f : X → Z) (g : Y → Z) (P : Y → Type 0) (xs : List X) (ys : List Y) (i : ℕ) (x : X) → map f xs ≡ map g ys → All P ys → i < length xs → x ≡ get_or xs i x → (y : Y) × (f x ≡ g y) × P y
value_at f g P [] ys i x e all within is = absurd (omega arith)
value_at f g P (a ∷ xs) [] i x e all within is = absurd cc
value_at f g P (a ∷ xs) (b ∷ ys) zero x e all within is = let first : f a ≡ g b = cc in (b, ap f is ∙ first, All-head P b ys all)
value_at f g P (a ∷ xs) (b ∷ ys) (suc i) x e all within is = let rest : map f xs ≡ map g ys = cc in value_at f g P xs ys i x rest (All-tail P b ys all) (omega arith) is

-- all tests are passed exactly where each element passes its own
pub AllPass_of : {Y : Type 0} (p : Y → Bool) (ys : List Y) → list_all (λ t. t) (map p ys) ≡ true → AllPass p ys
AllPass_of p ys h = AllPass-from_list_all p ys (sym (list_all-map (λ t. t) p ys) ∙ h)

pub list_all_of : {Y : Type 0} (p : Y → Bool) (ys : List Y) → AllPass p ys → list_all (λ t. t) (map p ys) ≡ true
list_all_of p ys h = list_all-map (λ t. t) p ys ∙ list_all-from_AllPass p ys h

-- what is known of an answer, where there is one, and there is
pub both_ok : {X E : Type 0} (r : Result X E) (P Q : X → Type 0) → IsOkAnd r P → IfOk r Q → (x : X) × P x × Q x
both_ok (Ok x) P Q p q = (x, p, q)
both_ok (Err e) P Q p q = absurd p
