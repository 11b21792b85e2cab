-- Lists whose last item comes first.
use Rattle.std.proofs.Common.{◌≡◌, ℕ, zero, suc, ◌<◌, List, [], ◌∷◌, ◌++◌, reverse, take, drop, length, refl, ap, ◌∙◌, arith}
use Rattle.std.proofs.lemmas.List.{reverse-append}

pub reverse_cons : {X : Type 0} (x : X) (xs : List X) → reverse (x ∷ xs) ≡ reverse xs ++ x ∷ []
reverse_cons x xs = reverse-append (x ∷ []) xs

pub reverse_push : {X : Type 0} (xs ys : List X) (x : X) → ys ≡ xs ++ x ∷ [] → reverse ys ≡ x ∷ reverse xs
reverse_push xs ys x e = ap reverse e ∙ reverse-append xs (x ∷ [])

-- the item behind the first ones
pub taken_more : {X : Type 0} (k : ℕ) (xs : List X) (x : X) (ys : List X) → drop k xs ≡ x ∷ ys → take (suc k) xs ≡ take k xs ++ x ∷ []
taken_more zero [] x ys e = absurd (cc)
taken_more zero (z ∷ xs) x ys e = let same : z ≡ x = cc in ap (λ y. y ∷ []) same
taken_more (suc k) [] x ys e = absurd (cc)
taken_more (suc k) (z ∷ xs) x ys e = ap (λ l. z ∷ l) (taken_more k xs x ys e)

-- those behind it
pub dropped_more : {X : Type 0} (k : ℕ) (xs : List X) (x : X) (ys : List X) → drop k xs ≡ x ∷ ys → drop (suc k) xs ≡ ys
dropped_more zero [] x ys e = absurd (cc)
dropped_more zero (z ∷ xs) x ys e = cc
dropped_more (suc k) [] x ys e = absurd (cc)
dropped_more (suc k) (z ∷ xs) x ys e = dropped_more k xs x ys e

-- there is one
pub some_dropped : {X : Type 0} (k : ℕ) (xs : List X) → k < length xs → drop k xs ≡ [] → ⊥
some_dropped k [] low e = omega arith
some_dropped zero (z ∷ xs) low e = cc
some_dropped (suc k) (z ∷ xs) low e = some_dropped k xs (omega arith) e

pub none_reversed : {X : Type 0} (xs : List X) → length xs ≡ 0 → reverse xs ≡ []
none_reversed [] e = refl
none_reversed (x ∷ xs) e = absurd (omega arith)
