-- Lists of a known length, by their elements.
use Rattle.std.proofs.Common.{◌≡◌, ℕ, zero, suc, ◌+◌, ◌≤◌, ◌<◌, ◌++◌, List, [], ◌∷◌, get_or, length, map, take, drop, ◌-◌, refl, sym, ◌∙◌, ap, arith, add-zero, get_or-drop, length-drop, length-append}
use Rattle.std.proofs.lemmas.List.{take_all, length-map, take-append-drop}

pub list_1 : {X : Type 0} (xs : List X) (a : X) → 1 ≤ length xs → length xs < 2 → a ≡ get_or xs 0 a → xs ≡ a ∷ []
list_1 [] a low high p = absurd (omega arith)
list_1 (x ∷ []) a low high p = cc
list_1 (x ∷ y ∷ xs) a low high p = absurd (omega arith)

pub list_2 : {X : Type 0} (xs : List X) (a b : X) → 2 ≤ length xs → length xs < 3 → a ≡ get_or xs 0 a → b ≡ get_or xs 1 b → xs ≡ a ∷ b ∷ []
list_2 [] a b low high p q = absurd (omega arith)
list_2 (x ∷ xs) a b low high p q = let rest : xs ≡ b ∷ [] = list_1 xs b (omega arith) (omega arith) q in cc

pub list_3 : {X : Type 0} (xs : List X) (a b c : X) → 3 ≤ length xs → length xs < 4 → a ≡ get_or xs 0 a → b ≡ get_or xs 1 b → c ≡ get_or xs 2 c → xs ≡ a ∷ b ∷ c ∷ []
list_3 [] a b c low high p q r = absurd (omega arith)
list_3 (x ∷ xs) a b c low high p q r = let rest : xs ≡ b ∷ c ∷ [] = list_2 xs b c (omega arith) (omega arith) q r in cc

pub list_4 : {X : Type 0} (xs : List X) (a b c d : X) → 4 ≤ length xs → length xs < 5 → a ≡ get_or xs 0 a → b ≡ get_or xs 1 b → c ≡ get_or xs 2 c → d ≡ get_or xs 3 d → xs ≡ a ∷ b ∷ c ∷ d ∷ []
list_4 [] a b c d low high p q r s = absurd (omega arith)
list_4 (x ∷ xs) a b c d low high p q r s = let rest : xs ≡ b ∷ c ∷ d ∷ [] = list_3 xs b c d (omega arith) (omega arith) q r s in cc

pub list_0 : {X : Type 0} (xs : List X) → length xs < 1 → xs ≡ []
list_0 [] low = refl
list_0 (x ∷ xs) low = absurd (omega arith)

pub list_cons : {X : Type 0} (xs : List X) (a : X) → 1 ≤ length xs → a ≡ get_or xs 0 a → xs ≡ a ∷ take (length xs - 1) (drop 1 xs)
list_cons [] a low p = absurd (omega arith)
list_cons (x ∷ xs) a low p = let rest : take (length (x ∷ xs) - 1) xs ≡ xs = take_all (length (x ∷ xs) - 1) xs (omega arith) in cc

-- as many as what is made of them
pub length_of : {X Y : Type 0} (f : X → Y) (xs : List X) (ys : List Y) → map f xs ≡ ys → length xs ≡ length ys
length_of f xs ys e = sym (length-map xs f) ∙ ap length e

-- the two last elements
pub list_last : {X : Type 0} (xs : List X) (a b : X) → 2 ≤ length xs → a ≡ get_or xs (length xs - 2) a → b ≡ get_or xs (length xs - 1) b → xs ≡ take (length xs - 2) xs ++ a ∷ b ∷ []
list_last xs a b low p q =
    let count : length (drop (length xs - 2) xs) ≡ 2 = simp length-drop (omega arith) in
    let first : a ≡ get_or (drop (length xs - 2) xs) 0 a = rw (get_or-drop, add-zero) p in
    let place : length xs - 2 + 1 ≡ length xs - 1 = omega arith in
    let second : b ≡ get_or (drop (length xs - 2) xs) 1 b = rw (get_or-drop, place) q in
    let end : drop (length xs - 2) xs ≡ a ∷ b ∷ [] = list_2 (drop (length xs - 2) xs) a b (omega arith) (omega arith) first second in
    sym (take-append-drop (length xs - 2) xs) ∙ ap (λ ys. take (length xs - 2) xs ++ ys) end

-- what stands before the two last elements, and these
pub same_ends : {X : Type 0} (xs ys : List X) (a b c d : X) → xs ++ a ∷ b ∷ [] ≡ ys ++ c ∷ d ∷ [] → (xs ≡ ys) × (a ≡ c) × (b ≡ d)
same_ends [] [] a b c d e = (refl, cc, cc)
same_ends [] (y ∷ ys) a b c d e = let count : 2 ≡ length (y ∷ ys) + 2 = ap length e ∙ length-append (y ∷ ys) (c ∷ d ∷ []) in absurd (omega arith)
same_ends (x ∷ xs) [] a b c d e = let count : 2 ≡ length (x ∷ xs) + 2 = ap length (sym e) ∙ length-append (x ∷ xs) (a ∷ b ∷ []) in absurd (omega arith)
same_ends (x ∷ xs) (y ∷ ys) a b c d e =
    let rest = same_ends xs ys a b c d (cc) in
    let front : x ≡ y = cc in
    (ap (λ z. z ∷ xs) front ∙ ap (λ zs. y ∷ zs) rest.0, rest.1, rest.2)

-- the first three elements
pub list_3_up : {X : Type 0} (xs : List X) (a b c : X) → 3 ≤ length xs → a ≡ get_or xs 0 a → b ≡ get_or xs 1 b → c ≡ get_or xs 2 c → xs ≡ a ∷ b ∷ c ∷ take (length xs - 3) (drop 3 xs)
list_3_up [] a b c low p q r = absurd (omega arith)
list_3_up (x ∷ []) a b c low p q r = absurd (omega arith)
list_3_up (x ∷ y ∷ []) a b c low p q r = absurd (omega arith)
list_3_up (x ∷ y ∷ z ∷ xs) a b c low p q r = let rest : take (length (x ∷ y ∷ z ∷ xs) - 3) xs ≡ xs = take_all (length (x ∷ y ∷ z ∷ xs) - 3) xs (omega arith) in cc

-- the first of what is made of elements
pub map_front : {X Y : Type 0} (f : X → Y) (xs : List X) (a : X) (y : Y) (ys : List Y) → 1 ≤ length xs → a ≡ get_or xs 0 a → map f xs ≡ y ∷ ys → f a ≡ y
map_front f [] a y ys low p e = absurd (omega arith)
map_front f (x ∷ xs) a y ys low p e = let same : a ≡ x = p in let first : f x ≡ y = cc in ap f same ∙ first

-- what is made of elements up to a place, and from there on
pub parts_at : {X Y : Type 0} (f : X → Y) (xs : List X) (n : ℕ) (ys zs : List Y) → map f xs ≡ ys ++ zs → n ≡ length ys → (map f (take n xs) ≡ ys) × (map f (drop n xs) ≡ zs)
parts_at f xs zero [] zs e count = (refl, e)
parts_at f xs zero (y ∷ ys) zs e count = absurd (omega arith)
parts_at f xs (suc n) [] zs e count = absurd (omega arith)
parts_at f [] (suc n) (y ∷ ys) zs e count = absurd cc
parts_at f (x ∷ xs) (suc n) (y ∷ ys) zs e count =
    let rest = parts_at f xs n ys zs (cc) (omega arith) in
    let first : f x ≡ y = cc in
    let before : map f (take n xs) ≡ ys = rest.0 in (cc, rest.1)

pub list_2_up : {X : Type 0} (xs : List X) (a b : X) → 2 ≤ length xs → a ≡ get_or xs 0 a → b ≡ get_or xs 1 b → xs ≡ a ∷ b ∷ take (length xs - 2) (drop 2 xs)
list_2_up [] a b low p q = absurd (omega arith)
list_2_up (x ∷ []) a b low p q = absurd (omega arith)
list_2_up (x ∷ y ∷ xs) a b low p q = let rest : take (length (x ∷ y ∷ xs) - 2) xs ≡ xs = take_all (length (x ∷ y ∷ xs) - 2) xs (omega arith) in cc

pub list_4_up : {X : Type 0} (xs : List X) (a b c d : X) → 4 ≤ length xs → a ≡ get_or xs 0 a → b ≡ get_or xs 1 b → c ≡ get_or xs 2 c → d ≡ get_or xs 3 d → xs ≡ a ∷ b ∷ c ∷ d ∷ take (length xs - 4) (drop 4 xs)
list_4_up [] a b c d low p q r s = absurd (omega arith)
list_4_up (x ∷ []) a b c d low p q r s = absurd (omega arith)
list_4_up (x ∷ y ∷ []) a b c d low p q r s = absurd (omega arith)
list_4_up (x ∷ y ∷ z ∷ []) a b c d low p q r s = absurd (omega arith)
list_4_up (x ∷ y ∷ z ∷ w ∷ xs) a b c d low p q r s = let rest : take (length (x ∷ y ∷ z ∷ w ∷ xs) - 4) xs ≡ xs = take_all (length (x ∷ y ∷ z ∷ w ∷ xs) - 4) xs (omega arith) in cc

-- what stands behind the same first element
pub behind_word : {X : Type 0} (a : X) (xs ys : List X) → a ∷ xs ≡ a ∷ ys → xs ≡ ys
behind_word a xs ys e = cc
