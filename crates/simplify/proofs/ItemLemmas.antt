-- Lists of one, of two and of three, by what is read from them.
use Rattle.std.proofs.Common.{arith, ◌≡◌, List, [], ◌∷◌, length, get_or, sym}

pub one_item : {X : Type 0} (xs : List X) (a : X) → length xs ≡ 1 → a ≡ get_or xs 0 a → xs ≡ a ∷ []
one_item [] a long p = absurd (omega arith)
one_item (x ∷ []) a long p = λ i. sym p i ∷ []
one_item (x ∷ y ∷ xs) a long p = absurd (omega arith)

pub two_items : {X : Type 0} (xs : List X) (a b : X) → length xs ≡ 2 → a ≡ get_or xs 0 a → b ≡ get_or xs 1 b → xs ≡ a ∷ b ∷ []
two_items [] a b long p q = absurd (omega arith)
two_items (x ∷ []) a b long p q = absurd (omega arith)
two_items (x ∷ y ∷ []) a b long p q = λ i. sym p i ∷ sym q i ∷ []
two_items (x ∷ y ∷ z ∷ xs) a b long p q = absurd (omega arith)

pub three_items : {X : Type 0} (xs : List X) (a b c : X) → length xs ≡ 3 → a ≡ get_or xs 0 a → b ≡ get_or xs 1 b → c ≡ get_or xs 2 c → xs ≡ a ∷ b ∷ c ∷ []
three_items [] a b c long p q r = absurd (omega arith)
three_items (x ∷ []) a b c long p q r = absurd (omega arith)
three_items (x ∷ y ∷ []) a b c long p q r = absurd (omega arith)
three_items (x ∷ y ∷ z ∷ []) a b c long p q r = λ i. sym p i ∷ sym q i ∷ sym r i ∷ []
three_items (x ∷ y ∷ z ∷ w ∷ xs) a b c long p q r = absurd (omega arith)
