-- Steps of loops over lists.
use Rattle.std.proofs.Common.{arith, ◌≡◌, ℕ, zero, suc, ◌+◌, ◌<◌, Bool, IsTrue, List, [], ◌∷◌, ◌++◌, length, map, take, get_or, All, sym, ap, subst, ◌∙◌}
use Rattle.std.specs.List.{list_all}
use Rattle.std.proofs.lemmas.Bool.{and_parts}
use Rattle.std.proofs.lemmas.List.{take_more, map-append}
use Rattle.std.proofs.lemmas.List.Elements.{All-nil, All-cons, All-head, All-tail}

-- what every image passes, that of the item at i does
pub test_at : {X Y : Type 0} (f : X → Y) (p : Y → Bool) (xs : List X) (i : ℕ) (x : X) → i < length xs → x ≡ get_or xs i x → IsTrue (list_all p (map f xs)) → IsTrue (p (f x))
test_at f p [] i x lt is h = absurd (omega arith)
test_at f p (y ∷ ys) zero x lt is h = ap (λ z. p (f z)) is ∙ (and_parts (p (f y)) (list_all p (map f ys)) h).0
test_at f p (y ∷ ys) (suc i) x lt is h = test_at f p ys i x (omega arith) is (and_parts (p (f y)) (list_all p (map f ys)) h).1

-- the images of the first i + 1 items are those of the first i and that of the item at i
pub mapped_more : {X Y : Type 0} (f g : X → Y) (cs ds xs : List X) (i : ℕ) (c x : X) → i < length xs → x ≡ get_or xs i x → ds ≡ cs ++ c ∷ [] → map f cs ≡ map g (take i xs) → f c ≡ g x → map f ds ≡ map g (take (i + 1) xs)
mapped_more f g cs ds xs i c x lt is more so_far here =
    let e = ap (map f) more ∙ map-append f cs (c ∷ []) in
    let d = ap (map g) (take_more xs i x lt) ∙ map-append g (take i xs) (get_or xs i x ∷ []) in
    let h : f c ≡ g (get_or xs i x) = here ∙ ap g is in
    cc

-- what holds of all items and of one more
pub all_front : {X : Type 0} (P : X → Type 0) (xs : List X) (x : X) → All P (xs ++ x ∷ []) → All P xs × P x
all_front P [] x a = (All-nil P, All-head P x [] a)
all_front P (y ∷ ys) x a =
    let r = all_front P ys x (All-tail P y (ys ++ x ∷ []) a) in
    (All-cons P y ys (All-head P y (ys ++ x ∷ []) a) r.0, r.1)

-- what holds of all images holds of the images
pub all_mapped : {X Y : Type 0} (P : Y → Type 0) (f : X → Y) (xs : List X) → All P (map f xs) → All (λ x. P (f x)) xs
all_mapped P f [] a = All-nil (λ x. P (f x))
all_mapped P f (x ∷ xs) a = All-cons (λ y. P (f y)) x xs (All-head P (f x) (map f xs) a) (all_mapped P f xs (All-tail P (f x) (map f xs) a))

-- what holds of all images holds of that of the item at i
pub mapped_at : {X Y : Type 0} (P : Y → Type 0) (f : X → Y) (xs : List X) (i : ℕ) (x : X) → All P (map f xs) → i < length xs → x ≡ get_or xs i x → P (f x)
mapped_at P f xs i x all lt is = subst (λ y. P (f y)) (sym is) (all_mapped P f xs all i x lt)
